-- The refusals in order, and what holds where nothing is refused. Assumes nothing.
use Rattle.std.specs.Prelude.{⊤, Result, Ok, Err}
use mathlib.Core.Path.{◌≡◌, sym, ap, ◌∙◌}
use mathlib.Core.List.{◌++◌}
use Prim.Native.Nat.{ℕ, ◌*◌, ◌/◌, ◌%◌, ◌≤◌, ◌<◌}
use lib.ListN.{length}
use borrow.Author.Tests.{eq-eqb, ne_eqb, lt-ltb, le-ltb}
use Rattle.scope.specs.declared.Refusal.{Refusal}
use Rattle.scope.specs.declared.Refusal.TheVariants.{Query, Room, Batch}
use Rattle.scope.specs.Tables.{Index, n}
use Rattle.scope.specs.Refusals.{Rows, refusal, one_to_three, few_marks, mark_words, of_built, unless, allowed}
use Rattle.scope.specs.Batch.{Handed, queries_in, not_whole, too_large, batch_rows, batch_number}
use Rattle.scope.proofs.Rows.{unless-append, unless_past, unless-map, passed, refuses_all, fits}
use Rattle.scope.proofs.Shapes.{facts}
use Rattle.scope.proofs.Batch.{Clear, clear}
use Rattle.batch.specs.Part.{total}

-- ---- by what `refused` gives

pub clear_fine : (c : Handed) → Ok tt ≡ allowed (batch_rows c) → Clear c
clear_fine c h = clear c (passed (batch_rows c) tt h).0

pub number_is : (c : Handed) (f : Refusal) → Err f ≡ allowed (batch_rows c) → batch_number c ≡ (refusal f).0
unfolding batch_number
number_is c f h = sym (unless-map (λ (r : Result ⊤ Refusal). (of_built r).0) (batch_rows c) Err (Ok tt)) ∙ ap (λ (r : Result ⊤ Refusal). (of_built r).0) (sym h)

-- past refusals 1 to 3
abbrev later : Handed → Rows
later c = not_whole c.index.shape c.queries ++ few_marks c.index c.marks ++ too_large c

-- what the tests past them go by: a code's words, and how many words mark the entries
pub record Past (c : Handed) (w words : ℕ) : Type 0 where
  pub rows : allowed (batch_rows c) ≡ allowed (later c)
  pub w_is : w ≡ c.index.shape.w
  pub words_are : words ≡ mark_words (n c.index)

module _ (c : Handed) where
  pub first_three : {f : Refusal} → Err f ≡ unless (one_to_three c.index) Err (Ok c.index) → allowed (batch_rows c) ≡ Err f
  first_three e = unless-append (one_to_three c.index) (later c) Err (Ok tt) ∙ refuses_all (one_to_three c.index) c.index e (allowed (later c))

  module _ {x : Index} (e : Ok x ≡ unless (one_to_three c.index) Err (Ok c.index)) where
    accepted : x ≡ c.index
    accepted = (passed (one_to_three c.index) c.index e).1

    past_three : allowed (batch_rows c) ≡ allowed (later c)
    past_three = unless_past (one_to_three c.index) (later c) Err (Ok tt) (passed (one_to_three c.index) c.index e).0

    module _ {y : Index} {w : ℕ} (view : y ≡ x) (is : w ≡ y.shape.w) where
      w_is : w ≡ c.index.shape.w
      w_is = is ∙ ap (λ (x : Index). x.shape.w) (view ∙ accepted)

      pub words : 0 < w
      words = rw w_is (facts _ (fits c.index (passed (one_to_three c.index) c.index e).0).shape).some_words

      pub not_whole_code : (length c.queries % w ≡ 0 → ⊥) → Err Query ≡ allowed (batch_rows c)
      unfolding unless
      not_whole_code h = let h' = rw w_is at h in sym (past_three ∙ rw (ne_eqb _ 0 h'))

      pub past : {words : ℕ} → words ≡ mark_words (n x) → Past c w words
      past up = record { rows = past_three; w_is = w_is; words_are = up ∙ ap (λ (x : Index). mark_words (n x)) accepted }

-- the tests past them, one after the other
module _ (c : Handed) {w words : ℕ} (p : Past c w words) (whole : length c.queries % w ≡ 0) where
  abbrev count : ℕ
  count = length c.queries / w

  pub marks_short : length c.marks < words → Err Room ≡ allowed (batch_rows c)
  unfolding unless
  marks_short h = let one = rw p.w_is at whole in let h' = rw p.words_are at h in sym (p.rows ∙ rw (eq-eqb _ 0 one, lt-ltb _ _ h'))

  module _ (marked : words ≤ length c.marks) where
    past_five : allowed (batch_rows c) ≡ allowed (too_large c)
    unfolding unless
    past_five = let one = rw p.w_is at whole in let two = rw p.words_are at marked in p.rows ∙ rw (eq-eqb _ 0 one, le-ltb _ _ two)

    pub too_many : 256 < count → Err Batch ≡ allowed (batch_rows c)
    unfolding unless
    too_many h = let h' = rw p.w_is at h in sym (past_five ∙ rw (lt-ltb _ _ h'))

    module _ (few : count ≤ 256) where
      pub records_short : c.places < count * c.k → Err Batch ≡ allowed (batch_rows c)
      unfolding unless
      records_short h = let one = rw p.w_is at few in let h' = rw p.w_is at h in sym (past_five ∙ rw (le-ltb _ _ one, lt-ltb _ _ h'))

      module _ (room : count * c.k ≤ c.places) where
        pub outcomes_short : length c.outcomes < 4 * count → Err Batch ≡ allowed (batch_rows c)
        unfolding unless
        outcomes_short h =
            let one = rw p.w_is at few in let two = rw p.w_is at room in let h' = rw p.w_is at h in sym (past_five ∙ rw (le-ltb _ _ one, le-ltb _ _ two, lt-ltb _ _ h'))

        pub all_fit : 4 * count ≤ length c.outcomes → Ok tt ≡ allowed (batch_rows c)
        unfolding unless
        all_fit h =
            let one = rw p.w_is at few in let two = rw p.w_is at room in let h' = rw p.w_is at h in sym (past_five ∙ rw (le-ltb _ _ one, le-ltb _ _ two, le-ltb _ _ h'))

-- ---- what holds then

pub all-places : (c : Handed) → Clear c → total c ≡ queries_in c * c.k
unfolding total
all-places c h = rw h.number

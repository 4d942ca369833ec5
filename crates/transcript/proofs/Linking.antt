-- The lists of a running session hold its catalogue and, from the first question on, its tables. Assumes nothing.
use mathlib.Core.Path.{◌≡◌, refl, ap, sym, ◌∙◌}
use mathlib.Core.Bool.{Bool, true, false}
use mathlib.Core.List.{List, [], ◌∷◌, ◌++◌}
use mathlib.Core.Logic.{◌⊎◌, inl, inr, ⊎_elim}
use Prim.Native.Nat.{ℕ, ◌+◌, ◌*◌, ◌≤◌, ◌<◌}
use native.Mathlib.Nat.{mul_comm, mul-le-mul}
use native.Mathlib.Numerals.{add-one}
use native.Mathlib.Omega.{arith}
use lib.ListN.{length, take, replicate, length-append, length-set}
use lib.Seq.{length-take-le, take-suc-set, take_at, sets, sets-eq, length-sets}
use Rattle.theory.proofs.Tests.{both_ways, lt-or-le}
use Rattle.scope.specs.declared.Shape.{Shape}
use Rattle.scope.specs.Tables.{Index, index}
use Rattle.scope.specs.Calls.{build_end, build_answer}
use Rattle.reading.specs.declared.Session.{Session}
use Rattle.reading.specs.declared.Code.{Code}
use Rattle.reading.specs.declared.Question.{Question}
use Rattle.reading.specs.declared.Record.TheVariants.{Head, Entry, Ask}
use Rattle.reading.specs.Records.{Next, code_at, record_of}
use Rattle.std.specs.Prelude.{Some, None, Ok, Err}
use Rattle.reading.proofs.Going.{head_first, entry_next, entry_code, ask_last}
use Rattle.reading.specs.State.{start_of, number_of, next_of}
use Rattle.transcript.specs.Opening.{opening}
use Rattle.transcript.specs.Questions.{shape_of, words_of, reply}
use Rattle.transcript.specs.Transcript.{built, fresh, text_in, stars_with, codes_with}
use Rattle.transcript.specs.Turn.{index_of, code_kept, tabled, desk_after, text_of, empty}
use Rattle.transcript.specs.declared.Desk.{Desk}
use Rattle.transcript.proofs.Room.{Headed, builds}
use Rattle.transcript.proofs.Replies.{Sized, fresh_sized, same_text, still_sized}

pub record Linked (session : Session) (d : Desk) (stars codes : List ℕ) : Type 0 where
  pub count : length stars ≡ session.entries
  pub few : session.entries ≤ 512
  pub narrow : session.words ≤ 2
  pub headed : (session.words ≡ 0 → ⊥) → Headed (shape_of session)
  pub headless : session.words ≡ 0 → (session.entries ≡ 0) × (session.asked ≡ false)
  pub kept : take session.entries d.catalogue.stars ≡ stars
  pub held : take (session.entries * session.words) d.catalogue.codes ≡ codes
  pub places : length d.catalogue.stars ≡ 512
  pub words : length d.catalogue.codes ≡ 1024
  pub unbuilt : session.asked ≡ false → (d.catalogue.starts ≡ replicate 4112 0) × (d.catalogue.ids ≡ replicate 16384 0)
  pub tables : session.asked ≡ true → (d.catalogue.starts ≡ (built (shape_of session) stars codes).starts) × (d.catalogue.ids ≡ (built (shape_of session) stars codes).ids)
  pub sized : Sized d.lists

pub linked_start : Linked start_of empty [] []
linked_start =
    record {
      count = refl;
      few = omega arith;
      narrow = omega arith;
      headed = λ some. absurd (some refl);
      headless = λ _. (refl, refl);
      kept = refl;
      held = refl;
      places = refl;
      words = refl;
      unbuilt = λ _. (refl, refl);
      tables = λ h. both_ways (sym h);
      sized = fresh_sized;
    }

-- a code has its session's words
code-long : (w at : ℕ) (b : List ℕ) → (w ≡ 1) ⊎ (w ≡ 2) → length (words_of (code_at w b at)) ≡ w
code-long w at b (inl one) = rw one
code-long w at b (inr two) = rw two

-- one more code, behind those before it
code_kept_lem : (w e : ℕ) (code : Code) (l : List ℕ) → length (words_of code) ≡ w → w ≤ 2 → e < 512 → length l ≡ 1024
    → take ((e + 1) * w) (code_kept e code l) ≡ take (e * w) l ++ words_of code
code_kept_lem w e code l long narrow few room =
    let c = words_of code in
    let place : length c * e ≡ e * w = mul_comm (length c) e ∙ ap (λ (k : ℕ). e * k) long in
    let next : (e + 1) * w ≡ e * w + w = omega arith in
    let fits : e * w + w ≤ 1024 = let most : e + 1 ≤ 512 = omega arith in omega (arith, mul-le-mul most narrow) in
    ap (λ (k : ℕ). take ((e + 1) * w) (sets l k c)) place ∙ ap (take ((e + 1) * w)) (sets-eq c l (e * w) (omega arith))
    ∙ take_at (take (e * w) l ++ c) _ _ (length-append (take (e * w) l) c ∙ omega (arith, length-take-le (e * w) l (omega arith)))

one_or_two : (w : ℕ) → (w ≡ 0 → ⊥) → w ≤ 2 → (w ≡ 1) ⊎ (w ≡ 2)
one_or_two w some most = ⊎_elim (λ (l : w < 2). inl (omega (arith, ne_zero w some))) (λ (g : 2 ≤ w). inr (omega arith)) (lt-or-le w 2)
  where
    ne_zero : (w : ℕ) → (w ≡ 0 → ⊥) → 0 < w
    ne_zero w h = ⊎_elim (λ (l : w < 1). absurd (h (omega arith))) (λ (g : 1 ≤ w). omega arith) (lt-or-le w 1)

index_is : (sh : Shape) {a a' b b' c c' e e' : List ℕ} → a ≡ a' → b ≡ b' → c ≡ c' → e ≡ e' → index sh a b c e ≡ index sh a' b' c' e'
index_is sh p q r t = λ i. index sh (p i) (q i) (r i) (t i)

module _ (session : Session) (d : Desk) (stars codes : List ℕ) (link : Linked session d stars codes) where
  -- the index that a question is asked over
  tables_are : (t : Bool) → session.asked ≡ t
      → ((tabled session d.catalogue).starts ≡ (built (shape_of session) stars codes).starts) × ((tabled session d.catalogue).ids ≡ (built (shape_of session) stars codes).ids)
  unfolding built
  tables_are true e = let (p, q) = link.tables e in rw e (p, q)
  tables_are false e =
      let (p, q) = link.unbuilt e in
      let x = index_is (shape_of session) link.kept link.held p q in
      rw e (ap (λ (y : Index). (build_end y).starts) x, ap (λ (y : Index). (build_end y).ids) x)

  index-built : index_of session (tabled session d.catalogue) ≡ built (shape_of session) stars codes
  unfolding built
  index-built =
      let (p, q) = tables_are session.asked refl in
      index_is (shape_of session) link.kept link.held p q

  -- the tables are what the builder writes: after the head it is never refused
  pub never_refused : (session.words ≡ 0 → ⊥) → build_answer (index (shape_of session) stars codes (replicate 4112 0) (replicate 16384 0)) ≡ Ok tt
  never_refused some =
      let long : length codes ≡ session.entries * session.words =
      ap length (sym link.held) ∙ length-take-le (session.entries * session.words) d.catalogue.codes
      (omega (arith, link.words, mul-le-mul link.few link.narrow)) in
      builds (shape_of session) (link.headed some) stars codes (omega (arith, link.count, link.few)) (rw link.count long)

  -- a question prints what it prints over the catalogue, and keeps the link
  ask-text : (question : Question) (s : List ℕ) → text_of session d s (Ok (Some (Ask question))) ≡ text_in session stars codes s (Ok (Some (Ask question)))
  unfolding built
  ask-text question s =
      ap (λ (t : List ℕ). opening session ++ t)
      (ap (λ (x : Index). (reply (number_of session) x d.lists question s).text) index-built
      ∙ same_text (number_of session) (built (shape_of session) stars codes) (omega (arith, link.count, link.few)) d.lists fresh link.sized fresh_sized question s)

  pub same_line : (s : List ℕ) (rec : Next) → text_of session d s rec ≡ text_in session stars codes s rec
  same_line s (Ok None) = refl
  same_line s (Err f) = refl
  same_line s (Ok (Some (Head w m))) = refl
  same_line s (Ok (Some (Entry star code))) = refl
  same_line s (Ok (Some (Ask question))) = ask-text question s

  linked_head : (s : List ℕ) (w m : ℕ) → record_of session s ≡ Ok (Some (Head w m)) → Linked (next_of session (Ok (Some (Head w m)))) d stars codes
  linked_head s w m e =
      let (none, (some, least, most)) = head_first session s w m e in
      let (z, quiet) = link.headless none in
      let same : session.entries * w ≡ session.entries * session.words = rw z (omega arith) in
      record {
        count = link.count;
        few = link.few;
        narrow = ⊎_elim (λ (h : w ≡ 1). omega arith) (λ (h : w ≡ 2). omega arith) some;
        headed = λ _. record { words = some; least = least; most = most };
        headless = λ h. (z, quiet);
        kept = link.kept;
        held = rw same link.held;
        places = link.places;
        words = link.words;
        unbuilt = link.unbuilt;
        tables = λ h. both_ways (sym h ∙ quiet);
        sized = link.sized;
      }

  linked_entry : (s : List ℕ) (star : ℕ) (code : Code) → record_of session s ≡ Ok (Some (Entry star code))
      → Linked (next_of session (Ok (Some (Entry star code)))) (desk_after session d s (Ok (Some (Entry star code)))) (stars ++ star ∷ []) (codes ++ words_of code)
  linked_entry s star code e =
      let (some, quiet, few) = entry_next session s star code e in
      let code-is = entry_code session s star code e in
      let long : length (words_of code) ≡ session.words =
      ap (λ (c : Code). length (words_of c)) code-is ∙ code-long session.words 4 _ (one_or_two session.words some link.narrow) in
      record {
        count = length-append stars (star ∷ []) ∙ ap (λ (k : ℕ). k + 1) link.count;
        few = omega arith;
        narrow = link.narrow;
        headed = link.headed;
        headless = λ h. absurd (some h);
        kept = rw (add-one session.entries) (take-suc-set d.catalogue.stars session.entries star (omega (arith, link.places)))
            ∙ ap (λ (l : List ℕ). l ++ star ∷ []) link.kept;
        held = code_kept_lem session.words session.entries code d.catalogue.codes long link.narrow few link.words ∙ ap (λ (l : List ℕ). l ++ words_of code) link.held;
        places = length-set d.catalogue.stars session.entries star ∙ link.places;
        words = length-sets d.catalogue.codes _ (words_of code) ∙ link.words;
        unbuilt = link.unbuilt;
        tables = λ h. both_ways (sym h ∙ quiet);
        sized = link.sized;
      }

  linked_ask : (s : List ℕ) (question : Question) → record_of session s ≡ Ok (Some (Ask question))
      → Linked (next_of session (Ok (Some (Ask question)))) (desk_after session d s (Ok (Some (Ask question)))) stars codes
  linked_ask s question e =
      let t = tables_are session.asked refl in
      let n : length (take session.entries d.catalogue.stars) ≡ session.entries = ap length link.kept ∙ link.count in
      record {
        count = link.count;
        few = link.few;
        narrow = link.narrow;
        headed = link.headed;
        headless = λ h. absurd (ask_last session s question e h);
        kept = link.kept;
        held = link.held;
        places = link.places;
        words = link.words;
        unbuilt = λ h. both_ways h;
        tables = λ h. t;
        sized = still_sized (number_of session) (index_of session (tabled session d.catalogue)) (omega (arith, link.few)) d.lists link.sized question s;
      }

  pub linked_on : (s : List ℕ) (rec : Next) → record_of session s ≡ rec
      → Linked (next_of session rec) (desk_after session d s rec) (stars_with stars rec) (codes_with codes rec)
  linked_on s (Ok None) e = link
  linked_on s (Err f) e = link
  linked_on s (Ok (Some (Head w m))) e = linked_head s w m e
  linked_on s (Ok (Some (Entry star code))) e = linked_entry s star code e
  linked_on s (Ok (Some (Ask question))) e = linked_ask s question e

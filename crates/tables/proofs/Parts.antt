-- The part of each list that belongs to table z, of an index to which none of refusals 1 to 3 fits: filled in turn, and read back in turn. Assumes nothing.
use mathlib.Core.Path.{◌≡◌, refl, sym, ap, ◌∙◌, subst}
use mathlib.Core.Logic.{⊎_elim}
use mathlib.Core.Bool.{Bool, true, false, ◌&&◌}
use mathlib.Core.List.{List}
use Prim.Native.Nat.{ℕ, zero, suc, ◌+◌, ◌-◌, ◌*◌, ◌^◌, ◌≤◌, ◌<◌}
use native.Mathlib.Nat.{zero-add}
use native.Mathlib.Numerals.{add-one}
use native.Mathlib.Omega.{arith}
use borrow.Rule.Slice.PartMut.{put_mid}
use lib.ListN.{length, take, drop, get_or}
use Rattle.std.specs.Bool.{MatchBool}
use Rattle.std.specs.List.{AllWithin, HoldsAt, range_with_len}
use Rattle.std.proofs.lemmas.List.FromFn.{get_or-range_with_len, length-range_with_len}
use Rattle.theory.specs.Lists.{cat, over, same}
use Rattle.theory.proofs.Tests.{either, and_left, and_right}
use Rattle.theory.proofs.Lists.{same_refl, same_true}
use Rattle.theory.proofs.Parts.{in_parts, part_long, over-next, read_next, read_part}
use Rattle.scope.specs.Codes.{substring, code_of}
use Rattle.scope.specs.Shape.{m, starts_before}
use Rattle.scope.specs.Shape.{size as size_of}
use Rattle.scope.specs.Tables.{Index, n, substring_of, starts_of, ids_of, built_starts, built_ids, sound}
use Rattle.scope.proofs.Rows.{Fits}
use Rattle.scope.proofs.Shapes.{facts, next_part, in_starts}
use Rattle.scope.proofs.Bucketing.{starts_in, ids_in, long_starts, long_ids, starts_before_lem, ids_before, sound-starts, sound_ids, is_sound}
use Rattle.buckets.specs.Substrings.{sub, size}
use Rattle.tables.specs.declared.Part.{Part}
use Rattle.tables.specs.Parts.{IsPart, right}

-- the part of z, of an index that fits
abbrev pub Is : Index → ℕ → Part → Type 0
Is x z p = IsPart x.shape (n x) x.codes z p

-- what the functions say of the table, in scope's words
module _ (x : Index) (z : ℕ) (p : Part) (r : Is x z p) where
  sub-same : sub p.table ≡ substring_of x z
  unfolding sub substring_of
  sub-same = λ j i. substring (r.first j) (r.bits j) (code_of (r.words j) (r.codes_are j) i)

  pub starts-same : starts_of (sub p.table) p.table.n (size p.table) ≡ starts_in x z
  starts-same = λ j. starts_of (sub-same j) (r.entries j) (2 ^ r.bits j)

  pub ids_same : ids_of (sub p.table) p.table.n (size p.table) ≡ ids_in x z
  ids_same = λ j. ids_of (sub-same j) (r.entries j) (2 ^ r.bits j)

-- where its parts stand in the two lists
pub record Turn (x : Index) (z : ℕ) (p : Part) : Type 0 where
  pub few_starts : p.starts.end ≤ 1048592
  pub starts_rise : p.starts.start ≤ p.starts.end
  pub ids_rise : p.ids.start ≤ p.ids.end
  pub starts_wide : p.starts.end - p.starts.start ≡ size_of x.shape z + 1
  pub ids_wide : p.ids.end - p.ids.start ≡ n x
  pub starts_in_lem : p.starts.end ≤ length x.starts
  pub ids_in_lem : p.ids.end ≤ length x.ids
  pub after_starts : length (cat (starts_in x) z) ≡ p.starts.start
  pub after_ids : length (cat (ids_in x) z) ≡ p.ids.start

pub turn : (x : Index) (z : ℕ) (p : Part) → Fits x → z < m x.shape → Is x z p → Turn x z p
turn x z p f h r =
    let g = facts x.shape f.shape in
    let next : p.starts.end ≡ p.starts.start + (size_of x.shape z + 1) =
    r.starts_end ∙ ap (starts_before x.shape) (add-one z) ∙ next_part x.shape g z ∙ ap (λ (k : ℕ). k + (size_of x.shape z + 1)) (sym r.starts_from) in
    record {
      few_starts = omega (arith, r.starts_end, in_starts x.shape g z h, g.all-starts);
      starts_rise = omega arith;
      ids_rise = omega (arith, r.ids_from, r.ids_end);
      starts_wide = omega arith;
      ids_wide = omega (arith, r.ids_from, r.ids_end);
      starts_in_lem = omega (arith, r.starts_end, in_starts x.shape g z h, f.starts);
      ids_in_lem = omega (arith, r.ids_end, in_parts z (m x.shape) (n x) h, f.ids);
      after_starts = starts_before_lem x g z ∙ sym r.starts_from;
      after_ids = ids_before x z ∙ sym r.ids_from;
    }

-- the parts that are lent are as long as the table asks
pub parts_long : (x : Index) (s d : List ℕ) (z : ℕ) (p : Part) → Is x z p → Turn x z p → length s ≡ length x.starts → length d ≡ length x.ids
    → (length (take (p.starts.end - p.starts.start) (drop p.starts.start s)) ≡ size p.table + 1) × (length (take (p.ids.end - p.ids.start) (drop p.ids.start d)) ≡ p.table.n)
parts_long x s d z p r t es ed = (
  part_long p.starts.start (p.starts.end - p.starts.start) s (omega (arith, t.starts_in_lem, t.starts_rise)) ∙ t.starts_wide ∙ rw r.bits,
  part_long p.ids.start (p.ids.end - p.ids.start) d (omega (arith, t.ids_in_lem, t.ids_rise)) ∙ t.ids_wide ∙ sym r.entries,
)

-- ---- filled

pub record Filled (x : Index) (starts ids : List ℕ) (z : ℕ) : Type 0 where
  pub upto : z ≤ m x.shape
  pub starts_are : starts ≡ over (cat (starts_in x) z) x.starts
  pub ids_are : ids ≡ over (cat (ids_in x) z) x.ids

pub filled_none : (x : Index) → Filled x x.starts x.ids 0
unfolding cat
filled_none x = record { upto = omega arith; starts_are = refl; ids_are = refl }

pub filled_next : (x : Index) (s d e k : List ℕ) (z : ℕ) (p : Part) → Filled x s d z → Is x z p → Turn x z p → z < m x.shape
    → e ≡ starts_of (sub p.table) p.table.n (size p.table) → k ≡ ids_of (sub p.table) p.table.n (size p.table)
    → Filled x (put_mid p.starts.start (p.starts.end - p.starts.start) s e) (put_mid p.ids.start (p.ids.end - p.ids.start) d k) (z + 1)
filled_next x s d e k z p f r t h es ks =
    rw (add-one z)
    (record {
      upto = h;
      starts_are = over-next (starts_in x) x.starts s e z p.starts.start (p.starts.end - p.starts.start) f.starts_are t.after_starts (long_starts x z ∙ sym t.starts_wide) (es ∙ starts-same x z p r);
      ids_are = over-next (ids_in x) x.ids d k z p.ids.start (p.ids.end - p.ids.start) f.ids_are t.after_ids (long_ids x z ∙ sym t.ids_wide) (ks ∙ ids_same x z p r);
    })

pub filled_all : (x : Index) (s d : List ℕ) (z : ℕ) → Filled x s d z → z ≡ m x.shape → (s ≡ over (built_starts x) x.starts) × (d ≡ over (built_ids x) x.ids)
unfolding built_starts built_ids
filled_all x s d z r e = (
  r.starts_are ∙ ap (λ (k : ℕ). over (cat (starts_in x) k) x.starts) e,
  r.ids_are ∙ ap (λ (k : ℕ). over (cat (ids_in x) k) x.ids) e,
)

-- ---- read back

-- what the check of a part says of table z
pub right_is : (x : Index) (z : ℕ) (p : Part) → Is x z p → Turn x z p
    → (same (take (p.starts.end - p.starts.start) (drop p.starts.start x.starts)) (starts_of (sub p.table) p.table.n (size p.table))
    && same (take (p.ids.end - p.ids.start) (drop p.ids.start x.ids)) (ids_of (sub p.table) p.table.n (size p.table))) ≡ right x z
unfolding right
right_is x z p r t = λ j. same (take (t.starts_wide j) (drop (r.starts_from j) x.starts)) (starts-same x z p r j) && same (take (t.ids_wide j) (drop (r.ids_from j) x.ids)) (ids_same x z p r j)

abbrev pub Right : Index → ℕ → Type 0
Right x z = right x z ≡ true

-- the first z tables' parts are
record Read (x : Index) (z : ℕ) : Type 0 where
  starts_are : take (length (cat (starts_in x) z)) x.starts ≡ cat (starts_in x) z
  ids_are : take (length (cat (ids_in x) z)) x.ids ≡ cat (ids_in x) z

module _ (x : Index) (f : Fits x) where
  before_starts : (z : ℕ) → length (cat (starts_in x) z) ≡ starts_before x.shape z
  before_starts z = starts_before_lem x (facts x.shape f.shape) z

  read : ((z : ℕ) → z < m x.shape → Right x z) → (z : ℕ) → z ≤ m x.shape → Read x z
  unfolding cat right
  read all zero h = record { starts_are = refl; ids_are = refl }
  read all (suc z) h =
      let before = read all z (omega arith) in
      let e = all z h in
      record {
        starts_are = read_next (starts_in x) x.starts z (starts_before x.shape z) (size_of x.shape z + 1) before.starts_are (before_starts z) (long_starts x z) (same_true _ _ (and_left _ _ e));
        ids_are = read_next (ids_in x) x.ids z (z * n x) (n x) before.ids_are (ids_before x z) (long_ids x z) (same_true _ _ (and_right _ _ e));
      }

  -- where all are, the index is sound
  all_read : ((z : ℕ) → z < m x.shape → Right x z) → sound x ≡ true
  unfolding built_starts built_ids
  all_read all = let r = read all (m x.shape) (omega arith) in is_sound x r.starts_are r.ids_are

  -- and in a sound index each is
  read_in : sound x ≡ true → (z : ℕ) → z < m x.shape → Right x z
  unfolding built_starts built_ids right
  read_in s z h =
      let a = read_part (starts_in x) x.starts z (m x.shape) (starts_before x.shape z) (size_of x.shape z + 1) h (sound-starts x s) (before_starts z) (long_starts x z) in
      let b = read_part (ids_in x) x.ids z (m x.shape) (z * n x) (n x) h (sound_ids x s) (ids_before x z) (long_ids x z) in
      rw (a, b, same_refl (starts_in x z), same_refl (ids_in x z))

  -- the tables' numbers, as a range gives them
  abbrev numbers : List ℕ
  numbers = range_with_len 0 (m x.shape)

  many : length numbers ≡ m x.shape
  many = length-range_with_len 0 (m x.shape)

  number : (z : ℕ) → z < m x.shape → get_or numbers z 0 ≡ z
  number z h = get_or-range_with_len 0 (m x.shape) z 0 h ∙ zero-add z

  -- asked one after another: all are right, or one is not
  pub all_sound : (r : Bool) → MatchBool r (AllWithin (Right x) numbers 0 (length numbers)) ((k : ℕ) × (k < length numbers) × HoldsAt (λ z. Right x z → ⊥) numbers k) → r ≡ sound x
  all_sound true h = sym (all_read (λ z l. subst (Right x) (number z l) (h z 0 (omega arith) (omega (arith, many)))))
  all_sound false h =
      let inside : h.0 < m x.shape = omega (arith, h.1, many) in
      ⊎_elim (λ s. absurd (h.2 0 (subst (Right x) (sym (number h.0 inside)) (read_in s h.0 inside)))) sym (either (sound x))

-- What the walk opens, by the laws of steps over any tables; and how many buckets that is. Assumes nothing.
use mathlib.Core.Path.{◌≡◌, refl, ap, ap₂, ◌∙◌}
use mathlib.Core.Bool.{true, cond}
use mathlib.Core.List.{List}
use Prim.Native.Nat.{ℕ, suc, ◌+◌, ◌-◌, ◌*◌, ◌/◌, ◌%◌, ◌^◌, ◌<◌}
use native.Mathlib.Numerals.{add-one}
use lib.Arith.{digits_div, digits_mod}
use lib.Bits.{bit_and}
use lib.Count.{ones}
use lib.Dec.{leb}
use lib.ListN.{length}
use Rattle.theory.specs.Lists.{sum}
use Rattle.theory.specs.Binomials.{L}
use Rattle.theory.proofs.Sums.{sum_cong}
use Rattle.theory.proofs.Opening.{opened_by, opened_under, equal_lengths}
use Rattle.scope.specs.declared.Shape.{Shape}
use Rattle.scope.specs.Codes.{substring}
use Rattle.scope.specs.Shape.{q, listed, m, first_bit, len}
use Rattle.scope.specs.Tables.{Index}
use Rattle.scope.specs.Walk.{Question, question, open_after, open_after_under, opens, opened}
use Rattle.scope.proofs.Shapes.{facts, len_equal}
use Rattle.scope.proofs.Codes.{substring-lt}
use Rattle.scope.proofs.Masks.{plain_open_after}

-- the query's substring z, and the mask's
abbrev pub asks : Question → ℕ → ℕ
asks ask z = let sh = ask.index.shape in substring (first_bit sh z) (len sh z) ask.query

abbrev pub under : Question → ℕ → ℕ
under ask z = let sh = ask.index.shape in substring (first_bit sh z) (len sh z) ask.mask

-- how many ones an exclusive-or has under it
abbrev pub ones_under : Question → ℕ → ℕ → ℕ
ones_under ask z e = ones (bit_and e (under ask z))

pub opened_by_lem : (ask : Question) (N : ℕ) → opened ask N ≡ opened_by (m ask.index.shape) (len ask.index.shape) (ones_under ask) (asks ask) N
unfolding opened opens
opened_by_lem ask N = refl

-- the blackboard's sum is the number of buckets that the steps 0 to R open
pub open_after_lem : (ask : Question) (R : ℕ) → listed ask.index.shape ≡ true → length (opened ask (R + 1)) ≡ open_after_under ask.index.shape ask.mask R
unfolding open_after_under
open_after_lem ask R h =
    let sh = ask.index.shape in
    ap length (ap (opened ask) (add-one R) ∙ opened_by_lem ask (suc R))
    ∙ opened_under (m sh) (len sh) (under ask) (asks ask) R (facts sh h).some_tables (λ z. substring-lt (first_bit sh z) (len sh z) ask.mask)

-- and the plain sum where the question has no mask
pub open_after_plain : (x : Index) (query : List ℕ) (R : ℕ) → listed x.shape ≡ true → length (opened (question x query) (R + 1)) ≡ open_after x.shape R
open_after_plain x query R h = open_after_lem (question x query) R h ∙ plain_open_after x.shape R h

-- after step m·r + a
pub open_at_under : (sh : Shape) (mask : List ℕ) (r a : ℕ) → a < m sh
    → open_after_under sh mask (r * m sh + a)
    ≡ sum (λ z. let c = ones (substring (first_bit sh z) (len sh z) mask) in 2 ^ (len sh z - c) * L c (cond (leb z a) (r + 1) r)) (m sh)
unfolding open_after_under
open_at_under sh mask r a h =
    sum_cong _ _ (m sh) (λ z _.
    let c = ones (substring (first_bit sh z) (len sh z) mask) in
    ap₂ (λ (r a : ℕ). 2 ^ (len sh z - c) * L c (cond (leb z a) (r + 1) r)) (digits_div r h) (digits_mod r h))

-- where every bit counts: after step m·r + a, and where m divides q, with s = q/m, 01's formula
pub open_at : (sh : Shape) (r a : ℕ) → a < m sh → open_after sh (r * m sh + a) ≡ sum (λ z. L (len sh z) (cond (leb z a) (r + 1) r)) (m sh)
unfolding open_after
open_at sh r a h = sum_cong _ _ (m sh) (λ z _. ap₂ (λ (r a : ℕ). L (len sh z) (cond (leb z a) (r + 1) r)) (digits_div r h) (digits_mod r h))

pub open_at_equal : (sh : Shape) (r a : ℕ) → a < m sh → q sh % m sh ≡ 0 → let s = q sh / m sh in
    open_after sh (r * m sh + a) ≡ (a + 1) * L s (r + 1) + (m sh - a - 1) * L s r
open_at_equal sh r a h e = open_at sh r a h ∙ sum_cong _ _ (m sh) (λ z _. rw (len_equal sh e z)) ∙ equal_lengths (m sh) (q sh / m sh) r a h

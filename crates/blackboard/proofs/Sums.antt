-- The sum of a function over the numbers below n, as std's chain of calls gives it. Assumes nothing.
use mathlib.Core.Path.{◌≡◌, refl, sym, ap, ◌∙◌}
use mathlib.Core.List.{List, map}
use Prim.Native.Nat.{ℕ, zero, suc, ◌+◌, ◌<◌}
use native.Mathlib.Numerals.{add-one}
use native.Mathlib.Omega.{arith}
use denote.Param.Members.{Mut}
use Rattle.std.proofs.iter.Yields.{nat_range_steps}
use Rattle.std.proofs.lemmas.Iterator.{YieldsList, YieldsList-from_range, YieldsList-from_map, maps}
use Rattle.std.proofs.lemmas.Iterator.Consumers.{sum_from_yields_List, fits_from_yields_list}
use Rattle.std.proofs.lemmas.List.FromFn.{sum_by-map-range_with_len_more}
use Rattle.std.specs.Bool.{⊤}
use Rattle.std.specs.Fn.{Called}
use Rattle.std.specs.Iterator.{Drains}
use Rattle.std.specs.Iterator.Adapters.{map_source, map_callee}
use Rattle.std.specs.Iterator.Runs.{EachRunFrom}
use Rattle.std.specs.List.{fold, range_with_len, sum as list_sum}
use Rattle.std.specs.declared.iter.Map.{Map}
use Rattle.std.specs.declared.ops.Range.{Range}
use Rattle.theory.specs.Lists.{sum}

sum_below : (f : ℕ → ℕ) (n : ℕ) → list_sum (map f (range_with_len 0 n)) ≡ sum f n
unfolding sum
sum_below f zero = refl
sum_below f (suc n) =
    ap (λ (k : ℕ). list_sum (map f (range_with_len 0 k))) (sym (add-one n)) ∙ sum_by-map-range_with_len_more (λ x. x) f 0 n n (omega arith)
    ∙ ap (λ (k : ℕ). k + f n) (sum_below f n)

-- a map over 0..n whose closure is f
module _ {F : Type 0} {s : Map (Range ℕ) F} (g : Mut F (ℕ × Unit {0}) ℕ) (f : ℕ → ℕ) (n : ℕ) {o : F} (source : map_source s ≡ record { start = 0; end = n }) (closure : map_callee s ≡ o)
    (called : (x r : ℕ) (q : F) → Called g o (x, tt) r q → (q ≡ o) × (r ≡ f x)) where
  chain : YieldsList (maps nat_range_steps g) (λ r. r) s (map f (range_with_len 0 n))
  chain = YieldsList-from_map g f (YieldsList-from_range 0 n n source (omega arith)) closure called

  pub summed : (r : ℕ) → ((xs : List ℕ) × (⊤ → Drains (maps nat_range_steps g) s xs) × (r ≡ fold (λ a x. a + x) 0 xs)) → r ≡ sum f n
  summed r ran = sum_from_yields_List s r ran chain ∙ sum_below f n

  pub sum_fits : (top : ℕ) → sum f n < top → EachRunFrom (maps nat_range_steps g) s (λ p. fold (λ a x. a + x) 0 p.items < top)
  sum_fits top h = fits_from_yields_list s top chain (rw (sum_below f n) h)

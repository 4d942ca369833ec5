-- What a search that lists l leaves in its two answer lists; and that the scan's lists hold each entry once, in order. Assumes nothing.
use Rattle.std.specs.Prelude.{Result, Ok}
use Rattle.scope.specs.declared.Refusal.{Refusal}
use mathlib.Core.Path.{◌≡◌, sym, ap, ◌∙◌}
use mathlib.Core.Bool.{Bool, true, ◌&&◌, and-true}
use mathlib.Core.List.{List, map}
use Prim.Native.Nat.{ℕ, ◌+◌, ◌≤◌}
use native.Mathlib.Numerals.{add-one}
use lib.Dec.{ltb, leb}
use lib.ListN.{length, take, length-map}
use borrow.Author.Tests.{le-leb}
use Rattle.theory.specs.Lists.{over, padded}
use Rattle.theory.proofs.Tests.{one_if, leb_is_ltb}
use Rattle.theory.proofs.Lists.{take-padded}
use Rattle.theory.proofs.Order.{ranked_sorted, ranked_once, order_unique}
use Rattle.scope.specs.declared.Report.{Report}
use Rattle.scope.specs.Shape.{q}
use Rattle.scope.specs.Codes.{code_of}
use Rattle.scope.specs.Tables.{n}
use Rattle.scope.specs.Walk.{Question, distance_of}
use Rattle.scope.specs.Refusals.{lent}
use Rattle.scope.specs.Calls.{Asked, search_end}
use Rattle.scope.proofs.Codes.{under-le}
use Rattle.demands.specs.Neighbours.{neighbours, every_entry}
use Rattle.demands.specs.Answers.{Exactly, Lists}

-- ---- the first places of an answer list

pub lists : (c : Asked) (r : Result Report Refusal) (P : ℕ) (l : List ℕ) (rep : Report) → r ≡ Ok rep → rep.answers ≡ length l → length l ≤ P
    → Lists c (search_end c r P l) l
unfolding search_end lent
lists c r P l rep e a h = record {
  report = rep;
  listed = e;
  answers = a;
  entries = rw e (take-padded P l c.entries h);
  distances =
      let dist = distance_of c.question in
      rw e (ap (λ (k : ℕ). take k (over (padded P (map dist l)) c.distances)) (sym (length-map l dist))
      ∙ take-padded P (map dist l) c.distances (rw length-map h));
}

-- ---- the scan

-- exactly those with distance r or less
pub neighbours_exactly : (ask : Question) (r : ℕ) → Exactly ask (λ i. leb (distance_of ask i) r) (neighbours ask r)
unfolding neighbours
neighbours_exactly ask r = record {
  ordered = ranked_sorted (distance_of ask) (λ _. true) (n ask.index) (r + 1);
  once = λ i.
      ranked_once (distance_of ask) (λ _. true) (n ask.index) i (r + 1)
      ∙ ap (λ (b : Bool). one_if (ltb i (n ask.index) && b)) (and-true _ ∙ ap (ltb (distance_of ask i)) (add-one r) ∙ sym (leb_is_ltb (distance_of ask i) r));
}

-- every entry
pub every_exactly : (ask : Question) → Exactly ask (λ _. true) (every_entry ask)
every_exactly ask =
    let sh = ask.index.shape in
    let scan = neighbours_exactly ask (q sh) in
    record {
      ordered = scan.ordered;
      once = λ i. scan.once i ∙ rw (le-leb (distance_of ask i) (q sh) (under-le ask.mask (code_of sh.w ask.index.codes i) ask.query (q sh)));
    }

-- and there is one such list
pub exactly_one : (ask : Question) (test : ℕ → Bool) (l l' : List ℕ) → Exactly ask test l → Exactly ask test l' → l ≡ l'
exactly_one ask test l l' a b = order_unique (distance_of ask) l l' a.ordered b.ordered (λ i. a.once i ∙ sym (b.once i))

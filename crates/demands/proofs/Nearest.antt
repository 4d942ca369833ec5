-- Demand 2, the search for the k nearest: over trusted tables it lists the first K of all entries, by distance and then by entry number. Assumes nothing.
use Rattle.std.specs.Prelude.{Ok, Err}
use mathlib.Core.Path.{◌≡◌, refl, ◌∙◌}
use mathlib.Core.Bool.{true}
use mathlib.Core.List.{List, [], ◌++◌}
use Prim.Native.Nat.{ℕ}
use native.Mathlib.Nat.{le_of_eq}
use native.Mathlib.Omega.{arith}
use lib.ListN.{length, take, length-take}
use Rattle.scope.specs.Walk.{Question, opened}
use Rattle.scope.specs.Search.{K, nearest_steps, nearest}
use Rattle.scope.specs.Refusals.{few_places}
use Rattle.scope.specs.Calls.{Asked, room, handed, walked, report, nearest_answer, nearest_end}
use Rattle.scope.proofs.Rows.{unless-none, unless_past, met-any}
use Rattle.demands.specs.Neighbours.{every_entry}
use Rattle.demands.specs.Answers.{Exactly, Lists}
use Rattle.demands.specs.Trust.{NearestCall}
use Rattle.demands.proofs.Sound.{none-bad, length-every, nearest_scan}
use Rattle.demands.proofs.Trusting.{nearest_ready}
use Rattle.demands.proofs.Listing.{lists, every_exactly}

-- K of them
pub length-first : (ask : Question) (k : ℕ) → length (take (K ask.index k) (every_entry ask)) ≡ K ask.index k
length-first ask k = rw (length-take, length-every) (omega arith)

module _ (c : Asked) (k : ℕ) (such : NearestCall c k) where
  -- 7 never happens
  pub nearest_answer_lem : let ask = c.question in nearest_answer c k ≡ Ok (report ask (nearest_steps ask k) (take (K ask.index k) (every_entry ask)))
  unfolding nearest_answer
  nearest_answer_lem =
      let ask = c.question in
      let x = ask.index in
      let N = nearest_steps ask k in
      let places = few_places (K x k) (room c) in
      let known = nearest_ready c k such in
      let answer = Ok (report ask N (nearest ask k)) in
      unless_past (handed ask [] c.marks ++ places) (walked ask N) Err answer such.taken
      ∙ unless-none (walked ask N) Err answer (met-any x (opened ask N) ∙ none-bad ask known.shape known.good N)
      ∙ rw (nearest_scan ask known.shape known.good k)

  -- the first K of all entries are listed
  pub nearest-lists : let ask = c.question in Lists c (nearest_end c k) (take (K ask.index k) (every_entry ask))
  unfolding nearest_end report
  nearest-lists =
      let ask = c.question in
      let x = ask.index in
      let known = nearest_ready c k such in
      let l = take (K x k) (every_entry ask) in
      rw (nearest_scan ask known.shape known.good k)
      (lists c (nearest_answer c k) (K x k) l (report ask (nearest_steps ask k) l) nearest_answer_lem refl (le_of_eq (length-first ask k)))

  -- DEMAND 2: the search lists the first K of all entries, which are in order of distance and then of entry number
  pub demand_2_nearest : let ask = c.question in (l : List ℕ) × Exactly ask (λ _. true) l × Lists c (nearest_end c k) (take (K ask.index k) l)
  demand_2_nearest = (every_entry c.question, every_exactly c.question, nearest-lists)

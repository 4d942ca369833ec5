-- Demand 2, the search by radius: over trusted tables it lists exactly the entries differing from the query in r bits or less. Assumes nothing.
use Rattle.std.specs.Prelude.{Result, Ok, Err}
use Rattle.scope.specs.declared.Report.{Report}
use Rattle.scope.specs.declared.Refusal.{Refusal}
use mathlib.Core.Path.{◌≡◌, refl, ap₂, ◌∙◌}
use mathlib.Core.Bool.{◌&&◌, cond}
use mathlib.Core.List.{List, [], ◌∷◌, ◌++◌}
use Prim.Native.Nat.{ℕ, ◌+◌, ◌≤◌, ◌<◌, min}
use native.Mathlib.Omega.{arith}
use lib.Dec.{ltb, leb}
use lib.ListN.{length}
use borrow.Author.Tests.{lt-ltb, le-ltb}
use Rattle.theory.proofs.Placing.{all, length-ranked}
use Rattle.theory.proofs.Counting.{count-le}
use Rattle.scope.specs.declared.Refusal.TheVariants.{TooMany}
use Rattle.scope.specs.Tables.{n}
use Rattle.scope.specs.Walk.{Question, distance_of, opened}
use Rattle.scope.specs.Search.{within_steps, within}
use Rattle.scope.specs.Refusals.{too_many, unless}
use Rattle.scope.specs.Calls.{Asked, room, handed, walked, report, within_answer, within_end, search_end}
use Rattle.scope.proofs.Rows.{unless_past, met-any}
use Rattle.demands.specs.Neighbours.{neighbours}
use Rattle.demands.specs.Answers.{Exactly, Lists}
use Rattle.demands.specs.Trust.{WithinCall}
use Rattle.demands.proofs.Sound.{none-bad, within_scan}
use Rattle.demands.proofs.Trusting.{within_ready}
use Rattle.demands.proofs.Listing.{lists, neighbours_exactly}

-- no more neighbours than entries
few : (ask : Question) (r : ℕ) → length (neighbours ask r) ≤ n ask.index
unfolding neighbours
few ask r = rw (length-ranked (n ask.index) (distance_of ask) all (r + 1)) (count-le (λ i. ltb (distance_of ask i) (r + 1) && all i) (n ask.index))

module _ (c : Asked) (r : ℕ) (such : WithinCall c r) where
  -- 7 never happens, and 6 exactly where the T neighbours exceed the shorter answer list
  pub within_answer_lem : let ask = c.question in
      let T = length (neighbours ask r) in
      within_answer c r ≡ cond (ltb (room c) T) (Err (TooMany T)) (Ok (report ask (within_steps ask.index r) (neighbours ask r)))
  unfolding within_answer unless
  within_answer_lem =
      let ask = c.question in
      let x = ask.index in
      let N = within_steps x r in
      let known = within_ready c r such in
      let six = too_many (length (within ask r)) (room c) in
      let answer = Ok (report ask N (within ask r)) in
      unless_past (handed ask (r ∷ []) c.marks) (walked ask N ++ six) Err answer such.taken
      ∙ unless_past (walked ask N) six Err answer (met-any x (opened ask N) ∙ none-bad ask known.shape known.good N)
      ∙ rw (within_scan ask known.shape known.good r)

  -- and so the whole end: after 6 too, the first places hold the neighbours
  pub within_end_lem : let ask = c.question in
      let T = length (neighbours ask r) in
      within_end c r
      ≡ search_end c (cond (ltb (room c) T) (Err (TooMany T)) (Ok (report ask (within_steps ask.index r) (neighbours ask r))))
      (min (n ask.index) (room c)) (neighbours ask r)
  unfolding within_end
  within_end_lem =
      let ask = c.question in
      let known = within_ready c r such in
      ap₂ (λ (a : Result Report Refusal) (l : List ℕ). search_end c a (min (n ask.index) (room c)) l) within_answer_lem (within_scan ask known.shape known.good r)

  -- with room for them, the neighbours are listed
  pub within-lists : length (neighbours c.question r) ≤ room c → Lists c (within_end c r) (neighbours c.question r)
  unfolding report
  within-lists h =
      let ask = c.question in
      let l = neighbours ask r in
      rw (within_end_lem, le-ltb (room c) (length l) h)
      (lists c _ (min (n ask.index) (room c)) l (report ask (within_steps ask.index r) l) refl refl (omega (arith, few ask r)))

  -- without, the call is refused 6 with their number
  pub within-refused : let T = length (neighbours c.question r) in room c < T → (within_end c r).answer ≡ Err (TooMany T)
  unfolding within_end search_end
  within-refused h = within_answer_lem ∙ rw (lt-ltb (room c) (length (neighbours c.question r)) h)

  -- DEMAND 2: given room, the search lists exactly the entries with distance r or less, each once, by distance and then by entry number
  pub demand_2_within : let ask = c.question in
      length (neighbours ask r) ≤ room c → (l : List ℕ) × Exactly ask (λ i. leb (distance_of ask i) r) l × Lists c (within_end c r) l
  demand_2_within h = (neighbours c.question r, neighbours_exactly c.question r, within-lists h)

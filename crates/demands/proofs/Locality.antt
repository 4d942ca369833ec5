-- Demand 3, nothing else matters: under other tables, as long and the same on every place that an opened bucket owns, each call ends the same, whatever
-- stands elsewhere, over unsound tables too. Opened are the buckets up to and with the first bad one. Assumes nothing.
use Rattle.std.specs.Prelude.{Result, Ok, Err}
use Rattle.scope.specs.declared.Refusal.{Refusal}
use Rattle.scope.specs.declared.VerdictReport.{VerdictReport}
use mathlib.Core.Path.{◌≡◌, refl, sym, ap, ap₂, ◌∙◌}
use mathlib.Core.Logic.{⊎_elim}
use mathlib.Core.Bool.{true, false}
use mathlib.Core.List.{List, [], ◌∷◌, ◌++◌, append-nil}
use Prim.Native.Nat.{ℕ, ◌+◌, ◌*◌, ◌<◌, min}
use lib.ListN.{length, take, get_or}
use Rattle.theory.specs.Lists.{any, ranked, is}
use Rattle.theory.proofs.Opening.{any-bucket}
use Rattle.scope.specs.declared.Report.{Report}
use Rattle.scope.specs.Shape.{q, m}
use Rattle.scope.specs.Tables.{Index, n, bad, owns_start, owns_id}
use Rattle.scope.specs.Walk.{Question, distance_of, star_of, opened, tested}
use Rattle.scope.specs.Search.{K, nearest_steps, nearest, within_steps, within}
use Rattle.scope.specs.Verdict.{rivals, verdict_steps, nearest_rivals, verdict_of}
use Rattle.scope.specs.Refusals.{few_places, too_many, lent, mark_words, of_judged}
use Rattle.scope.specs.Calls.{Asked, judges, room, handed, walked, report, nearest_answer, nearest_end, within_answer, within_end, verdict_report, verdict_answer, verdict_end}
use Rattle.demands.specs.Neighbours.{kth_distance}
use Rattle.demands.specs.Radii.{in_radius}
use Rattle.demands.specs.Trust.{NearestCall}
use Rattle.demands.specs.Places.{reached, reasked, recalled, Agree}
use Rattle.demands.proofs.Sound.{none-bad}
use Rattle.demands.proofs.Trusting.{Ready, nearest_ready}
use Rattle.demands.proofs.Count.{opened_is, steps_are}
use Rattle.demands.proofs.Owning.{AllSame}
use Rattle.demands.proofs.Reaching.{reached-all, compare_same, compare_nearest, compare_verdict}
use Rattle.demands.proofs.Agreeing.{quiet_handed, report-same, answers-same, alike, search_local}

-- ---- within

pub within_local : (c : Asked) (r : ℕ) (starts ids : List ℕ)
    → let ask = c.question in
    let x = ask.index in
    Agree x (reached x (opened ask (within_steps x r))) starts ids → within_end (recalled c starts ids) r ≡ within_end c r
unfolding within_end within_answer within_steps within
within_local c r starts ids agree =
    let ask = c.question in
    let x = ask.index in
    let other = reasked ask starts ids in
    let N = within_steps x r in
    let a = handed ask (r ∷ []) c.marks in
    rw (agree.long_starts, agree.long_ids)
    (search_local c starts ids N N (min (n x) (room c)) a (too_many (length (within ask r)) (room c)) (too_many (length (within other r)) (room c)) (within ask r) (within other r)
    (quiet_handed ask (r ∷ []) c.marks [] tt)
    (λ e s. let same = answers-same ask starts ids N (r + 1) s in (ap (λ (l : List ℕ). too_many (length l) (room c)) same, same))
    (compare_same ask starts ids N agree))

-- ---- nearest, and the verdict

-- the nearest under the other tables, where the walks are the same
nearest-same : (ask : Question) (starts ids : List ℕ) (k : ℕ) → nearest_steps (reasked ask starts ids) k ≡ nearest_steps ask k
    → AllSame ask.index starts ids (opened ask (nearest_steps ask k)) → nearest (reasked ask starts ids) k ≡ nearest ask k
unfolding nearest
nearest-same ask starts ids k e s =
    let other = reasked ask starts ids in
    let top = q ask.index.shape + 1 in
    ap (λ (N : ℕ). take (K ask.index k) (ranked (distance_of ask) (tested other N) (n ask.index) top)) e
    ∙ ap (take (K ask.index k)) (answers-same ask starts ids (nearest_steps ask k) top s)

pub nearest_local : (c : Asked) (k : ℕ) (starts ids : List ℕ)
    → let ask = c.question in
    let x = ask.index in
    Agree x (reached x (opened ask (nearest_steps ask k))) starts ids → nearest_end (recalled c starts ids) k ≡ nearest_end c k
unfolding nearest_end nearest_answer lent
nearest_local c k starts ids agree =
    let ask = c.question in
    let x = ask.index in
    let other = reasked ask starts ids in
    let places = few_places (K x k) (room c) in
    rw (agree.long_starts, agree.long_ids, ← append-nil (walked other (nearest_steps other k)), ← append-nil (walked ask (nearest_steps ask k)))
    (search_local c starts ids (nearest_steps ask k) (nearest_steps other k) (K x k) (handed ask [] c.marks ++ places) [] [] (nearest ask k) (nearest other k)
    (quiet_handed ask [] c.marks places (λ _ _ _ _. refl, tt))
    (λ e s. (refl, nearest-same ask starts ids k e s))
    (compare_nearest ask starts ids k agree))

-- the rivals under the other tables
rivals-same : (ask : Question) (starts ids : List ℕ) → verdict_steps (reasked ask starts ids) ≡ verdict_steps ask
    → AllSame ask.index starts ids (opened ask (verdict_steps ask)) → nearest_rivals (reasked ask starts ids) ≡ nearest_rivals ask
unfolding nearest_rivals
rivals-same ask starts ids e s =
    let other = reasked ask starts ids in
    let top = q ask.index.shape + 1 in
    ap (rivals (star_of ask))
    (ap (λ (N : ℕ). ranked (distance_of ask) (tested other N) (n ask.index) top) e ∙ answers-same ask starts ids (verdict_steps ask) top s)

pub verdict_local : (ask : Question) (marks : List ℕ) (t g : ℕ) (starts ids : List ℕ)
    → let x = ask.index in
    Agree x (reached x (opened ask (verdict_steps ask))) starts ids → verdict_end (reasked ask starts ids) marks t g ≡ verdict_end ask marks t g
unfolding verdict_end verdict_answer verdict_report report
verdict_local ask marks t g starts ids agree =
    let x = ask.index in
    let other = reasked ask starts ids in
    let N = verdict_steps ask in
    let N' = verdict_steps other in
    let l = nearest_rivals ask in
    let a = handed ask (t ∷ g ∷ []) marks in
    let counts : AllSame x starts ids (opened ask N) → verdict_report other t g N l ≡ verdict_report ask t g N l = λ s.
    ap (λ (r : Report). record { verdict = verdict_of (star_of ask) (distance_of ask) t g l; opened = r.opened; tested = r.tested }) (report-same ask starts ids N [] s) in
    let answers : verdict_answer other marks t g ≡ verdict_answer ask marks t g =
    rw (agree.long_starts, agree.long_ids, ← append-nil (walked other N'), ← append-nil (walked ask N))
    (⊎_elim (λ h. h.2) (λ h. h.2 ∙ sym h.3)
    (alike ask starts ids N N' a [] [] Err (Ok (verdict_report ask t g N l)) (Ok (verdict_report other t g N' (nearest_rivals other)))
    (quiet_handed ask (t ∷ g ∷ []) marks [] tt)
    (λ e s. (refl, ap Ok (ap₂ (λ (k : ℕ) (l : List ℕ). verdict_report other t g k l) e (rivals-same ask starts ids e s) ∙ counts s)))
    (compare_verdict ask starts ids agree))) in
    ap (λ (r : Result VerdictReport Refusal). judges r (lent (of_judged r).0 (mark_words (n x)) [] marks)) answers

-- ---- DEMAND 3, in the blackboard's words: D = m·r + a, and numbers that belong to no bucket in its radius can be changed to anything

module _ (c : Asked) (k : ℕ) (such : NearestCall c k) (some : 0 < K c.question.index k) where
  pub demand_3_nothing_else : let ask = c.question in
      let x = ask.index in
      (r a : ℕ) → a < m x.shape → kth_distance ask (K x k) ≡ m x.shape * r + a
      → (starts ids : List ℕ) → length starts ≡ length x.starts → length ids ≡ length x.ids
      → ((z v j : ℕ) → in_radius ask r a z v ≡ true → owns_start x z v j ≡ true → get_or starts j 0 ≡ get_or x.starts j 0)
      → ((z v j : ℕ) → in_radius ask r a z v ≡ true → owns_id x z v j ≡ true → get_or ids j 0 ≡ get_or x.ids j 0)
      → nearest_end (recalled c starts ids) k ≡ nearest_end c k
  demand_3_nothing_else r a ha e starts ids ls li on-starts on-ids = nearest_local c k starts ids (rw (reached-all x (opened ask N) clear) agree)
    where
      ask : Question
      ask = c.question

      x : Index
      x = ask.index

      N : ℕ
      N = nearest_steps ask k

      known : Ready x
      known = nearest_ready c k such

      clear : any (λ b. bad x b.0 b.1) (opened ask N) ≡ false
      clear = none-bad ask known.shape known.good N

      inside : (b : ℕ × ℕ) → any (is b.0 b.1) (opened ask N) ≡ true → in_radius ask r a b.0 b.1 ≡ true
      inside b h =
          sym (opened_is ask known.shape r a b.0 b.1 ha) ∙ ap (λ (D : ℕ). any (is b.0 b.1) (opened ask (D + 1))) (sym e)
          ∙ ap (λ (N : ℕ). any (is b.0 b.1) (opened ask N)) (sym (steps_are c k such some)) ∙ h

      agree : Agree x (opened ask N) starts ids
      agree = record {
        long_starts = ls;
        long_ids = li;
        owned_starts = λ j h. let (b, o, there) = any-bucket _ (opened ask N) h in on-starts b.0 b.1 j (inside b there) o;
        owned_ids = λ j h. let (b, o, there) = any-bucket _ (opened ask N) h in on-ids b.0 b.1 j (inside b there) o;
      }

-- Two calls that differ in their tables alone: both walks are the same, and so is what is left; or both are refused alike, and leave the same. Assumes nothing.
use Rattle.std.specs.Prelude.{Result, Ok, Err}
use Rattle.scope.specs.declared.Report.{Report}
use mathlib.Core.Path.{◌≡◌, refl, sym, ap, ap₂, ◌∙◌}
use mathlib.Core.Logic.{◌⊎◌, inl, inr, ⊎_elim}
use mathlib.Core.Bool.{Bool, true, false}
use mathlib.Core.List.{List, [], ◌∷◌, ◌++◌, map, append_assoc, map-append}
use Prim.Native.Nat.{ℕ}
use lib.ListN.{length}
use Rattle.theory.specs.Lists.{ranked}
use Rattle.theory.proofs.Tests.{or_right}
use Rattle.theory.proofs.Lists.{any_append}
use Rattle.theory.proofs.Counting.{count_cong}
use Rattle.theory.proofs.Order.{All, all_append, ranked_cong}
use Rattle.scope.specs.declared.Refusal.{Refusal}
use Rattle.scope.specs.declared.Refusal.TheVariants.{BadBucket}
use Rattle.scope.specs.Tables.{Index, n}
use Rattle.scope.specs.Walk.{Question, distance_of, opens, opened, tested, opened_count}
use Rattle.scope.specs.Refusals.{Rows, refusal, met, unless, lent, mark_words}
use Rattle.scope.specs.Calls.{Asked, handed, walked, report, search_end}
use Rattle.scope.proofs.Rows.{one_fits, first_fits, unless-append, unless_one, met-any}
use Rattle.demands.specs.Places.{reached, retabled, reasked, recalled}
use Rattle.demands.proofs.Owning.{Same, AllSame}
use Rattle.demands.proofs.Reaching.{one_bad, met-same, one_bad-same, opened-same, tested-same, Compared}

-- ---- refusals after which no lent list hangs on the answers: all but 6

abbrev pub Quiet : Refusal → Type 0
Quiet f = (P : ℕ) (l l' list : List ℕ) → lent (refusal f).0 P l list ≡ lent (refusal f).0 P l' list

abbrev pub AllQuiet : Rows → Type 0
AllQuiet rows = All (λ (row : Bool × Refusal). Quiet row.1) rows

quiet_first : (rows : Rows) → AllQuiet rows → Quiet (first_fits rows)
unfolding unless lent
quiet_first [] h = λ _ _ _ _. refl
quiet_first ((true, f) ∷ rows) h = h.0
quiet_first ((false, f) ∷ rows) h = quiet_first rows h.1

quiet_met : (x : Index) (l : List (ℕ × ℕ)) → AllQuiet (met x l)
unfolding lent
quiet_met x [] = tt
quiet_met x (b ∷ l) = (λ _ _ _ _. refl, quiet_met x l)

pub quiet_handed : (ask : Question) (limits marks : List ℕ) (more : Rows) → AllQuiet more → AllQuiet (handed ask limits marks ++ more)
unfolding lent
quiet_handed ask limits marks more h =
    all_append (λ (row : Bool × Refusal). Quiet row.1) (handed ask limits marks) more
    (λ _ _ _ _. refl, (λ _ _ _ _. refl, (λ _ _ _ _. refl, (λ _ _ _ _. refl, (λ _ _ _ _. refl, (λ _ _ _ _. refl, (λ _ _ _ _. refl, (λ _ _ _ _. refl, (λ _ _ _ _. refl, tt))))))))) h

-- ---- rows a before the walk, and b after it

module _ {A : Type 0} (x : Index) (a b : Rows) (refused : Refusal → A) (answer : A) (l t : List (ℕ × ℕ)) (one : one_bad x l ≡ true) where
  -- where one of the first buckets is bad, they tell the refusal
  stop-rows : unless (a ++ (met x (l ++ t) ++ b)) refused answer ≡ refused (first_fits (a ++ met x l))
  stop-rows =
      ap (λ (rows : Rows). unless rows refused answer)
      (ap (λ (k : Rows). a ++ (k ++ b)) (map-append _ l t) ∙ ap (λ (k : Rows). a ++ k) (append_assoc (met x l) (met x t) b) ∙ sym (append_assoc a (met x l) (met x t ++ b)))
      ∙ unless-append (a ++ met x l) (met x t ++ b) refused answer
      ∙ unless_one (a ++ met x l) refused (unless (met x t ++ b) refused answer) fits
    where
      fits : one_fits (a ++ met x l) ≡ true
      fits =
          any_append (λ (row : Bool × Refusal). row.0) a (met x l)
          ∙ or_right (one_fits a) _ (met-any x l ∙ one)

-- the refusal is the same under both pairs of tables
first-bad-same : (x y : Index) (a : Rows) (l : List (ℕ × ℕ)) → All (Same x y) (reached x l) → first_fits (a ++ met y l) ≡ first_fits (a ++ met x l)
first-bad-same x y a l s =
    unless-append a (met y l) (λ f. f) _ ∙ ap (unless a (λ f. f)) (met-same x y l s (λ f. f) _) ∙ sym (unless-append a (met x l) (λ f. f) _)

walked_same : (x y : Index) (l : List (ℕ × ℕ)) → All (Same x y) l → met y l ≡ met x l
walked_same x y [] h = refl
walked_same x y (b ∷ l) h = ap₂ (λ (row : Bool × Refusal) (rows : Rows). row ∷ rows) (ap (λ (t : Bool). (t, BadBucket b.0 b.1)) h.0.as_bad) (walked_same x y l h.1)

module _ (ask : Question) (starts ids : List ℕ) where
  pub report-same : (N : ℕ) (l : List ℕ) → AllSame ask.index starts ids (opened ask N) → report (reasked ask starts ids) N l ≡ report ask N l
  unfolding report opened opens
  report-same N l h =
      ap (λ (t : ℕ). record { answers = length l; opened = opened_count ask N; tested = record { 0 = t } })
      (count_cong _ _ (n ask.index) (λ i _. tested-same ask starts ids N h i))

  pub answers-same : (N top : ℕ) → AllSame ask.index starts ids (opened ask N)
      → ranked (distance_of ask) (tested (reasked ask starts ids) N) (n ask.index) top ≡ ranked (distance_of ask) (tested ask N) (n ask.index) top
  answers-same N top h = ranked_cong (distance_of ask) _ _ (n ask.index) top (λ i _ _. tested-same ask starts ids N h i)

-- A call under the two pairs of tables, with rows a before the walk and b after it: both walks are the same and so is the answer, or both calls are refused alike
module _ {A : Type 0} (ask : Question) (starts ids : List ℕ) (N N' : ℕ) (a b b' : Rows) (refused : Refusal → A) (answer answer' : A) where
  abbrev pub Alike : Type 0
  Alike =
      ((N' ≡ N) × AllSame ask.index starts ids (opened ask N)
      × (unless (a ++ (walked (reasked ask starts ids) N' ++ b')) refused answer' ≡ unless (a ++ (walked ask N ++ b)) refused answer))
      ⊎ ((f : Refusal) × Quiet f × (unless (a ++ (walked (reasked ask starts ids) N' ++ b')) refused answer' ≡ refused f)
      × (unless (a ++ (walked ask N ++ b)) refused answer ≡ refused f))

  pub alike : AllQuiet a → (N' ≡ N → AllSame ask.index starts ids (opened ask N) → (b' ≡ b) × (answer' ≡ answer))
      → Compared ask starts ids N N' → Alike
  alike quiet same (Compared.clear e s) =
      let x = ask.index in
      let other = reasked ask starts ids in
      let walks : walked other N' ≡ walked ask N = ap (λ (k : ℕ). met other.index (opened other k)) e
      ∙ ap (met other.index) (opened-same ask starts ids N) ∙ walked_same x other.index (opened ask N) s in
      let (after, answers) = same e s in
      inl (e, s, λ i. unless (a ++ (walks i ++ after i)) refused (answers i))
  alike quiet same (Compared.stopped l t t' e e' one s) =
      let x = ask.index in
      let y = retabled x starts ids in
      inr (
        first_fits (a ++ met x l),
        quiet_first (a ++ met x l) (all_append (λ (row : Bool × Refusal). Quiet row.1) a (met x l) quiet (quiet_met x l)),
        ap (λ (k : List (ℕ × ℕ)). unless (a ++ (met y k ++ b')) refused answer') (opened-same ask starts ids N' ∙ e')
            ∙ stop-rows y a b' refused answer' l t' (one_bad-same x y l s ∙ one) ∙ ap refused (first-bad-same x y a l s),
        ap (λ (k : List (ℕ × ℕ)). unless (a ++ (met x k ++ b)) refused answer) e ∙ stop-rows x a b refused answer l t one,
      )

-- a search that is refused so leaves the same
refused-same : (c : Asked) (starts ids : List ℕ) (r r' : Result Report Refusal) (f : Refusal) (P : ℕ) (l l' : List ℕ) → Quiet f → r' ≡ Err f → r ≡ Err f
    → search_end (recalled c starts ids) r' P l' ≡ search_end c r P l
unfolding search_end
refused-same c starts ids r r' f P l l' h e' e =
    rw (e', e) (λ i. record {
      answer = Err f;
      marks = lent (refusal f).0 (mark_words (n c.question.index)) [] c.marks;
      entries = h P l' l c.entries i;
      distances = h P (map (distance_of c.question) l') (map (distance_of c.question) l) c.distances i;
    })

-- and one that is not, with the same answers
listed_same : (c : Asked) (starts ids : List ℕ) (r r' : Result Report Refusal) (P : ℕ) (l l' : List ℕ) → r' ≡ r → l' ≡ l
    → search_end (recalled c starts ids) r' P l' ≡ search_end c r P l
unfolding search_end
listed_same c starts ids r r' P l l' e g = ap₂ (λ (r : Result Report Refusal) (l : List ℕ). search_end c r P l) e g

-- a search that lists l after N steps, or l' after N'
module _ (c : Asked) (starts ids : List ℕ) (N N' P : ℕ) (a b b' : Rows) (l l' : List ℕ) where
  pub search_local : AllQuiet a
      → (N' ≡ N → AllSame c.question.index starts ids (opened c.question N) → (b' ≡ b) × (l' ≡ l))
      → Compared c.question starts ids N N'
      → search_end (recalled c starts ids)
      (unless (a ++ (walked (reasked c.question starts ids) N' ++ b')) Err (Ok (report (reasked c.question starts ids) N' l'))) P l'
      ≡ search_end c (unless (a ++ (walked c.question N ++ b)) Err (Ok (report c.question N l))) P l
  search_local quiet same compared =
      let ask = c.question in
      let other = reasked ask starts ids in
      ⊎_elim (λ h. listed_same c starts ids _ _ P l l' h.2 (same h.0 h.1).1) (λ h. refused-same c starts ids _ _ h.0 P l l' h.1 h.2 h.3)
      (alike ask starts ids N N' a b b' Err (Ok (report ask N l)) (Ok (report other N' l')) quiet
      (λ e s.
      let (after, answers) = same e s in
      (after, ap₂ (λ (k : ℕ) (l : List ℕ). Ok (report other k l)) e answers ∙ ap Ok (report-same ask starts ids N l s))) compared)

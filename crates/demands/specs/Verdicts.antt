-- What each verdict says about a whole catalogue of n entries, given each entry's star and distance, a reach t and a gap g. Assumes nothing.
use Rattle.std.specs.Prelude.{◌≡◌, ℕ, ◌+◌, ◌≤◌, ◌<◌, max}
use Rattle.theory.specs.Order.{Before}
use Rattle.scope.specs.declared.Verdict.{Verdict}
use Rattle.scope.specs.declared.Verdict.TheVariants.{None, Unsure, Match}

-- entry i is the nearest, with the smallest number of those that are as near
pub record First (dist : ℕ → ℕ) (n i : ℕ) : Type 0 where
  pub entry : i < n
  pub before : (j : ℕ) → j < n → (j ≡ i → ⊥) → Before dist i j

-- entry j is i's runner-up: of the entries with another star than i's the nearest, with the smallest number of those that are as near
pub record Next (star dist : ℕ → ℕ) (n i j : ℕ) : Type 0 where
  pub entry : j < n
  pub other : star j ≡ star i → ⊥
  pub before : (k : ℕ) → k < n → (star k ≡ star i → ⊥) → (k ≡ j → ⊥) → Before dist j k

module _ (star dist : ℕ → ℕ) (n t g : ℕ) where
  -- match: the star and the distance of the nearest entry, which is no farther than t; every entry of another star is farther by g or more
  pub record Matched (s d : ℕ) : Type 0 where
    pub i : ℕ
    pub nearest : First dist n i
    pub its_star : s ≡ star i
    pub its_distance : d ≡ dist i
    pub in_reach : d ≤ t
    pub alone : (j : ℕ) → j < n → (star j ≡ s → ⊥) → d + g ≤ dist j

  -- unsure: the stars and the distances of the nearest entry, which is no farther than t, and of its runner-up, which is farther by less than g
  pub record Undecided (s s' d d' : ℕ) : Type 0 where
    pub i : ℕ
    pub j : ℕ
    pub nearest : First dist n i
    pub next : Next star dist n i j
    pub stars : (s ≡ star i) × (s' ≡ star j)
    pub distances : (d ≡ dist i) × (d' ≡ dist j)
    pub in_reach : d ≤ t
    pub close : d' < d + g

  -- none: every entry is farther than t, or there is none
  abbrev pub Says : Verdict → Type 0
  Says None = (j : ℕ) → j < n → t < dist j
  Says (Unsure s s' d d') = Undecided s s' d d'
  Says (Match s d) = Matched s d

-- how many steps the walk takes: to the larger of the two distances; to q where all entries have one star; none where there is no entry
pub data Goes (star dist : ℕ → ℕ) (n q N : ℕ) : Type 0 where
  nowhere : n ≡ 0 → N ≡ 0 → Goes star dist n q N
  to_the_end : 0 < n → ((i j : ℕ) → i < n → j < n → star i ≡ star j) → N ≡ q + 1 → Goes star dist n q N
  to_the_runner_up : (i j : ℕ) → First dist n i → Next star dist n i j → N ≡ max (dist i) (dist j) + 1 → Goes star dist n q N

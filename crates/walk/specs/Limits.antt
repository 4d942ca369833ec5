-- The limit of a walk, the worst distance that can still be listed, and what the walk knows of the entries that it has tested. Assumes nothing.
use Rattle.std.specs.Prelude.{◌≡◌, ◌⊎◌, Bool, ◌&&◌, List, ℕ, ◌+◌, ◌/◌, ◌≤◌, ◌<◌, eqb, ltb, length, get_or, set}
use Rattle.theory.specs.Lists.{sum, count}
use Rattle.walk.specs.declared.Aim.{Aim}
use Rattle.walk.specs.declared.Aim.TheVariants as aim
use Rattle.walk.specs.declared.Rivals.{Rivals}
use Rattle.walk.specs.declared.Seen.{Seen}
use Rattle.walk.specs.Rivals.{standing, Best}

-- ---- one more is counted

-- by the tally so many are nearer than d
abbrev pub below : List ℕ → ℕ → ℕ
below tally d = sum (λ e. get_or tally e 0) d

-- with one more at distance d
abbrev pub raised : List ℕ → ℕ → List ℕ
raised tally d = set tally d (get_or tally d 0 + 1)

-- d is within the limit, and there is room for one more
pub record Countable (k d : ℕ) (s : Seen) (tally : List ℕ) : Type 0 where
  pub some : 0 < k
  pub whole : length tally ≡ 257
  pub inside : (d ≤ s.limit) × (s.limit ≤ 256)
  pub near : s.near + 1 ≡ below (raised tally d) (s.limit + 1)
  pub few : (s.near ≤ 65536) × (get_or tally d 0 ≤ 65536)

-- from s to r one more was counted at distance d, and the limit went down as far as k stay within it
pub record Counts (k d : ℕ) (tally : List ℕ) (s : Seen) (tally' : List ℕ) (r : Seen) : Type 0 where
  pub tally_is : tally' ≡ raised tally d
  pub down : r.limit ≤ s.limit
  pub near : r.near ≡ below tally' (r.limit + 1)
  pub tight : below tally' r.limit < k
  pub enough : (k ≤ r.near) ⊎ (r.limit ≡ s.limit)
  pub tested : r.tested ≡ s.tested

-- ---- what a walk knows of the entries that it has tested

-- of those that pass the test, up to the limit: in the tally how many are at each distance, in `near` how many they are. These are k or more, or the limit is r
pub record Listing (distance : ℕ → ℕ) (m : ℕ) (test : ℕ → Bool) (tally : List ℕ) (k r limit near : ℕ) : Type 0 where
  pub inside : (limit ≤ r) × (r ≤ 256)
  pub each : (d : ℕ) → d ≤ limit → get_or tally d 0 ≡ count (λ i. eqb (distance i) d && test i) m
  pub all : near ≡ count (λ i. ltb (distance i) (limit + 1) && test i) m
  pub enough : (k ≤ near) ⊎ (limit ≡ r)

-- what is known, by the aim. Of the k nearest within r: that, and no lower limit has k within it. Of two stars: the best two, and the limit is the runner-up's distance
abbrev pub Known : Aim → (star distance : ℕ → ℕ) (m : ℕ) (test : ℕ → Bool) (tally : List ℕ) (limit near : ℕ) → Rivals → Type 0
Known (aim.Nearest k r) star distance m test tally limit near rivals =
    Listing distance m test tally k r limit near × (count (λ i. ltb (distance i) limit && test i) m < k)
Known aim.TwoStars star distance m test tally limit near rivals = Best star (standing distance) test rivals × (limit ≡ rivals.other.0 / 65536)

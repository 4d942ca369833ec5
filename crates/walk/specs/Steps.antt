-- The state of the walk, in the lists that it is lent: what each of its functions asks, and what it leaves. Assumes nothing.
use Rattle.std.specs.Prelude.{◌≡◌, ⊤, Result, Ok, Err, Bool, true, false, ◌&&◌, ◌||◌, List, map, ℕ, ◌+◌, ◌*◌, ◌≤◌, ◌<◌, ltb, leb, length}
use Rattle.std.specs.Int.Bits.{bit_xor}
use Rattle.theory.specs.Lists.{first, tab, upto, count, any, has}
use Rattle.scope.specs.declared.Refusal.{Refusal}
use Rattle.scope.specs.Tables.{Index, n, bucket}
use Rattle.scope.specs.Walk.{Question, distance_of, star_of, opened, tested, opened_count, tested_count}
use Rattle.scope.specs.Verdict.{two_stars}
use Rattle.scope.specs.Refusals.{met, allowed, mark_words}
use Rattle.masks.specs.Masks.{has_ones}
use Rattle.codes.specs.Marks.{is_marked}
use Rattle.walk.specs.declared.Aim.{Aim}
use Rattle.walk.specs.declared.Aim.TheVariants as aim
use Rattle.walk.specs.declared.Seen.{Seen}
use Rattle.walk.specs.declared.Walk.{Walk}
use Rattle.walk.specs.Rivals.{standing, nobody, Best}
use Rattle.walk.specs.Limits.{Listing, Known}

-- ---- testing

-- what is known is known of the entries that the mark words mark
pub record Counted (aim : Aim) (star distance : ℕ → ℕ) (words : ℕ) (s : Seen) (marks tally : List ℕ) : Type 0 where
  pub long : length marks ≡ words
  pub whole : length tally ≡ 257
  pub tested_is : s.tested.0 ≡ count (is_marked marks) (64 * words)
  pub known : Known aim star distance (64 * words) (is_marked marks) tally s.limit s.near s.rivals

-- the entries that pass `new` were tested
pub record Tests (aim : Aim) (star distance : ℕ → ℕ) (words : ℕ) (new : ℕ → Bool) (r : Seen) (marks marks' tally' : List ℕ) : Type 0 where
  pub marked : (i : ℕ) → is_marked marks' i ≡ (is_marked marks i || new i)
  pub counted : Counted aim star distance words r marks' tally'

-- so a walk has tested, and so it goes on, for a question
abbrev pub Seeing : Question → Aim → Seen → (marks tally : List ℕ) → Type 0
Seeing ask aim = Counted aim (star_of ask) (distance_of ask) (mark_words (n ask.index))

abbrev pub Sees : Question → Aim → (new : ℕ → Bool) → Seen → (marks marks' tally' : List ℕ) → Type 0
Sees ask aim = Tests aim (star_of ask) (distance_of ask) (mark_words (n ask.index))

-- ---- opening

-- whether a bad bucket was met, which refuses the search
abbrev pub Met : Type 0
Met = Result ⊤ Refusal

-- some bucket of l lists entry i
abbrev pub lists : Index → List (ℕ × ℕ) → ℕ → Bool
lists x l i = any (λ b. has i (bucket x b.0 b.1)) l

-- of table z the buckets whose exclusive-or with `sub` is below k and has r ones under the mask, ascending by it
abbrev pub around : (z under r sub k : ℕ) → List (ℕ × ℕ)
around z under r sub k = map (λ e. (z, bit_xor sub e)) (upto (has_ones under r) k)

-- the first bad bucket of l, if one is
unfoldable pub met_in : Index → List (ℕ × ℕ) → Met
met_in x l = allowed (met x l)

-- from w to r the buckets l were opened, none of them bad
pub record Opens (ask : Question) (aim : Aim) (l : List (ℕ × ℕ)) (w r : Walk) (marks marks' tally' : List ℕ) : Type 0 where
  pub opened : r.opened.0 ≡ w.opened.0 + length l
  pub marked : (i : ℕ) → is_marked marks' i ≡ (is_marked marks i || lists ask.index l i)
  pub counted : Seeing ask aim r.seen marks' tally'

-- the buckets l were opened in order, up to the first bad one
pub record Opening (ask : Question) (aim : Aim) (l : List (ℕ × ℕ)) (w r : Walk) (end : Met) (marks marks' tally' : List ℕ) : Type 0 where
  pub met : end ≡ met_in ask.index l
  pub clear : end ≡ Ok tt → Opens ask aim l w r marks marks' tally'

-- ---- steps

-- the limit before any step
abbrev pub first_limit : Aim → ℕ
first_limit (aim.Nearest k r) = r
first_limit aim.TwoStars = 257

-- no step is taken
pub record Start (aim : Aim) (w : Walk) : Type 0 where
  pub opened : w.opened.0 ≡ 0
  pub tested : w.seen.tested.0 ≡ 0
  pub limit : w.seen.limit ≡ first_limit aim
  pub near : w.seen.near ≡ 0
  pub rivals : (w.seen.rivals.first.0 ≡ nobody) × (w.seen.rivals.other.0 ≡ nobody)

-- w is the walk after N steps, which met no bad bucket
pub record Going (ask : Question) (aim : Aim) (N : ℕ) (w : Walk) (marks tally : List ℕ) : Type 0 where
  pub clear : met_in ask.index (opened ask N) ≡ Ok tt
  pub opened : w.opened.0 ≡ length (opened ask N)
  pub marked : (i : ℕ) → is_marked marks i ≡ tested ask N i
  pub counted : Seeing ask aim w.seen marks tally

-- N steps were taken, and then one more, to r
pub record Stepped (ask : Question) (aim : Aim) (N : ℕ) (r : Walk) (end : Met) (marks tally : List ℕ) : Type 0 where
  pub met : end ≡ met_in ask.index (opened ask (N + 1))
  pub going : end ≡ Ok tt → Going ask aim (N + 1) r marks tally

-- nothing is marked or counted
pub record Fresh (words : ℕ) (marks tally : List ℕ) : Type 0 where
  pub long : length marks ≡ words
  pub none : (i : ℕ) → is_marked marks i ≡ false
  pub zeros : tally ≡ tab (λ _. 0) 257

-- after N steps: the tested entries that are nearer than N
abbrev pub nearer : Question → ℕ → List ℕ
nearer ask N = upto (λ i. ltb (distance_of ask i) N && tested ask N i) (n ask.index)

-- which entries are enough for an aim, given each entry's star
abbrev pub enough : Aim → (ℕ → ℕ) → List ℕ → Bool
enough (aim.Nearest k r) star l = leb k (length l)
enough aim.TwoStars star l = two_stars star l

abbrev pub enough_after : Question → Aim → ℕ → Bool
enough_after ask aim N = enough aim (star_of ask) (nearer ask N)

-- the fewest steps that pass the test of their number, or all steps 0 to top
abbrev pub steps_to : (ℕ → Bool) → ℕ → ℕ
steps_to p top = first p (top + 1)

-- some entries are to be listed, and no step is farther than they may be
abbrev pub Sensible : Aim → ℕ → Type 0
Sensible (aim.Nearest k r) top = (0 < k) × (top ≤ r) × (r ≤ 256)
Sensible aim.TwoStars top = top ≤ 256

-- what is left for the search, after N steps
abbrev pub Left : Aim → (ask : Question) (N : ℕ) (s : Seen) (marks tally : List ℕ) → Type 0
Left (aim.Nearest k r) ask N s marks tally = Listing (distance_of ask) (n ask.index) (is_marked marks) tally k r s.limit s.near
Left aim.TwoStars ask N s marks tally = Best (star_of ask) (standing (distance_of ask)) (tested ask N) s.rivals

-- N steps, none of which met a bad bucket
pub record Ended (ask : Question) (aim : Aim) (N : ℕ) (r : Walk) (marks tally : List ℕ) : Type 0 where
  pub long : length marks ≡ mark_words (n ask.index)
  pub whole : length tally ≡ 257
  pub marked : (i : ℕ) → is_marked marks i ≡ tested ask N i
  pub theirs : (i : ℕ) → is_marked marks i ≡ true → i < n ask.index
  pub left : Left aim ask N r.seen marks tally
  pub opened : r.opened ≡ opened_count ask N
  pub tested : r.seen.tested ≡ tested_count ask N

-- N steps, or as many as met the first bad bucket
abbrev pub Walked : Question → Aim → (N : ℕ) → Result Walk Refusal → (marks tally : List ℕ) → Type 0
Walked ask aim N (Ok r) marks tally = (met_in ask.index (opened ask N) ≡ Ok tt) × Ended ask aim N r marks tally
Walked ask aim N (Err f) marks tally = met_in ask.index (opened ask N) ≡ Err f

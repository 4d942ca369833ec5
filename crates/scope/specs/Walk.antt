-- 01, "The walk", and L6 of 02, "Cells the baffle hides". Assumes nothing.
use Rattle.std.specs.Prelude.{Bool, ◌&&◌, cond, List, map, ℕ, ◌+◌, ◌-◌, ◌*◌, ◌/◌, ◌%◌, ◌^◌, eqb, leb, length, get_or}
use Rattle.std.specs.Int.Bits.{bit_and, bit_xor}
use Rattle.std.specs.Int.Count.{ones}
use Rattle.theory.specs.Lists.{sum, cat, tab, upto, count, any, has}
use Rattle.theory.specs.Binomials.{L}
use Rattle.scope.specs.declared.Shape.{Shape}
use Rattle.scope.specs.declared.Opened.{Opened}
use Rattle.scope.specs.declared.Tested.{Tested}
use Rattle.scope.specs.Codes.{distance_under, substring, code_of}
use Rattle.scope.specs.Shape.{q, m, first_bit, len, size}
use Rattle.scope.specs.Tables.{Index, n, bucket}

-- how many buckets of table z are open after step R = m·r' + a: L(len z, r') for z up to a, L(len z, r'−1) for the rest;
-- `L s (r + 1)` is L(s, r'), `L s r` is L(s, r'−1)
abbrev pub open_in : Shape → ℕ → ℕ → ℕ
open_in sh R z =
    let r = R / m sh in
    let a = R % m sh in
    L (len sh z) (cond (leb z a) (r + 1) r)

-- and of all tables
unfoldable pub open_after : Shape → ℕ → ℕ
open_after sh R = sum (open_in sh R) (m sh)

-- under a mask, with c of the bits of table z under it, radius ρ costs 2^(len z − c)·L(c, ρ) buckets
abbrev pub open_in_under : Shape → List ℕ → ℕ → ℕ → ℕ
open_in_under sh mask R z =
    let r = R / m sh in
    let a = R % m sh in
    let c = ones (substring (first_bit sh z) (len sh z) mask) in
    2 ^ (len sh z - c) * L c (cond (leb z a) (r + 1) r)

-- and of all tables
unfoldable pub open_after_under : Shape → List ℕ → ℕ → ℕ
open_after_under sh mask R = sum (open_in_under sh mask R) (m sh)

-- what is asked: an index, a query and a mask of the bits that count
pub record Question : Type 0 where
  pub index : Index
  pub query : List ℕ
  pub mask : List ℕ

abbrev pub masked : Index → List ℕ → List ℕ → Question
masked x query mask = record { index = x; query = query; mask = mask }

-- without a mask all bits count: w words of 64 ones
abbrev pub all_ones : ℕ → List ℕ
all_ones w = tab (λ _. 2 ^ 64 - 1) w

abbrev pub question : Index → List ℕ → Question
question x query = masked x query (all_ones x.shape.w)

module _ (ask : Question) where
  -- entry i's distance from the query, of the bits under the mask
  abbrev pub distance_of : ℕ → ℕ
  distance_of i = distance_under ask.mask (q ask.index.shape) (code_of ask.index.shape.w ask.index.codes i) ask.query

  -- entry i's star
  abbrev pub star_of : ℕ → ℕ
  star_of i = get_or ask.index.stars i 0

  -- step R = m·r' + a opens in table a every bucket whose exclusive-or with the query's substring has exactly r' ones under the mask, ascending by the whole exclusive-or
  unfoldable pub opens : ℕ → List (ℕ × ℕ)
  opens R =
      let sh = ask.index.shape in
      let r = R / m sh in
      let a = R % m sh in
      let sub = substring (first_bit sh a) (len sh a) ask.query in
      let under = substring (first_bit sh a) (len sh a) ask.mask in
      map (λ e. (a, bit_xor sub e)) (upto (λ e. eqb (ones (bit_and e under)) r) (size sh a))

  -- what the first N steps open, in order: after step R, N is R + 1
  unfoldable pub opened : ℕ → List (ℕ × ℕ)
  opened N = cat opens N

  -- an opened bucket lists entry i
  unfoldable pub tested : ℕ → ℕ → Bool
  tested N i = any (λ b. has i (bucket ask.index b.0 b.1)) (opened N)

  -- opened buckets and tested entries are two counts
  abbrev pub opened_count : ℕ → Opened
  opened_count N = record { 0 = length (opened N) }

  abbrev pub tested_count : ℕ → Tested
  tested_count N = record { 0 = count (tested N) (n ask.index) }

  -- after step R: the tested entries that have distance R or less
  unfoldable pub near : ℕ → List ℕ
  near R = upto (λ i. leb (distance_of i) R && tested (R + 1) i) (n ask.index)

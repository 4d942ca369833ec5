-- A record's answer, taken apart; the front of the input and how much of a body is to be read, case by case. Assumes nothing.
use mathlib.Core.Path.{◌≡◌, refl, ap}
use mathlib.Core.Bool.{Bool, true, false, cond}
use mathlib.Core.List.{List}
use Prim.Native.Nat.{ℕ, ◌+◌, ◌≤◌, ◌<◌}
use borrow.Author.Tests.{ltb-false, lt-ltb, le-ltb, ne_eqb}
use lib.Dec.{eqb, ltb}
use lib.ListN.{length}
use Rattle.std.specs.Prelude.{Option, Some, None, Result, Ok, Err}
use Rattle.reading.specs.Bytes.{number_at}
use Rattle.reading.specs.Records.{◌>>=◌, bad, front_of, headed, wanted}
use Rattle.reading.specs.declared.Bad.{Bad}
use Rattle.reading.specs.declared.Front.{Front}

-- ---- an answer that is not bad

module _ {A B : Type 0} where
  pub step : (r : Result A Bad) (f : A → Result B Bad) (y : B) → (r >>= f) ≡ Ok y → (x : A) × (r ≡ Ok x) × (f x ≡ Ok y)
  step (Ok x) f y h = (x, refl, h)
  step (Err e) f y h = absurd (cc)

  pub made : (r : Result A Bad) (f : A → B) (y : B) → (r >>= λ x. Ok (f x)) ≡ Ok y → (x : A) × (r ≡ Ok x) × (f x ≡ y)
  made (Ok x) f y h = (x, refl, cc)
  made (Err e) f y h = absurd (cc)

module _ {A : Type 0} where
  pub kept : (t : Bool) (r : Result A Bad) (y : A) → cond t r bad ≡ Ok y → (t ≡ true) × (r ≡ Ok y)
  kept true r y h = (refl, h)
  kept false r y h = absurd (cc)

  pub passed : (t : Bool) (r : Result A Bad) (y : A) → cond t bad r ≡ Ok y → (t ≡ false) × (r ≡ Ok y)
  passed true r y h = absurd (cc)
  passed false r y h = (refl, h)

-- ---- the front of the input

module _ (s : List ℕ) (some : length s ≡ 0 → ⊥) (four : 4 ≤ length s) where
  pub front_long : 8193 < number_at 2 s 0 → front_of s ≡ bad
  front_long l = rw (ne_eqb _ _ some, le-ltb _ _ four, lt-ltb _ _ l)

  pub front_whole : number_at 2 s 0 ≤ 8193 → 4 + number_at 2 s 0 ≤ length s → front_of s ≡ Ok (Some (record { length = number_at 2 s 0; kind = number_at 2 s 2 }))
  front_whole l fits = rw (ne_eqb _ _ some, le-ltb _ _ four, le-ltb _ _ l, le-ltb _ _ fits)

-- a whole record is what its first bytes say, lies within the input, and its body is short enough
pub record Whole (s : List ℕ) (front : Front) : Type 0 where
  pub body : number_at 2 s 0 ≡ front.length
  pub kind : number_at 2 s 2 ≡ front.kind
  pub short : number_at 2 s 0 ≤ 8193
  pub fits : 4 + number_at 2 s 0 ≤ length s

begun : {A : Type 0} (t : Bool) (r : Result (Option A) Bad) (x : A) → cond t (Ok None) r ≡ Ok (Some x) → r ≡ Ok (Some x)
begun true r x h = absurd (cc)
begun false r x h = h

pub whole : (s : List ℕ) (front : Front) → front_of s ≡ Ok (Some front) → Whole s front
whole s front h =
    let four = passed (ltb (length s) 4) (headed s) _ (begun (eqb (length s) 0) _ _ h) in
    let short = passed (ltb 8193 (number_at 2 s 0)) _ _ four.1 in
    let fits = passed (ltb (length s) (4 + number_at 2 s 0)) _ _ short.1 in
    let e : record { length = number_at 2 s 0; kind = number_at 2 s 2 } ≡ front = cc in
    record {
      body = ap (λ (f : Front). f.length) e;
      kind = ap (λ (f : Front). f.kind) e;
      short = ltb-false _ _ short.0;
      fits = ltb-false _ _ fits.0;
    }

-- ---- how much of a body is to be read

pub wanted_long : (s : List ℕ) → 4 ≤ length s → 8193 < number_at 2 s 0 → wanted s ≡ 0
unfolding wanted
wanted_long s h l = rw (le-ltb _ _ h, lt-ltb _ _ l)

pub wanted_is : (s : List ℕ) → 4 ≤ length s → number_at 2 s 0 ≤ 8193 → wanted s ≡ number_at 2 s 0
unfolding wanted
wanted_is s h l = rw (le-ltb _ _ h, le-ltb _ _ l)

-- A record read by itself means what it means in the input. Assumes nothing.
use mathlib.Core.Path.{◌≡◌, refl, ap, sym, ◌∙◌}
use mathlib.Core.List.{List}
use mathlib.Core.Logic.{⊎_elim}
use Prim.Native.Nat.{ℕ, zero, suc, ◌+◌, ◌≤◌, ◌<◌}
use native.Mathlib.Omega.{arith}
use lib.ListN.{length, take, drop}
use lib.Seq.{get_or-take, take_all, take-take, take-add, drop_at, length-take-le}
use Rattle.std.specs.Prelude.{Option, Some, Result}
use Rattle.theory.proofs.Tests.{lt-or-le}
use Rattle.reading.specs.Bytes.{number_at}
use Rattle.reading.specs.Records.{◌>>=◌, front_of, record_of, by_front, wanted, chunk_of}
use Rattle.reading.specs.declared.Session.{Session}
use Rattle.reading.specs.declared.Bad.{Bad}
use Rattle.reading.specs.declared.Front.{Front}
use Rattle.reading.proofs.Cases.{front_long, front_whole, wanted_long, wanted_is}

pub number-take : (k : ℕ) (s : List ℕ) (at m : ℕ) → at + k ≤ m → number_at k (take m s) at ≡ number_at k s at
unfolding number_at
number-take zero s at m h = refl
number-take (suc k) s at m h = rw (get_or-take m s at 0 (omega arith), number-take k s (suc at) m (omega arith))

body_take : (n : ℕ) (s : List ℕ) → 4 + n ≤ length s → take n (drop 4 (take (4 + n) s)) ≡ take n (drop 4 s)
body_take n s h =
    ap (λ (l : List ℕ). take n (drop 4 l)) (take-add 4 n s)
    ∙ ap (take n) (drop_at (take 4 s) (take n (drop 4 s)) 4 (length-take-le 4 s (omega arith)))
    ∙ take-take n n (drop 4 s) (omega arith)

some : (l : List ℕ) → 4 ≤ length l → length l ≡ 0 → ⊥
some l h e = omega arith

module _ (session : Session) (s : List ℕ) where
  cut_short : length s ≤ 4 + wanted s → record_of session (chunk_of s) ≡ record_of session s
  unfolding chunk_of
  cut_short h = ap (record_of session) (take_all (4 + wanted s) s h)

  cut_long : 4 ≤ length s → 8193 < number_at 2 s 0 → record_of session (chunk_of s) ≡ record_of session s
  unfolding chunk_of record_of
  cut_long h l =
      let n : 4 ≤ length (take 4 s) = omega (arith, length-take-le 4 s h) in
      let e : number_at 2 (take 4 s) 0 ≡ number_at 2 s 0 = number-take 2 s 0 4 (omega arith) in
      ap (λ (m : ℕ). front_of (take (4 + m) s) >>= by_front session (take (4 + m) s)) (wanted_long s h l)
      ∙ ap (λ (f : Result (Option Front) Bad). f >>= by_front session (take 4 s)) (front_long (take 4 s) (some (take 4 s) n) n (rw e l))
      ∙ sym (ap (λ (f : Result (Option Front) Bad). f >>= by_front session s) (front_long s (some s h) h l))

  cut_whole : 4 ≤ length s → number_at 2 s 0 ≤ 8193 → 4 + number_at 2 s 0 ≤ length s → record_of session (chunk_of s) ≡ record_of session s
  unfolding chunk_of record_of
  cut_whole h l k =
      let n = number_at 2 s 0 in
      let c = take (4 + n) s in
      let len : length c ≡ 4 + n = length-take-le (4 + n) s k in
      let m : 4 ≤ length c = omega arith in
      let e : number_at 2 c 0 ≡ n = number-take 2 s 0 (4 + n) (omega arith) in
      let i : number_at 2 c 2 ≡ number_at 2 s 2 = number-take 2 s 2 (4 + n) (omega arith) in
      let f = front_whole c (some c m) m (omega arith) (omega arith) in
      let g = front_whole s (some s h) h l k in
      ap (λ (j : ℕ). front_of (take (4 + j) s) >>= by_front session (take (4 + j) s)) (wanted_is s h l)
      ∙ ap (λ (f : Result (Option Front) Bad). f >>= by_front session c) f
      ∙ (λ j. by_front session c (Some (record { length = e j; kind = i j })))
      ∙ (rw (body_take n s k))
      ∙ sym (ap (λ (f : Result (Option Front) Bad). f >>= by_front session s) g)

  pub cut : record_of session (chunk_of s) ≡ record_of session s
  cut =
      ⊎_elim
      (λ (a : length s < 4). cut_short (omega arith))
      (λ (a : 4 ≤ length s).
      ⊎_elim
      (λ (l : 8193 < number_at 2 s 0). cut_long a l)
      (λ (l : number_at 2 s 0 ≤ 8193).
      ⊎_elim
      (λ (k : length s < 4 + number_at 2 s 0). cut_short (omega (arith, wanted_is s a l)))
      (λ (k : 4 + number_at 2 s 0 ≤ length s). cut_whole a l k)
      (lt-or-le (length s) (4 + number_at 2 s 0)))
      (lt-or-le 8193 (number_at 2 s 0)))
      (lt-or-le (length s) 4)

-- A distance up to a limit: what is exact and what is over. Assumes nothing.
use mathlib.Core.Path.{◌≡◌, refl, sym}
use mathlib.Core.Bool.{Bool, true, false, cond}
use Prim.Native.Nat.{ℕ, ◌≤◌, ◌<◌}
use native.Mathlib.Omega.{arith}
use lib.Dec.{leb}
use borrow.Author.Tests.{le-leb, lt-leb, leb-true, leb-false}
use Rattle.std.specs.Prelude.{Some, None}
use Rattle.codes.specs.Distances.{limited}

module _ (limit d : ℕ) where
  pub limited-near : d ≤ limit → limited limit d ≡ Some d
  unfolding limited
  limited-near h = rw (le-leb d limit h)

  pub limited_far : limit < d → limited limit d ≡ None
  unfolding limited
  limited_far h = rw (lt-leb d limit h)

  apart : {A : Type 0} (e : ℕ) → Some e ≡ None → A
  apart e q = absurd (let y : ◌≡◌ {A = ℕ} 0 1 = cc in omega arith)

  same : (e f : ℕ) → Some e ≡ Some f → e ≡ f
  same e f q = cc

  -- what is told as exact is, and is within the limit
  pub is_exact : (e : ℕ) → limited limit d ≡ Some e → (e ≡ d) × (d ≤ limit)
  unfolding limited
  is_exact e h = go (leb d limit) refl h
    where
      go : (b : Bool) → leb d limit ≡ b → cond b (Some d) None ≡ Some e → (e ≡ d) × (d ≤ limit)
      go true k q = (sym (same d e q), leb-true d limit k)
      go false k q = apart e (sym q)

  -- what is told as over is
  pub is_over : limited limit d ≡ None → limit < d
  unfolding limited
  is_over h = go (leb d limit) refl h
    where
      go : (b : Bool) → leb d limit ≡ b → cond b (Some d) None ≡ None → limit < d
      go true k q = apart d q
      go false k q = leb-false d limit k

-- The verdict on the rivals of a list. Assumes nothing.
use mathlib.Core.Path.{◌≡◌, refl, sym, ap₂}
use mathlib.Core.List.{[], ◌∷◌}
use Prim.Native.Nat.{ℕ, ◌-◌, ◌/◌, ◌%◌, ◌≤◌, ◌<◌}
use native.Mathlib.Omega.{arith}
use borrow.Author.Tests.{lt-ltb, le-ltb}
use Rattle.scope.specs.declared.Verdict.TheVariants.{None, Unsure, Match}
use Rattle.scope.specs.Verdict.{verdict_of}
use Rattle.walk.specs.declared.Rivals.{Rivals}
use Rattle.walk.specs.Rivals.{nobody}
use Rattle.search.specs.Judge.{Its, Says}

-- a standing holds the distance and the entry
distance_is : (dist : ℕ → ℕ) (x i d : ℕ) → Its dist x i → d ≡ x / 65536 → d ≡ dist i
distance_is dist x i d h q = let e = h.is in let l = h.few in omega arith

entry_is : (dist : ℕ → ℕ) (x i j : ℕ) → Its dist x i → j ≡ x % 65536 → j ≡ i
entry_is dist x i j h q = let e = h.is in let l = h.few in omega arith

module _ (star : ℕ → ℕ) (t g : ℕ) (r : Rivals) where
  pub nothing : r.first.0 ≡ nobody → Says star t g r None
  unfolding verdict_of
  nothing e dist [] s = refl
  nothing e dist (a ∷ []) s = absurd (let l = s.0.somebody in omega arith)
  nothing e dist (a ∷ b ∷ l) s = absurd (let l = s.0.somebody in omega arith)

  module _ (some : r.first.0 ≡ nobody → ⊥) (d : ℕ) (d_is : d ≡ r.first.0 / 65536) where
    -- d is the distance of the first
    at : (dist : ℕ → ℕ) (a : ℕ) → Its dist r.first.0 a → d ≡ dist a
    at dist a h = distance_is dist r.first.0 a d h d_is

    pub far : t < d → Says star t g r None
    unfolding verdict_of
    far h dist [] s = absurd (some s)
    far h dist (a ∷ []) s = rw (lt-ltb t (dist a) (omega (arith, at dist a s.0)))
    far h dist (a ∷ b ∷ l) s = rw (lt-ltb t (dist a) (omega (arith, at dist a s.0)))

    module _ (near : d ≤ t) where
      pub alone : r.other.0 ≡ nobody → Says star t g r (Match r.star d)
      unfolding verdict_of
      alone h dist [] s = absurd (some s)
      alone h dist (a ∷ []) s = let first = at dist a s.0 in rw (le-ltb t (dist a) (omega arith)) (ap₂ Match (sym s.1) first)
      alone h dist (a ∷ b ∷ l) s = absurd (let o = s.2.somebody in omega arith)

      module _ (other : r.other.0 ≡ nobody → ⊥) (f : ℕ) (f_is : f ≡ r.other.0 / 65536) where
        pub close : (i : ℕ) → i ≡ r.other.0 % 65536 → f - d < g → Says star t g r (Unsure r.star (star i) d f)
        unfolding verdict_of
        close i i_is h dist [] s = absurd (some s)
        close i i_is h dist (a ∷ []) s = absurd (other s.2)
        close i i_is h dist (a ∷ b ∷ l) s =
            let first = at dist a s.0 in
            let second = distance_is dist r.other.0 b f s.2 f_is in
            let entry = entry_is dist r.other.0 b i s.2 i_is in
            rw (le-ltb t (dist a) (omega arith), lt-ltb (dist b - dist a) g (omega arith)) (λ k. Unsure (sym s.1 k) (star (entry k)) (first k) (second k))

        pub clear : g ≤ f - d → Says star t g r (Match r.star d)
        unfolding verdict_of
        clear h dist [] s = absurd (some s)
        clear h dist (a ∷ []) s = absurd (other s.2)
        clear h dist (a ∷ b ∷ l) s =
            let first = at dist a s.0 in
            let second = distance_is dist r.other.0 b f s.2 f_is in
            rw (le-ltb t (dist a) (omega arith), le-ltb (dist b - dist a) g (omega arith)) (ap₂ Match (sym s.1) first)

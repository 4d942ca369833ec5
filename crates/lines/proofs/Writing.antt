-- Writing text into a list. Assumes nothing.
use mathlib.Core.Path.{◌≡◌, refl, ap, sym, ◌∙◌}
use mathlib.Core.List.{List, [], ◌∷◌, ◌++◌, map, append_assoc}
use Prim.Native.Nat.{ℕ, zero, suc, ◌+◌, ◌*◌, ◌≤◌, ◌<◌}
use native.Mathlib.Numerals.{add-one}
use native.Mathlib.Omega.{arith}
use lib.ListN.{length, get_or, take, set, length-append}
use lib.Seq.{sets, take_all, get_or-take}
use Rattle.std.proofs.lemmas.List.{take_more}
use Rattle.theory.specs.Lists.{cat}
use Rattle.theory.proofs.Lists.{sets_append, cat_cong}
use Rattle.lines.specs.Lines.{answer_line, answer_lines}
use Rattle.lines.specs.Text.{line}
use Rattle.lines.specs.Wrote.{Wrote, Put, text_of, width, room}
use Rattle.lines.specs.declared.Field.{Field}

pub wrote_none : (l : List ℕ) (at : ℕ) → Wrote l at [] l at
wrote_none l at = record { list = refl; place = omega arith }

pub wrote_byte : (l : List ℕ) (at x : ℕ) → Wrote l at (x ∷ []) (set l at x) (at + 1)
wrote_byte l at x = record { list = refl; place = refl }

-- one text after another
pub wrote_more : {l : List ℕ} {at : ℕ} {t l₁ : List ℕ} {a : ℕ} {u l₂ : List ℕ} {b : ℕ}
    → Wrote l at t l₁ a → Wrote l₁ a u l₂ b → Wrote l at (t ++ u) l₂ b
wrote_more {l} {at} {t} {l₁} {a} {u} {l₂} {b} p q =
    record {
      list = q.list ∙ ap (λ (x : List ℕ). sets x a u) p.list ∙ ap (λ (k : ℕ). sets (sets l at t) k u) p.place ∙ sets_append t l at u;
      place = omega (arith, p.place, q.place, length-append t u);
    }

pub wrote_is : {l : List ℕ} {at : ℕ} {t u l' : List ℕ} {r : ℕ} → t ≡ u → Wrote l at t l' r → Wrote l at u l' r
wrote_is e w = rw e at w

pub put_whole : {most : ℕ} {l : List ℕ} {at : ℕ} {t l' : List ℕ} {r : ℕ} → Wrote l at t l' r → length t ≤ most → Put most l at t l' r
put_whole w h = record { wrote = w; short = omega (arith, w.place) }

-- ---- a line of fields

-- the fields, each with a space after it
abbrev pub spaced : List Field → List ℕ
spaced [] = []
spaced (f ∷ fs) = text_of f ++ 32 ∷ spaced fs

spaced_more : (fs : List Field) (f : Field) → spaced (fs ++ f ∷ []) ≡ spaced fs ++ (text_of f ++ 32 ∷ [])
spaced_more [] f = refl
spaced_more (g ∷ fs) f = ap (λ (t : List ℕ). text_of g ++ 32 ∷ t) (spaced_more fs f) ∙ sym (append_assoc (text_of g) (32 ∷ spaced fs) (text_of f ++ 32 ∷ []))

-- and the last with a line feed
pub line_is : (fs : List Field) (f : Field) → line (map text_of (fs ++ f ∷ [])) ≡ spaced fs ++ (text_of f ++ 10 ∷ [])
line_is [] f = refl
line_is (g ∷ []) f = sym (append_assoc (text_of g) (32 ∷ []) (text_of f ++ 10 ∷ []))
line_is (g ∷ h ∷ fs) f =
    ap (λ (t : List ℕ). text_of g ++ 32 ∷ t) (line_is (h ∷ fs) f) ∙ sym (append_assoc (text_of g) (32 ∷ spaced (h ∷ fs)) (text_of f ++ 10 ∷ []))

room_more : (fs : List Field) (f : Field) → room (fs ++ f ∷ []) ≡ room fs + (width f + 1)
room_more [] f = omega arith
room_more (g ∷ fs) f = omega (arith, room_more fs f)

room_front : (n : ℕ) (fs : List Field) → room (take n fs) ≤ room fs
room_front zero fs = omega arith
room_front (suc n) [] = omega arith
room_front (suc n) (f ∷ fs) = omega (arith, room_front n fs)

-- the first i fields are written
pub record Begun (l : List ℕ) (at : ℕ) (fs : List Field) (i : ℕ) (l' : List ℕ) (r : ℕ) : Type 0 where
  pub wrote : Wrote l at (spaced (take i fs)) l' r
  pub short : r ≤ at + room (take i fs)

module _ (fs : List Field) (i : ℕ) (d : Field) (lt : i < length fs) where
  pub next_fits : width (get_or fs i d) + 1 + room (take i fs) ≤ room fs
  next_fits = omega (arith, ap room (take_more fs i d lt), room_more (take i fs) (get_or fs i d), room_front (i + 1) fs)

  pub begun_more : {l : List ℕ} {at : ℕ} {l₁ : List ℕ} {p : ℕ} {l₂ : List ℕ} {q : ℕ} {l₃ : List ℕ} {r : ℕ} → Begun l at fs i l₁ p
      → Put (width (get_or fs i d)) l₁ p (text_of (get_or fs i d)) l₂ q → Wrote l₂ q (32 ∷ []) l₃ r → Begun l at fs (i + 1) l₃ r
  begun_more b f space =
      let e = take_more fs i d lt in
      record {
        wrote = wrote_is (sym (ap spaced e ∙ spaced_more (take i fs) (get_or fs i d))) (wrote_more b.wrote (wrote_more f.wrote space));
        short = omega (arith, ap room e, room_more (take i fs) (get_or fs i d), b.short, f.short, space.place);
      }

module _ (fields front : List Field) (last : Field) (e : fields ≡ front ++ last ∷ []) where
  pub last_fits : room fields ≡ room front + (width last + 1)
  last_fits = ap room e ∙ room_more front last

  pub front_fits : (i : ℕ) → room (take i front) + (width last + 1) ≤ room fields
  front_fits i = omega (arith, last_fits, room_front i front)

  pub begun_all : {l : List ℕ} {at i : ℕ} {l₁ : List ℕ} {p : ℕ} {l₂ : List ℕ} {q : ℕ} {l₃ : List ℕ} {r : ℕ} → length front ≤ i → Begun l at front i l₁ p
      → Put (width last) l₁ p (text_of last) l₂ q → Wrote l₂ q (10 ∷ []) l₃ r → Put (room fields) l at (line (map text_of fields)) l₃ r
  begun_all {i = i} h b f end =
      let t : take i front ≡ front = take_all i front h in
      let w = rw t at b.wrote in
      record {
        wrote = wrote_is (sym (ap (λ (fs : List Field). line (map text_of fs)) e ∙ line_is front last)) (wrote_more w (wrote_more f.wrote end));
        short = omega (arith, ap room t, last_fits, b.short, f.short, end.place);
      }

-- lists cut to the first n answers list the same
pub lines_cut : (stars entries distances : List ℕ) (n : ℕ) → answer_lines stars (take n entries) (take n distances) n ≡ answer_lines stars entries distances n
unfolding answer_lines
lines_cut stars entries distances n =
    cat_cong _ _ n (λ i lt.
    let e = get_or-take n entries i 0 lt in
    let d = get_or-take n distances i 0 lt in
    λ j. answer_line (e j) (get_or stars (e j) 0) (d j))

-- the lines of the first i answers
pub record Listing (l₀ : List ℕ) (at : ℕ) (stars entries distances : List ℕ) (n : ℕ) (l : List ℕ) (p i : ℕ) : Type 0 where
  pub within : i ≤ n
  pub wrote : Wrote l₀ at (answer_lines stars entries distances i) l p
  pub short : p ≤ at + 33 * i
  pub same : length l ≡ length l₀

pub listing_none : (l : List ℕ) (at : ℕ) (stars entries distances : List ℕ) (n : ℕ) → Listing l at stars entries distances n l at 0
unfolding answer_lines cat
listing_none l at stars entries distances n = record { within = omega arith; wrote = wrote_none l at; short = omega arith; same = refl }

pub listing_more : (l₀ : List ℕ) (at : ℕ) (stars entries distances : List ℕ) (n : ℕ) (l : List ℕ) (p i : ℕ) {e s d : ℕ} (l' : List ℕ) (r : ℕ)
    → Listing l₀ at stars entries distances n l p i → i < n → e ≡ get_or entries i 0 → d ≡ get_or distances i 0 → s ≡ get_or stars e 0
    → Put 33 l p (answer_line e s d) l' r → length l' ≡ length l → Listing l₀ at stars entries distances n l' r (i + 1)
unfolding answer_lines cat
listing_more l₀ at stars entries distances n l p i {e} {s} {d} l' r h lt entry distance star w same =
    let there : s ≡ get_or stars (get_or entries i 0) 0 = star ∙ ap (λ (x : ℕ). get_or stars x 0) entry in
    let w' : Wrote l p (answer_line (get_or entries i 0) (get_or stars (get_or entries i 0) 0) (get_or distances i 0)) l' r =
    wrote_is (λ j. answer_line (entry j) (there j) (distance j)) w.wrote in
    record {
      within = omega arith;
      wrote = rw (add-one i) (wrote_more h.wrote w');
      short = omega (arith, h.short, w.short);
      same = same ∙ h.same;
    }

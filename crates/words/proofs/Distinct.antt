-- Tables in which no word stands twice: each word's number is its own.
use mathlib.Core.Path.{◌≡◌, refl, ◌∙◌}
use mathlib.Core.Bool.{Bool, true, false, not, ◌&&◌, ◌||◌, and-false}
use mathlib.Core.List.{List, [], ◌∷◌}
use mathlib.Core.Logic.{◌⊎◌, inl, inr, ⊎_elim}
use Prim.Native.Nat.{ℕ, zero, suc, ◌<◌}
use native.Mathlib.Omega.{arith}
use borrow.Author.Tests.{eq-eqb, ne_eqb, lt-ltb, le-ltb, not-true}
use lib.Dec.{T, eqb, ltb, eqb→eq, ltb→lt}
use lib.Ieee.Bits.{is_true}
use lib.ListN.{length, get_or}
use mir.Facts.{and_yes, yes_and}
use Rattle.lexer.specs.Bytes.{same, place_in}
use Rattle.lexer.proofs.Law.Spelling.{same_self}

-- whether a word is none of some
abbrev pub none : List ℕ → List (List ℕ) → Bool
none w [] = true
none w (v ∷ vs) = not (same v w) && none w vs

-- whether no word stands twice
abbrev pub distinct : List (List ℕ) → Bool
distinct [] = true
distinct (w ∷ ws) = none w ws && distinct ws

-- whether a word comes before another in the order of bytes
abbrev pub earlier : List ℕ → List ℕ → Bool
earlier v [] = false
earlier [] (y ∷ w) = true
earlier (x ∷ v) (y ∷ w) = ltb x y || (eqb x y && earlier v w)

-- whether each word comes before the next
abbrev pub ascending : List (List ℕ) → Bool
ascending [] = true
ascending (w ∷ []) = true
ascending (v ∷ w ∷ ws) = earlier v w && ascending (w ∷ ws)

-- ---- every word has its own number

none-at : (w : List ℕ) (ws : List (List ℕ)) → T (none w ws) → (n : ℕ) → n < length ws → same (get_or ws n []) w ≡ false
none-at w [] t n h = absurd (omega arith)
none-at w (v ∷ vs) t zero h = not-true _ (is_true _ (and_yes (not (same v w)) (none w vs) t).0)
none-at w (v ∷ vs) t (suc n) h = none-at w vs (and_yes (not (same v w)) (none w vs) t).1 n (omega arith)

pub number-of : (ws : List (List ℕ)) → T (distinct ws) → (n : ℕ) → n < length ws → place_in ws (get_or ws n []) ≡ n
number-of [] d n h = absurd (omega arith)
number-of (w ∷ ws) d zero h = rw (same_self w)
number-of (w ∷ ws) d (suc n) h =
    let t = and_yes (none w ws) (distinct ws) d in
    rw (none-at w ws t.0 n (omega arith), number-of ws t.1 n (omega arith))

-- ---- where the words ascend none stands twice

abbrev Before : ℕ → ℕ → List ℕ → List ℕ → Type 0
Before x y v w = (x < y) ⊎ ((x ≡ y) × T (earlier v w))

or_yes : (a b : Bool) → T (a || b) → T a ⊎ T b
or_yes true b t = inl tt
or_yes false b t = inr t

bytes : (x y : ℕ) (v w : List ℕ) → T (earlier (x ∷ v) (y ∷ w)) → Before x y v w
bytes x y v w t = ⊎_elim (λ l. inl (ltb→lt x y l)) (λ e. let p = and_yes (eqb x y) (earlier v w) e in inr (eqb→eq x y p.0, p.1)) (or_yes (ltb x y) (eqb x y && earlier v w) t)

earlier-other : (v w : List ℕ) → T (earlier v w) → same w v ≡ false
earlier-other v [] t = absurd t
earlier-other [] (y ∷ w) t = refl
earlier-other (x ∷ v) (y ∷ w) t = go (bytes x y v w t) (earlier-other v w)
  where
    go : Before x y v w → (T (earlier v w) → same w v ≡ false) → (eqb y x && same w v) ≡ false
    go (inl l) h = rw (ne_eqb y x (λ q. omega (arith, l, q)))
    go (inr p) h = rw (h p.1) (and-false (eqb y x))

earlier-trans : (u v w : List ℕ) → T (earlier u v) → T (earlier v w) → T (earlier u w)
earlier-trans u v [] s t = absurd t
earlier-trans u [] (z ∷ w) s t = absurd s
earlier-trans [] (y ∷ v) (z ∷ w) s t = tt
earlier-trans (x ∷ u) (y ∷ v) (z ∷ w) s t = go (bytes x y u v s) (bytes y z v w t) (earlier-trans u v w)
  where
    less : x < z → T (ltb x z || (eqb x z && earlier u w))
    less l = rw (lt-ltb x z l) tt

    go : Before x y u v → Before y z v w → (T (earlier u v) → T (earlier v w) → T (earlier u w)) → T (ltb x z || (eqb x z && earlier u w))
    go (inl l) (inl m) h = less (omega (arith, l, m))
    go (inl l) (inr m) h = less (omega (arith, l, m.0))
    go (inr l) (inl m) h = less (omega (arith, l.0, m))
    go (inr l) (inr m) h = rw (le-ltb x z (omega (arith, l.0, m.0)), eq-eqb x z (l.0 ∙ m.0)) (h l.1 m.1)

ascending-none : (w v : List ℕ) (vs : List (List ℕ)) → T (earlier w v) → T (ascending (v ∷ vs)) → T (none w (v ∷ vs))
ascending-none w v [] e t = rw (earlier-other w v e) tt
ascending-none w v (u ∷ vs) e t =
    let p = and_yes (earlier v u) (ascending (u ∷ vs)) t in
    rw (earlier-other w v e) (ascending-none w u vs (earlier-trans w v u e p.0) p.1)

pub ascending-distinct : (ws : List (List ℕ)) → T (ascending ws) → T (distinct ws)
ascending-distinct [] t = tt
ascending-distinct (w ∷ []) t = tt
ascending-distinct (w ∷ v ∷ vs) t =
    let p = and_yes (earlier w v) (ascending (v ∷ vs)) t in
    yes_and (none w (v ∷ vs)) (distinct (v ∷ vs)) (ascending-none w v vs p.0 p.1) (ascending-distinct (v ∷ vs) p.1)

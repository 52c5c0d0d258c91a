-- Parts of texts, and bytes compared.
use mathlib.Core.Path.{◌≡◌, refl, sym, ◌∙◌, ap}
use mathlib.Core.Bool.{Bool, true, false, ◌&&◌}
use lib.Dec.{eqb}
use mathlib.Core.List.{List, [], ◌∷◌}
use Prim.Native.Nat.{ℕ, zero, suc, ◌-◌, min}
use native.Mathlib.Nat.{zero-min, min-zero, suc-min-suc}
use lib.ListN.{length, take, drop, length-take}
use lib.Seq.{slice}
use Rattle.std.specs.Cmp.Lexicographic.{pointwise}
use Rattle.lexer.specs.Bytes.{same}
use Rattle.lexer.proofs.Law.Spelling.{slice_is, same-eq, same_self}

-- ---- bytes compared

-- what is true just of equal texts is their comparison
pub decided : (r : Bool) (s t : List ℕ) → (r ≡ true → s ≡ t) × (s ≡ t → r ≡ true) → r ≡ same s t
decided true s t h = sym (ap (same s) (sym (h.0 refl)) ∙ same_self s)
decided false s t h = go (same s t) refl
  where
    go : (b : Bool) → same s t ≡ b → false ≡ same s t
    go true e = h.1 (same-eq s t e) ∙ sym e
    go false e = sym e

-- what `==` says of two slices
pub pointwise-same : (s t : List ℕ) → pointwise eqb s t ≡ same s t
pointwise-same [] [] = refl
pointwise-same [] (y ∷ ys) = refl
pointwise-same (x ∷ xs) [] = refl
pointwise-same (x ∷ xs) (y ∷ ys) = ap (λ r. eqb x y && r) (pointwise-same xs ys)

-- the same, by its answer
pub told : {r t : Bool} (s : List ℕ) {v w : List ℕ} → r ≡ pointwise eqb s v → v ≡ w → r ≡ t → same s w ≡ t
told s {v} e k h = ap (same s) (sym k) ∙ sym (pointwise-same s v) ∙ sym e ∙ h

-- ---- ends cut to the text

take-cut : (n : ℕ) (l : List ℕ) → take (min n (length l)) l ≡ take n l
take-cut zero l = rw (zero-min (length l))
take-cut (suc n) [] = rw (min-zero (suc n))
take-cut (suc n) (x ∷ l) = rw (suc-min-suc n (length l), take-cut n l)

drop-cut : (n : ℕ) (l : List ℕ) → drop (min n (length l)) l ≡ drop n l
drop-cut zero l = rw (zero-min (length l))
drop-cut (suc n) [] = rw (min-zero (suc n))
drop-cut (suc n) (x ∷ l) = rw (suc-min-suc n (length l), drop-cut n l)

-- a part with its ends cut to the text, as the code takes it, is the part
pub part_cut : (s e : ℕ) (l : List ℕ) →
    take (min e (length l) - min s (min e (length l))) (drop (min s (min e (length l))) l) ≡ slice s e l
part_cut s e l = rw (sym (slice_is (min s (min e (length l))) (min e (length l)) l), take-cut e l, sym (length-take e l)) (drop-cut s (take e l))

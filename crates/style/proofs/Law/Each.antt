-- Each element of a list, by its index.
use mathlib.Core.Path.{◌≡◌, subst}
use mathlib.Core.List.{List, [], ◌∷◌, ◌++◌}
use Prim.Native.Nat.{ℕ, zero, suc, ◌+◌, ◌<◌, ◌≤◌}
use native.Mathlib.Omega.{arith}
use lib.ListN.{length, length-append}
use Rattle.style.specs.Holds.{Each}

module _ {A : Type 0} where
  pub each_map : (P Q : ℕ → A → Type 0) (i : ℕ) (xs : List A) → ((k : ℕ) (x : A) → i ≤ k → k < i + length xs → P k x → Q k x) → Each P i xs → Each Q i xs
  each_map P Q i [] f e = tt
  each_map P Q i (x ∷ xs) f e =
      (f i x (omega arith) (omega arith) e.0, each_map P Q (suc i) xs (λ k y low high p. f k y (omega arith) (omega arith) p) e.1)

  pub each_more : (P : ℕ → A → Type 0) (i n : ℕ) (xs : List A) (x : A) → n ≡ i + length xs → Each P i xs → P n x → Each P i (xs ++ x ∷ [])
  each_more P i n [] x h e p =
      let m : n ≡ i = omega arith in
      (subst (λ (k : ℕ). P k x) m p, tt)
  each_more P i n (y ∷ xs) x h e p = (e.0, each_more P (suc i) n xs x (omega arith) e.1 p)

  pub each_none : (P : ℕ → A → Type 0) (i : ℕ) (xs : List A) → length xs ≡ 0 → Each P i xs
  each_none P i [] h = tt
  each_none P i (x ∷ xs) h = absurd (omega arith)

  pub each_at : (P : ℕ → A → Type 0) (i : ℕ) (xs : List A) → Each P i xs → (k : ℕ) → k < length xs → (x : A) × P (i + k) x
  each_at P i [] e k h = absurd (omega arith)
  each_at P i (x ∷ xs) e zero h =
      let m : i ≡ i + 0 = omega arith in
      (x, subst (λ (j : ℕ). P j x) m e.0)
  each_at P i (x ∷ xs) e (suc k) h =
      let r = each_at P (suc i) xs e.1 k (omega arith) in
      let m : suc i + k ≡ i + suc k = omega arith in
      (r.0, subst (λ (j : ℕ). P j r.0) m r.1)

  pub length_more : (xs : List A) (x : A) → length (xs ++ x ∷ []) ≡ length xs + 1
  length_more xs x = length-append xs (x ∷ [])

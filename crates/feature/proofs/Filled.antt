-- The values of names after some were stored one after another: they are read back, and no other number's value changes.
use mathlib.Core.Path.{◌≡◌, refl, ◌∙◌}
use mathlib.Core.List.{List, [], ◌∷◌}
use Prim.Native.Nat.{ℕ, zero, suc, ◌+◌, ◌≤◌, ◌<◌}
use native.Mathlib.Omega.{arith}
use lib.ListN.{length, get_or}
use Rattle.value.specs.declared.value.Value.{Value}
use Rattle.value.specs.declared.value.Value.TheVariants.{Undefined}
use Rattle.plan.specs.Layout.{undeclared}
use Rattle.evaluator.specs.Values.{value_at, stored}
use Rattle.evaluator.proofs.Stored.{stored_back, stored-others, stored-length}
use Rattle.feature.specs.Feature.{values_with}

-- there are as many as before
pub values-kept : (n : ℕ) (vs values : List Value) → length (values_with n vs values) ≡ length values
values-kept n [] values = refl
values-kept n (v ∷ vs) values = values-kept (suc n) vs (stored values n v) ∙ stored-length values n v

-- ---- values from a number on

outside : (n : ℕ) (vs values : List Value) (m : ℕ) → ((i : ℕ) → i < length vs → m ≡ n + i → ⊥) → value_at (values_with n vs values) m ≡ value_at values m
outside n [] values m h = refl
outside n (v ∷ vs) values m h =
    outside (suc n) vs (stored values n v) m (λ i b e. h (suc i) (omega arith) (omega arith))
    ∙ stored-others values n v m (λ e. h 0 (omega arith) (omega arith))

inside : (n : ℕ) (vs values : List Value) → length values ≡ undeclared → n + length vs ≤ undeclared → (m i : ℕ) → m ≡ n + i → i < length vs →
    value_at (values_with n vs values) m ≡ get_or vs i Undefined
inside n [] values size room m i e h = absurd (omega arith)
inside n (v ∷ vs) values size room m zero e h =
    let m-is : m ≡ n = omega arith in
    outside (suc n) vs (stored values n v) m (λ i b k. omega arith) ∙ rw m-is (stored_back values n v (omega (arith, size)))
inside n (v ∷ vs) values size room m (suc i) e h =
    inside (suc n) vs (stored values n v) (stored-length values n v ∙ size) (omega arith) m i (omega arith) (omega arith)

-- ---- the theorems

module _ (vs values : List Value) where
  pub filled : length values ≡ undeclared → length vs ≤ undeclared → (i : ℕ) → i < length vs → value_at (values_with 0 vs values) i ≡ get_or vs i Undefined
  filled size room i h = inside 0 vs values size (omega arith) i i (omega arith) h

  pub unfilled : (i : ℕ) → length vs ≤ i → value_at (values_with 0 vs values) i ≡ value_at values i
  unfilled i h = outside 0 vs values i (λ k b e. omega arith)

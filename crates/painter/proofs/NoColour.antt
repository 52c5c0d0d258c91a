-- When a feature has no colour.
use Rattle.std.specs.Prelude.{Option, Some, None}
use mathlib.Core.Path.{◌≡◌, refl, sym, ap}
use mathlib.Core.Bool.{Bool, true, false, cond, false≢true}
use mathlib.Core.List.{List, [], ◌∷◌}
use mathlib.Core.Logic.{◌↔◌, ◌⊎◌, inl, inr}
use Prim.Native.Nat.{ℕ, ◌<◌}
use native.Mathlib.Omega.{arith}
use lib.ListN.{length}
use Rattle.colour.specs.declared.colour.Colour.{Colour}
use Rattle.value.specs.declared.value.Value.{Value}
use Rattle.style.specs.Style.{Condition}
use Rattle.style.proofs.Accepted.{accepted-whole}
use Rattle.painter.specs.Given.{is_true, colour_by, conditioned_by, coloured_by, NoneTrue}
use Rattle.painter.specs.Meaning.{value_of, given_of}
use Rattle.painter.specs.Demand.{Reading}
use Rattle.painter.proofs.Order.{style-given}

abbrev is_none : Option Colour → Bool
is_none None = true
is_none (Some c) = false

module _ {E : Type 0} (value : E → Value) where
  some-colour : (c : Colour) → {A : Type 0} → Some c ≡ None → A
  some-colour c e = absurd (false≢true (ap is_none e))

  conditioned : (cs : List (Condition E)) → (conditioned_by value cs ≡ None) ↔ NoneTrue value cs
  conditioned [] = ((λ e. tt), (λ n. refl))
  conditioned (c ∷ cs) = go (is_true value c.test) (conditioned cs)
    where
      go : (b : Bool) → (conditioned_by value cs ≡ None) ↔ NoneTrue value cs →
          (cond b (colour_by value c.colour) (conditioned_by value cs) ≡ None) ↔ ((b ≡ false) × NoneTrue value cs)
      go true rest = ((λ e. some-colour _ e), (λ n. absurd (false≢true (sym n.0))))
      go false rest = ((λ e. (refl, rest.0 e)), (λ n. rest.1 n.1))

  -- `color` and conditions don't stand together
  coloured : (es : List E) (cs : List (Condition E)) → (length es ≡ 0) ⊎ (length cs ≡ 0) → (coloured_by value es cs ≡ None) ↔ ((0 < length cs) × NoneTrue value cs)
  coloured (e ∷ es) [] apart = ((λ n. some-colour _ n), (λ n. absurd (let h : 0 < 0 = n.0 in omega arith)))
  coloured (e ∷ es) (c ∷ cs) (inl h) = absurd (omega arith)
  coloured (e ∷ es) (c ∷ cs) (inr h) = absurd (omega arith)
  coloured [] [] apart = ((λ n. some-colour _ n), (λ n. absurd (let h : 0 < 0 = n.0 in omega arith)))
  coloured [] (c ∷ cs) apart = ((λ n. (omega arith, (conditioned (c ∷ cs)).0 n)), (λ n. (conditioned (c ∷ cs)).1 n.1))

-- a style that a head gives has them apart
pub reading-coloured : (slots : ℕ) (head : List ℕ) (number : ℕ) (feature : List ℕ) (x : Reading slots head number feature) →
    ((given_of x.style feature x.values).colouring ≡ None)
    ↔ ((0 < length x.style.conditions) × NoneTrue (value_of x.style feature x.values) x.style.conditions)
reading-coloured slots head number feature x =
    let s = x.style in
    let (_, _, is) = style-given slots head s x.gives in
    coloured (value_of s feature x.values) s.colours s.conditions (accepted-whole head s is).apart

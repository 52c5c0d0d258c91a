-- Components of operands, one operand after the other; and what no operation takes.
use Rattle.std.specs.Prelude.{None}
use Rattle.std.specs.List.{flat_map}
use Rattle.std.proofs.lemmas.List.{drop_more, get_or_append_left, get_or-append_right, get_or_default}
use mathlib.Core.Path.{◌≡◌, refl, sym}
use mathlib.Core.List.{List, [], ◌∷◌, map}
use Prim.Native.Nat.{ℕ, zero, suc, ◌+◌, ◌-◌, ◌<◌, ◌≤◌}
use native.Mathlib.Omega.{arith}
use lib.ListN.{length, get_or, drop}
use lib.Ieee.{Float}
use Rattle.number.specs.Arithmetic.{nought}
use Rattle.kind.specs.Kind.{dimension_of}
use Rattle.kind.specs.Rule.{rule_of}
use Rattle.kind.specs.declared.operation.Operation.{Operation}
use Rattle.kind.proofs.Law.Signatures.{over-four}
use Rattle.value.specs.Value.{kind_of, components_of, at}
use Rattle.value.specs.declared.value.Value.{Value}
use Rattle.value.specs.declared.value.Value.TheVariants.{Undefined, Null, Boolean, Number, String, Vec2, Vec3, Vec4}

-- ---- one operand

sized : (v : Value) → length (components_of v) ≡ dimension_of (kind_of v)
sized Undefined = refl
sized Null = refl
sized (Boolean b) = refl
sized (Number x) = refl
sized (String s) = refl
sized (Vec2 x y) = refl
sized (Vec3 x y z) = refl
sized (Vec4 x y z w) = refl

inside : (v : Value) (i : ℕ) (z : Float) → i < dimension_of (kind_of v) → get_or (components_of v) i z ≡ at i v
inside Undefined i z h = absurd (omega (arith, h))
inside Null i z h = absurd (omega (arith, h))
inside (Boolean b) i z h = absurd (omega (arith, h))
inside (Number x) zero z h = refl
inside (Number x) (suc i) z h = absurd (omega (arith, h))
inside (String s) i z h = absurd (omega (arith, h))
inside (Vec2 x y) i z h = get_or_default (x ∷ y ∷ []) i z nought h
inside (Vec3 x y u) i z h = get_or_default (x ∷ y ∷ u ∷ []) i z nought h
inside (Vec4 x y u w) i z h = get_or_default (x ∷ y ∷ u ∷ w ∷ []) i z nought h

-- ---- from an operand on

module _ (vs : List Value) (k : ℕ) (d : Value) (i : ℕ) (z : Float) (h : k < length vs) where
  -- a place in it
  pub within : i < dimension_of (kind_of (get_or vs k d)) → get_or (flat_map components_of (drop k vs)) i z ≡ at i (get_or vs k d)
  within m =
      let v = get_or vs k d in
      let n : i < length (components_of v) = omega (arith, sized v) in
      rw (drop_more vs k d h, get_or_append_left (components_of v) (flat_map components_of (drop (k + 1) vs)) z i n) (inside v i z m)

  -- and one past it
  pub past : dimension_of (kind_of (get_or vs k d)) ≤ i →
      get_or (flat_map components_of (drop k vs)) i z ≡ get_or (flat_map components_of (drop (k + 1) vs)) (i - dimension_of (kind_of (get_or vs k d))) z
  past m =
      let v = get_or vs k d in
      rw (drop_more vs k d h)
      (get_or-append_right (components_of v) (flat_map components_of (drop (k + 1) vs)) (dimension_of (kind_of v)) i z (sized v) m)

-- ---- no operation takes more than four

pub over : (o : Operation) (vs : List Value) → 5 ≤ length vs → None ≡ rule_of o (map kind_of vs)
over o [] h = absurd (omega (arith, h))
over o (a ∷ []) h = absurd (omega (arith, h))
over o (a ∷ b ∷ []) h = absurd (omega (arith, h))
over o (a ∷ b ∷ c ∷ []) h = absurd (omega (arith, h))
over o (a ∷ b ∷ c ∷ d ∷ []) h = absurd (omega (arith, h))
over o (a ∷ b ∷ c ∷ d ∷ e ∷ vs) h = sym (over-four o (kind_of a) (kind_of b) (kind_of c) (kind_of d) (kind_of e) (map kind_of vs))

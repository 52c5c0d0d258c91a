use mathlib.Core.Path.{◌≡◌, ap, ◌∙◌}
use mathlib.Core.Bool.{Bool, true, false}
use Prim.Native.Nat.{ℕ, ◌*◌}
use native.Mathlib.Omega.{arith}
use mir.Val.{bool_byte}
use Rattle.checker.specs.Property.{bit, packed_of}
use Rattle.checker.proofs.property.packed.Goals as goal

weighted : (n : ℕ) (b : Bool) (r : ℕ) → r ≡ bool_byte b → n * r ≡ bit b n
weighted n b r e = ap (λ (r : ℕ). n * r) e ∙ go b
  where
    go : (b : Bool) → n * bool_byte b ≡ bit b n
    go true = omega arith
    go false = omega arith

pub returns : goal.returns
unfolding packed_of
returns c =
    let s = c.args.set in
    omega (
      arith,
      weighted 1 s.undefined _ c.from.ensures,
      weighted 2 s.null _ c.from-2.ensures,
      weighted 4 s.boolean _ c.from-3.ensures,
      weighted 8 s.number _ c.from-4.ensures,
      weighted 16 s.string _ c.from-5.ensures,
      weighted 32 s.vec2 _ c.from-6.ensures,
      weighted 64 s.vec3 _ c.from-7.ensures,
      weighted 128 s.vec4 _ c.from-8.ensures,
    )

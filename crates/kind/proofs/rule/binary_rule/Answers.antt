use mathlib.Core.Path.{◌≡◌, refl, sym}
use mathlib.Core.Bool.{Bool, true}
use mathlib.Core.List.{List, [], ◌∷◌}
use lib.Dec.{T, leb}
use Rattle.kind.specs.Kind.{dimension_of}
use Rattle.kind.specs.Rule.{of_binary, rule_of}
use Rattle.kind.specs.declared.kind.Kind.{Kind}
use Rattle.kind.specs.declared.kind.Kind.TheVariants.{Undefined, Null, Boolean, Number, String, Vec2, Vec3, Vec4}
use Rattle.kind.specs.declared.operation.Binary.{Binary}
use Rattle.kind.specs.declared.operation.Binary.TheVariants.{Add, Subtract, Multiply, Divide, Remainder, Min, Max}
use Rattle.kind.proofs.Law.Signatures.{each, none-takes}
use Rattle.kind.proofs.rule.binary_rule.Goals as goal

-- the first operand is a Number or a vector
abbrev numeric_first : List Kind → Bool
numeric_first [] = true
numeric_first (k ∷ ks) = leb 1 (dimension_of k)

all_numeric : (f : Binary) → T (each numeric_first (of_binary f))
all_numeric Add = tt
all_numeric Subtract = tt
all_numeric Multiply = tt
all_numeric Divide = tt
all_numeric Remainder = tt
all_numeric Min = tt
all_numeric Max = tt

not_numeric : (k : Kind) → (k ≡ Number → ⊥) → (k ≡ Vec2 → ⊥) → (k ≡ Vec3 → ⊥) → (k ≡ Vec4 → ⊥) → T (leb 1 (dimension_of k)) → ⊥
not_numeric Undefined n a b c t = t
not_numeric Null n a b c t = t
not_numeric Boolean n a b c t = t
not_numeric Number n a b c t = n refl
not_numeric String n a b c t = t
not_numeric Vec2 n a b c t = a refl
not_numeric Vec3 n a b c t = b refl
not_numeric Vec4 n a b c t = c refl

pub returns-in_default-6 : goal.returns-in_default-6
unfolding rule_of
returns-in_default-6 c =
    let d = c.in_default in
    sym (none-takes numeric_first (of_binary c.args.f) (c.args.k ∷ c.args.l ∷ []) (all_numeric c.args.f) (not_numeric c.args.k d.not-Number-1 d.not-Vec2-1 d.not-Vec3-1 d.not-Vec4-1))

-- The kinds that a name stands for: page 01, "Kinds and meaning" ("a property its type plus Undefined or Null by flag, an undeclared name
-- Undefined alone").
use Rattle.std.specs.Prelude.{Bool, true, false, cond, List, ℕ, ◌+◌, ◌/◌, ◌%◌, eqb, ltb, get_or}
use Rattle.kind.specs.Set.{set_of, single_of, union_of}
use Rattle.kind.specs.declared.kind.Kind.{Kind}
use Rattle.kind.specs.declared.kind.Kind.TheVariants.{Undefined, Null}
use Rattle.kind.specs.declared.set.Kinds.{Kinds}
use Rattle.plan.specs.Layout as layout

-- what a name stands for, if it is no define: nothing that is declared, or a property with its type, and whether it may be absent and may
-- be null
pub data Property : Type 0 where
  undeclared : Property
  declared : Kind → Bool → Bool → Property

abbrev pub only_if : Bool → Kind → Kinds
only_if true k = single_of k
only_if false k = set_of (λ k. false)

abbrev pub property_kinds : Property → Kinds
property_kinds undeclared = single_of Undefined
property_kinds (declared t absent null) = union_of (single_of t) (union_of (only_if absent Undefined) (only_if null Null))

-- ---- sets by the numbers of names

-- A set lies in a number, a bit for each kind, the lowest for the first kind of page 01's list.
unfoldable pub unpacked_of : ℕ → Kinds
unpacked_of b =
    record {
      undefined = eqb (b % 2) 1;
      null = eqb (b / 2 % 2) 1;
      boolean = eqb (b / 4 % 2) 1;
      number = eqb (b / 8 % 2) 1;
      string = eqb (b / 16 % 2) 1;
      vec2 = eqb (b / 32 % 2) 1;
      vec3 = eqb (b / 64 % 2) 1;
      vec4 = eqb (b / 128 % 2) 1;
    }

abbrev pub bit : Bool → ℕ → ℕ
bit b n = cond b n 0

unfoldable pub packed_of : Kinds → ℕ
packed_of s =
    bit s.undefined 1
    + (bit s.null 2
    + (bit s.boolean 4
    + (bit s.number 8
    + (bit s.string 16
    + (bit s.vec2 32
    + (bit s.vec3 64
    + bit s.vec4 128))))))

-- the set of a name's number, in the plan; an undeclared name has none there
unfoldable pub set_at : List ℕ → ℕ → Kinds
unfolding unpacked_of
set_at plan n = cond (ltb n layout.undeclared) (unpacked_of (get_or plan (layout.set_place n) 0)) (single_of Undefined)

-- Sets of kinds: page 01, "Kinds and meaning" ("The checker gives each node a set of kinds").
use Rattle.std.specs.Prelude.{Bool, true, false, not, ◌&&◌, ◌||◌, List, [], ◌∷◌}
use Rattle.kind.specs.Kind.{kinds, eq_kind}
use Rattle.kind.specs.declared.kind.Kind.{Kind}
use Rattle.kind.specs.declared.kind.Kind.TheVariants.{Undefined, Null, Boolean, Number, String, Vec2, Vec3, Vec4}
use Rattle.kind.specs.declared.set.Kinds.{Kinds}

-- whether a kind is in a set
abbrev pub has : Kinds → Kind → Bool
has s Undefined = s.undefined
has s Null = s.null
has s Boolean = s.boolean
has s Number = s.number
has s String = s.string
has s Vec2 = s.vec2
has s Vec3 = s.vec3
has s Vec4 = s.vec4

-- the set of the kinds that are as asked
unfoldable pub set_of : (Kind → Bool) → Kinds
set_of p =
    record {
      undefined = p Undefined;
      null = p Null;
      boolean = p Boolean;
      number = p Number;
      string = p String;
      vec2 = p Vec2;
      vec3 = p Vec3;
      vec4 = p Vec4;
    }

-- some kind of a list, and every one, is as asked
abbrev pub some_of : List Kind → (Kind → Bool) → Bool
some_of [] p = false
some_of (k ∷ ks) p = p k || some_of ks p

abbrev pub every_of : List Kind → (Kind → Bool) → Bool
every_of [] p = true
every_of (k ∷ ks) p = p k && every_of ks p

-- some kind of a set is as asked
abbrev pub some : Kinds → (Kind → Bool) → Bool
some s p = some_of kinds (λ k. has s k && p k)

-- the set of one kind
unfoldable pub single_of : Kind → Kinds
unfolding set_of
single_of k = set_of (eq_kind k)

-- what is in one set or the other
unfoldable pub union_of : Kinds → Kinds → Kinds
unfolding set_of
union_of s t = set_of (λ k. has s k || has t k)

-- no kind is in a set
unfoldable pub empty_of : Kinds → Bool
empty_of s = not (some_of kinds (has s))

-- every kind of a set is in another
unfoldable pub within_of : Kinds → Kinds → Bool
within_of s t = every_of kinds (λ k. not (has s k) || has t k)

use mathlib.Core.Path.{◌≡◌, sym, ap, ◌∙◌}
use mathlib.Core.Bool.{Bool, true, false, ◌||◌, or-false}
use Rattle.kind.specs.Set.{set_of, single_of, union_of}
use Rattle.kind.specs.declared.kind.Kind.TheVariants.{Undefined, Null}
use Rattle.kind.specs.declared.set.Kinds.{Kinds}
use Rattle.checker.specs.Property.{only_if}
use Rattle.checker.proofs.property.kinds.Goals as goal

-- a set with other truths for Undefined and Null
abbrev other : Bool → Bool → Kinds → Kinds
other u n s =
    record {
      undefined = u;
      null = n;
      boolean = s.boolean;
      number = s.number;
      string = s.string;
      vec2 = s.vec2;
      vec3 = s.vec3;
      vec4 = s.vec4;
    }

-- and what no other set adds to
alone : (u n : Bool) (s : Kinds) →
    other u n s
    ≡ record {
      undefined = u;
      null = n;
      boolean = s.boolean || false;
      number = s.number || false;
      string = s.string || false;
      vec2 = s.vec2 || false;
      vec3 = s.vec3 || false;
      vec4 = s.vec4 || false;
    }
alone u n s = λ i. record {
  undefined = u;
  null = n;
  boolean = sym (or-false s.boolean) i;
  number = sym (or-false s.number) i;
  string = sym (or-false s.string) i;
  vec2 = sym (or-false s.vec2) i;
  vec3 = sym (or-false s.vec3) i;
  vec4 = sym (or-false s.vec4) i;
}

lacking : (s : Kinds) (a n : Bool) → other (s.undefined || a) (s.null || n) s ≡ union_of s (union_of (only_if a Undefined) (only_if n Null))
unfolding set_of single_of union_of
lacking s true true = alone (s.undefined || true) (s.null || true) s
lacking s true false = alone (s.undefined || true) (s.null || false) s
lacking s false true = alone (s.undefined || false) (s.null || true) s
lacking s false false = alone (s.undefined || false) (s.null || false) s

pub returns : goal.returns
returns c =
    let a = c.args in
    lacking c.single-own.result a.absent a.null ∙ ap (λ s. union_of s (union_of (only_if a.absent Undefined) (only_if a.null Null))) c.single-own.ensures

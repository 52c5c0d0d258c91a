use mathlib.Core.Path.{◌≡◌, refl, ap, ◌∙◌}
use mathlib.Core.Bool.{Bool, true, false, not, ◌&&◌, ◌||◌, beq}
use Rattle.kind.specs.Set.{set_of, union_of, within_of}
use Rattle.kind.specs.declared.set.Kinds.{Kinds}
use Rattle.kind.proofs.set.Kinds.is_within.Goals as goal

-- the union with another set is the other kind by kind
within : (a b c d : Bool) → c ≡ d → (beq (a || b) b && c) ≡ ((not a || b) && d)
within true true c d e = e
within true false c d e = refl
within false true c d e = e
within false false c d e = e

within-last : (a b : Bool) → beq (a || b) b ≡ ((not a || b) && true)
within-last true true = refl
within-last true false = refl
within-last false true = refl
within-last false false = refl

abbrev same : Kinds → Kinds → Bool
same s t =
    beq s.undefined t.undefined
    && (beq s.null t.null
    && (beq s.boolean t.boolean
    && (beq s.number t.number
    && (beq s.string t.string
    && (beq s.vec2 t.vec2
    && (beq s.vec3 t.vec3
    && beq s.vec4 t.vec4))))))

by-union : (s t : Kinds) → same (union_of s t) t ≡ within_of s t
unfolding set_of union_of within_of
by-union s t =
    within s.undefined t.undefined _ _ (within s.null t.null _ _ (within s.boolean t.boolean _ _ (within s.number t.number _ _
    (within s.string t.string _ _ (within s.vec2 t.vec2 _ _ (within s.vec3 t.vec3 _ _ (within-last s.vec4 t.vec4)))))))

pub returns : goal.returns
returns c = c.eq.ensures ∙ ap (λ u. same u c.args.other) c.union.ensures ∙ by-union c.args.self c.args.other

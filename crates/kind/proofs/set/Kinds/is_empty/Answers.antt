use mathlib.Core.Path.{◌≡◌, refl, ◌∙◌}
use mathlib.Core.Bool.{Bool, true, false, not, ◌&&◌, ◌||◌, beq}
use Rattle.kind.specs.Set.{empty_of}
use Rattle.kind.proofs.set.Kinds.is_empty.Goals as goal

-- a set is the empty one kind by kind
none : (a b c : Bool) → c ≡ not b → (beq a false && c) ≡ not (a || b)
none true b c e = refl
none false b c e = e

none-last : (a : Bool) → beq a false ≡ not (a || false)
none-last true = refl
none-last false = refl

pub returns : goal.returns
unfolding empty_of
returns c =
    let s = c.args.self in
    c.eq.ensures
    ∙ none s.undefined _ _ (none s.null _ _ (none s.boolean _ _ (none s.number _ _ (none s.string _ _ (none s.vec2 _ _ (none s.vec3 _ _ (none-last s.vec4)))))))

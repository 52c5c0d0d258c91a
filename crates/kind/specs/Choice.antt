-- A node's set of kinds from its parts' sets: page 01, "Kinds and meaning" ("The checker gives each node a set of kinds").
use Rattle.std.specs.Prelude.{Bool, true, false, cond, ◌||◌, List, [], ◌∷◌, take, Option, Some, None}
use Rattle.kind.specs.Kind.{eq_kind}
use Rattle.kind.specs.Rule.{rule_of}
use Rattle.kind.specs.Set.{some, set_of, empty_of}
use Rattle.kind.specs.declared.choice.Parts.{Parts}
use Rattle.kind.specs.declared.kind.Kind.{Kind}
use Rattle.kind.specs.declared.operation.Operation.{Operation}
use Rattle.kind.specs.declared.set.Kinds.{Kinds}

-- some choice of kinds, one from each set, is as asked
abbrev pub some_choice : List Kinds → (List Kind → Bool) → Bool
some_choice [] p = p []
some_choice (s ∷ ss) p = some s (λ k. some_choice ss (λ ks. p (k ∷ ks)))

abbrev pub faults : Option Kind → Bool
faults None = true
faults (Some k) = false

abbrev pub gives : Kind → Option Kind → Bool
gives k None = false
gives k (Some l) = eq_kind l k

-- "A node is refused exactly if some choice of kinds from its parts' sets would fault", else it has "the kinds its choices give".
unfoldable pub node_kinds : Operation → List Kinds → Option Kinds
unfolding set_of
node_kinds o ss =
    cond (some_choice ss (λ ks. faults (rule_of o ks))) None (Some (set_of (λ k. some_choice ss (λ ks. gives k (rule_of o ks)))))

-- ---- parts as the code holds them

-- the sets that are held
abbrev pub held : Parts → List Kinds
held p = take p.count p.sets

-- some set of a list is empty
abbrev pub some_empty : List Kinds → Bool
some_empty [] = false
some_empty (s ∷ ss) = empty_of s || some_empty ss

-- a set, or an empty one
abbrev pub unless_empty : Bool → Kinds → Kinds
unless_empty b s = cond b (set_of (λ k. false)) s

-- any list of sets, five at most: the fifth is empty if one behind it is; a node has the same set from them (`any-count`)
abbrev pub parts_of : List Kinds → List Kinds
parts_of [] = []
parts_of (a ∷ []) = a ∷ []
parts_of (a ∷ b ∷ []) = a ∷ b ∷ []
parts_of (a ∷ b ∷ c ∷ []) = a ∷ b ∷ c ∷ []
parts_of (a ∷ b ∷ c ∷ d ∷ []) = a ∷ b ∷ c ∷ d ∷ []
parts_of (a ∷ b ∷ c ∷ d ∷ e ∷ ss) = a ∷ b ∷ c ∷ d ∷ unless_empty (some_empty ss) e ∷ []

-- the parts with one more after them
abbrev pub with_of : List Kinds → Kinds → List Kinds
with_of [] s = s ∷ []
with_of (a ∷ []) s = a ∷ s ∷ []
with_of (a ∷ b ∷ []) s = a ∷ b ∷ s ∷ []
with_of (a ∷ b ∷ c ∷ []) s = a ∷ b ∷ c ∷ s ∷ []
with_of (a ∷ b ∷ c ∷ d ∷ []) s = a ∷ b ∷ c ∷ d ∷ s ∷ []
with_of (a ∷ b ∷ c ∷ d ∷ e ∷ ss) s = a ∷ b ∷ c ∷ d ∷ unless_empty (empty_of s) e ∷ ss

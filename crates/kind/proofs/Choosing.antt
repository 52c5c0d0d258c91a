-- `node_kinds` in words: a node is refused exactly if some choice of kinds from its parts' sets faults, and else its set has exactly the kinds that its choices
-- give.
use Rattle.std.specs.Prelude.{Option, Some, None}
use mathlib.Core.Path.{◌≡◌, sym, ◌∙◌, ap, subst}
use mathlib.Core.Bool.{Bool, true, false, cond}
use mathlib.Core.List.{List, [], ◌∷◌}
use lib.Dec.{T, eqb_refl}
use lib.Ieee.Bits.{is_true}
use Rattle.kind.specs.Kind.{number_of}
use Rattle.kind.specs.Rule.{rule_of}
use Rattle.kind.specs.Set.{has, set_of}
use Rattle.kind.specs.Choice.{some_choice, faults, gives, node_kinds}
use Rattle.kind.specs.declared.kind.Kind.{Kind}
use Rattle.kind.specs.declared.operation.Operation.{Operation}
use Rattle.kind.specs.declared.set.Kinds.{Kinds}
use Rattle.kind.proofs.Law.Choices.{fault-is, gives-is, some-elim, some-intro, has-set}

-- ---- some choice

-- as many kinds as sets, each in its set
abbrev pub Among : List Kinds → List Kind → Type 0
Among [] [] = Unit {0}
Among [] (k ∷ ks) = ⊥
Among (s ∷ ss) [] = ⊥
Among (s ∷ ss) (k ∷ ks) = T (has s k) × Among ss ks

pub choice : (ss : List Kinds) (p : List Kind → Bool) → T (some_choice ss p) → (ks : List Kind) × Among ss ks × T (p ks)
choice [] p h = ([], tt, h)
choice (s ∷ ss) p h =
    let e = some-elim s (λ k. some_choice ss (λ ks. p (k ∷ ks))) h in
    let f = choice ss (λ ks. p (e.0 ∷ ks)) e.2 in
    (e.0 ∷ f.0, (e.1, f.1), f.2)

pub chosen : (ss : List Kinds) (p : List Kind → Bool) (ks : List Kind) → Among ss ks → T (p ks) → T (some_choice ss p)
chosen [] p [] m h = h
chosen [] p (k ∷ ks) m h = absurd m
chosen (s ∷ ss) p [] m h = absurd m
chosen (s ∷ ss) p (k ∷ ks) m h =
    some-intro s (λ j. some_choice ss (λ js. p (j ∷ js))) k m.0 (chosen ss (λ js. p (k ∷ js)) ks m.1 h)

-- ---- a node's set

abbrev refuse : Option Kinds → Bool
refuse None = true
refuse (Some s) = false

abbrev set_in : Option Kinds → Kinds
set_in None = set_of (λ k. false)
set_in (Some s) = s

abbrev some_fault : Operation → List Kinds → Bool
some_fault o ss = some_choice ss (λ ks. faults (rule_of o ks))

abbrev some_gives : Operation → List Kinds → Kind → Bool
some_gives o ss k = some_choice ss (λ ks. gives k (rule_of o ks))

-- a refused node has a choice that faults
pub refused : (o : Operation) (ss : List Kinds) → node_kinds o ss ≡ None → (ks : List Kind) × Among ss ks × (rule_of o ks ≡ None)
unfolding node_kinds
refused o ss e =
    let c = choice ss (λ ks. faults (rule_of o ks)) (go (some_fault o ss) (set_of (some_gives o ss)) e) in
    (c.0, c.1, fault-is (rule_of o c.0) c.2)
  where
    go : (b : Bool) (s : Kinds) → cond b None (Some s) ≡ None → T b
    go true s e = tt
    go false s e = subst (λ (c : Option Kinds). T (refuse c)) (sym e) tt

-- and a node with such a choice is refused
pub refuses : (o : Operation) (ss : List Kinds) (ks : List Kind) → Among ss ks → rule_of o ks ≡ None → node_kinds o ss ≡ None
unfolding node_kinds
refuses o ss ks m e =
    rw (is_true (some_fault o ss) (chosen ss (λ ks. faults (rule_of o ks)) ks m (subst (λ (r : Option Kind). T (faults r)) (sym e) tt)))

kind-in : (o : Operation) (ss : List Kinds) (s : Kinds) → node_kinds o ss ≡ Some s → (k : Kind) → has s k ≡ some_gives o ss k
unfolding node_kinds
kind-in o ss s e k = ap (λ (t : Kinds). has t k) (sym (go (some_fault o ss) (set_of (some_gives o ss)) e)) ∙ has-set (some_gives o ss) k
  where
    go : (b : Bool) (t : Kinds) → cond b None (Some t) ≡ Some s → t ≡ s
    go true t e = absurd (subst (λ (c : Option Kinds). T (refuse c)) e tt)
    go false t e = ap set_in e

-- an accepted node's set has the kinds that its choices give, and no other
pub accepted : (o : Operation) (ss : List Kinds) (s : Kinds) → node_kinds o ss ≡ Some s → (k : Kind) →
    (T (has s k) → (ks : List Kind) × Among ss ks × (rule_of o ks ≡ Some k)) × ((ks : List Kind) → Among ss ks → rule_of o ks ≡ Some k → T (has s k))
accepted o ss s e k =
    let i = kind-in o ss s e k in (
      (λ h. let c = choice ss (λ ks. gives k (rule_of o ks)) (subst T i h) in (c.0, c.1, gives-is k (rule_of o c.0) c.2)),
      (λ ks m f. subst T (sym i) (chosen ss (λ ks. gives k (rule_of o ks)) ks m (subst (λ (r : Option Kind). T (gives k r)) (sym f) (eqb_refl (number_of k))))),
    )

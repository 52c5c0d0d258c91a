-- A node with any count of parts has the set that the code's `Parts` give it, and these are made by adding one part after another.
use Rattle.std.specs.Prelude.{Some, None}
use mathlib.Core.Path.{◌≡◌, refl, sym, ◌∙◌, ap, subst}
use mathlib.Core.Bool.{Bool, true, false, ◌||◌, or-true, or-false, or_assoc}
use mathlib.Core.List.{List, [], ◌∷◌, ◌++◌}
use Prim.Native.Nat.{◌<◌}
use native.Mathlib.Omega.{arith}
use lib.Dec.{T, T_not}
use lib.ListN.{length}
use Rattle.std.specs.Bool.{then_some}
use Rattle.std.specs.List.{list_any}
use Rattle.kind.specs.Rule.{rule_of}
use Rattle.kind.specs.Kind.{kinds}
use Rattle.kind.specs.Set.{has, set_of, some_of, empty_of}
use Rattle.kind.specs.Choice.{some_choice, faults, gives, node_kinds, some_empty, unless_empty, parts_of, with_of}
use Rattle.kind.specs.declared.kind.Kind.{Kind}
use Rattle.kind.specs.declared.operation.Operation.{Operation}
use Rattle.kind.specs.declared.set.Kinds.{Kinds}
use Rattle.kind.proofs.Law.Choices.{or_l, or_r, or_elim, is_false, unless_not, any-elim, any-intro}
use Rattle.kind.proofs.Law.Signatures.{over-four}
use Rattle.kind.proofs.Choosing.{Among, choice, refuses}

-- ---- some set is empty: there is no choice

none-among : (ss : List Kinds) (ks : List Kind) → T (some_empty ss) → Among ss ks → ⊥
unfolding empty_of
none-among [] ks h m = h
none-among (s ∷ ss) [] h m = m
none-among (s ∷ ss) (k ∷ ks) h m =
    or_elim (empty_of s) (some_empty ss) h (λ e. T_not (some_of kinds (has s)) e (any-intro (has s) k m.0)) (λ e. none-among ss ks e m.1)

pub no-choice : (ss : List Kinds) (p : List Kind → Bool) → T (some_empty ss) → some_choice ss p ≡ false
no-choice ss p h = is_false (some_choice ss p) (λ t. let c = choice ss p t in none-among ss c.0 h c.1)

of_none : (o : Operation) (ss : List Kinds) → T (some_empty ss) → node_kinds o ss ≡ Some (set_of (λ k. false))
unfolding node_kinds
of_none o ss h =
    rw (no-choice ss (λ ks. faults (rule_of o ks)) h) (ap (λ p. Some (set_of p)) (λ i. λ k. no-choice ss (λ ks. gives k (rule_of o ks)) h i))

-- ---- none is empty: there is one, and of more than four it faults

one-among : (ss : List Kinds) → (T (some_empty ss) → ⊥) → (ks : List Kind) × Among ss ks
unfolding empty_of
one-among [] n = ([], tt)
one-among (s ∷ ss) n =
    let e = any-elim (has s) (unless_not (some_of kinds (has s)) (λ h. n (or_l (empty_of s) (some_empty ss) h))) in
    let f = one-among ss (λ h. n (or_r (empty_of s) (some_empty ss) h)) in
    (e.0 ∷ f.0, (e.1, f.1))

of-more : (o : Operation) (a b c d e : Kinds) (ss : List Kinds) → (T (some_empty (a ∷ b ∷ c ∷ d ∷ e ∷ ss)) → ⊥) → node_kinds o (a ∷ b ∷ c ∷ d ∷ e ∷ ss) ≡ None
of-more o a b c d e ss n = let m = one-among (a ∷ b ∷ c ∷ d ∷ e ∷ ss) n in go m.0 m.1
  where
    go : (ks : List Kind) → Among (a ∷ b ∷ c ∷ d ∷ e ∷ ss) ks → node_kinds o (a ∷ b ∷ c ∷ d ∷ e ∷ ss) ≡ None
    go [] m = absurd m
    go (k ∷ []) m = absurd m.1
    go (k ∷ l ∷ []) m = absurd m.1.1
    go (k ∷ l ∷ j ∷ []) m = absurd m.1.1.1
    go (k ∷ l ∷ j ∷ i ∷ []) m = absurd m.1.1.1.1
    go (k ∷ l ∷ j ∷ i ∷ h ∷ ks) m = refuses o (a ∷ b ∷ c ∷ d ∷ e ∷ ss) (k ∷ l ∷ j ∷ i ∷ h ∷ ks) m (over-four o k l j i h ks)

all-fault : (o : Operation) (a b c d e : Kinds) (ss : List Kinds) (t : Bool) → t ≡ some_empty (a ∷ b ∷ c ∷ d ∷ e ∷ ss) →
    then_some t (set_of (λ k. false)) ≡ node_kinds o (a ∷ b ∷ c ∷ d ∷ e ∷ ss)
all-fault o a b c d e ss true q = sym (of_none o (a ∷ b ∷ c ∷ d ∷ e ∷ ss) (subst T q tt))
all-fault o a b c d e ss false q = sym (of-more o a b c d e ss (λ h. subst T (sym q) h))

-- so of more than four it is known once it is known whether one is empty
pub over-four-parts : (o : Operation) (ss : List Kinds) → 4 < length ss → (t : Bool) → t ≡ list_any empty_of ss → then_some t (set_of (λ k. false)) ≡ node_kinds o ss
over-four-parts o [] h t q = absurd (omega arith)
over-four-parts o (a ∷ []) h t q = absurd (omega arith)
over-four-parts o (a ∷ b ∷ []) h t q = absurd (omega arith)
over-four-parts o (a ∷ b ∷ c ∷ []) h t q = absurd (omega arith)
over-four-parts o (a ∷ b ∷ c ∷ d ∷ []) h t q = absurd (omega arith)
over-four-parts o (a ∷ b ∷ c ∷ d ∷ e ∷ ss) h t q = all-fault o a b c d e ss t (q ∙ list_empty (a ∷ b ∷ c ∷ d ∷ e ∷ ss))
  where
    list_empty : (ss : List Kinds) → list_any empty_of ss ≡ some_empty ss
    list_empty [] = refl
    list_empty (s ∷ ss) = ap (λ t. empty_of s || t) (list_empty ss)

-- ---- the theorems

-- the fifth stands for those behind it
last-empty : (e : Kinds) (ss : List Kinds) → some_empty (unless_empty (some_empty ss) e ∷ []) ≡ some_empty (e ∷ ss)
unfolding empty_of set_of
last-empty e ss = go (some_empty ss)
  where
    go : (b : Bool) → (empty_of (unless_empty b e) || false) ≡ (empty_of e || b)
    go true = sym (or-true (empty_of e))
    go false = refl

held-empty : (a b c d e : Kinds) (ss : List Kinds) →
    some_empty (a ∷ b ∷ c ∷ d ∷ unless_empty (some_empty ss) e ∷ []) ≡ some_empty (a ∷ b ∷ c ∷ d ∷ e ∷ ss)
held-empty a b c d e ss = ap (λ t. empty_of a || (empty_of b || (empty_of c || (empty_of d || t)))) (last-empty e ss)

same_node : (o : Operation) (a b c d e : Kinds) (ss : List Kinds) (t : Bool) → some_empty (a ∷ b ∷ c ∷ d ∷ e ∷ ss) ≡ t →
    node_kinds o (a ∷ b ∷ c ∷ d ∷ e ∷ ss) ≡ node_kinds o (a ∷ b ∷ c ∷ d ∷ unless_empty (some_empty ss) e ∷ [])
same_node o a b c d e ss true q =
    of_none o (a ∷ b ∷ c ∷ d ∷ e ∷ ss) (subst T (sym q) tt)
    ∙ sym (of_none o (a ∷ b ∷ c ∷ d ∷ unless_empty (some_empty ss) e ∷ []) (subst T (sym (held-empty a b c d e ss ∙ q)) tt))
same_node o a b c d e ss false q =
    of-more o a b c d e ss (λ h. subst T q h)
    ∙ sym (of-more o a b c d (unless_empty (some_empty ss) e) [] (λ h. subst T (held-empty a b c d e ss ∙ q) h))

pub any-count : (o : Operation) (ss : List Kinds) → node_kinds o ss ≡ node_kinds o (parts_of ss)
any-count o [] = refl
any-count o (a ∷ []) = refl
any-count o (a ∷ b ∷ []) = refl
any-count o (a ∷ b ∷ c ∷ []) = refl
any-count o (a ∷ b ∷ c ∷ d ∷ []) = refl
any-count o (a ∷ b ∷ c ∷ d ∷ e ∷ ss) = same_node o a b c d e ss (some_empty (a ∷ b ∷ c ∷ d ∷ e ∷ ss)) refl

empty-after : (ss : List Kinds) (s : Kinds) → some_empty (ss ++ s ∷ []) ≡ (some_empty ss || empty_of s)
empty-after [] s = or-false (empty_of s)
empty-after (t ∷ ss) s = ap (λ b. empty_of t || b) (empty-after ss s) ∙ sym (or_assoc (empty_of t) (some_empty ss) (empty_of s))

last-after : (e : Kinds) (ss : List Kinds) (s : Kinds) → unless_empty (some_empty (ss ++ s ∷ [])) e ≡ unless_empty (empty_of s) (unless_empty (some_empty ss) e)
last-after e ss s = ap (λ b. unless_empty b e) (empty-after ss s) ∙ go (some_empty ss) (empty_of s)
  where
    go : (a b : Bool) → unless_empty (a || b) e ≡ unless_empty b (unless_empty a e)
    go true true = refl
    go true false = refl
    go false b = refl

pub with-parts : (ss : List Kinds) (s : Kinds) → parts_of (ss ++ s ∷ []) ≡ with_of (parts_of ss) s
with-parts [] s = refl
with-parts (a ∷ []) s = refl
with-parts (a ∷ b ∷ []) s = refl
with-parts (a ∷ b ∷ c ∷ []) s = refl
with-parts (a ∷ b ∷ c ∷ d ∷ []) s = refl
with-parts (a ∷ b ∷ c ∷ d ∷ e ∷ ss) s = ap (λ x. a ∷ b ∷ c ∷ d ∷ x ∷ []) (last-after e ss s)

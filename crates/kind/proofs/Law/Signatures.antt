-- What is found of all signatures of an operation holds of its rule: what it does not take, and what it gives.
use Rattle.std.specs.Prelude.{Option, Some, None}
use mathlib.Core.Path.{◌≡◌, refl, sym, ap₂, subst}
use mathlib.Core.Bool.{Bool, true, false, ◌&&◌, ◌||◌}
use mathlib.Core.List.{List, [], ◌∷◌}
use Prim.Native.Nat.{ℕ}
use lib.Dec.{T, eqb, leb}
use lib.Ieee.Fits.{and_l, and_r}
use lib.ListN.{length}
use Rattle.kind.specs.Kind.{eq_kind}
use Rattle.kind.specs.Rule.{Signature, ◌⇒◌, signatures, same_kinds, ruled_by, rule_of}
use Rattle.kind.specs.declared.kind.Kind.{Kind}
use Rattle.kind.specs.declared.operation.Operation.{Operation}
use Rattle.kind.specs.declared.operation.Operation.TheVariants as op
use Rattle.kind.proofs.Law.Choices.{kind-is}
use Rattle.kind.proofs.Law.Operations.{operations, every_operation, every-operation}

-- ---- what no signature takes

-- the operands of every signature are as asked
abbrev pub each : (List Kind → Bool) → List Signature → Bool
each q [] = true
each q ((ls ⇒ r) ∷ ss) = q ls && each q ss

same-kinds : (ls ks : List Kind) → T (same_kinds ls ks) → ls ≡ ks
same-kinds [] [] h = refl
same-kinds [] (k ∷ ks) h = absurd h
same-kinds (l ∷ ls) [] h = absurd h
same-kinds (l ∷ ls) (k ∷ ks) h =
    ap₂ ◌∷◌ (kind-is l k (and_r (same_kinds ls ks) (eq_kind l k) h)) (same-kinds ls ks (and_l (same_kinds ls ks) (eq_kind l k) h))

pub none-takes : (q : List Kind → Bool) (ss : List Signature) (ks : List Kind) → T (each q ss) → (T (q ks) → ⊥) → ruled_by ss ks ≡ None
none-takes q [] ks h n = refl
none-takes q ((ls ⇒ r) ∷ ss) ks h n =
    go (same_kinds ls ks) (λ e. n (subst (λ js. T (q js)) (same-kinds ls ks e) (and_l (q ls) (each q ss) h))) (none-takes q ss ks (and_r (q ls) (each q ss) h) n)
  where
    go : (b : Bool) → (T b → ⊥) → ruled_by ss ks ≡ None → ◌≡◌ {A = Option Kind} (elim b [ true ↦ Some r | false ↦ ruled_by ss ks ]) None
    go true m e = absurd (m tt)
    go false m e = e

-- four operands, or fewer
abbrev few : List Kind → Bool
few [] = true
few (a ∷ []) = true
few (a ∷ b ∷ []) = true
few (a ∷ b ∷ c ∷ []) = true
few (a ∷ b ∷ c ∷ d ∷ []) = true
few (a ∷ b ∷ c ∷ d ∷ e ∷ ks) = false

-- no operation takes more than four operands
pub over-four : (o : Operation) (a b c d e : Kind) (ks : List Kind) → rule_of o (a ∷ b ∷ c ∷ d ∷ e ∷ ks) ≡ None
unfolding rule_of
over-four o a b c d e ks = none-takes few (signatures o) (a ∷ b ∷ c ∷ d ∷ e ∷ ks) (every-operation (λ o. each few (signatures o)) tt o) (λ n. n)

-- ---- a count of operands that an operation does not take

-- how many operands an operation may take
abbrev pub takes : Operation → ℕ → Bool
takes (op.Unary f) n = eqb n 1
takes (op.Binary f) n = eqb n 2
takes (op.Ternary f) n = eqb n 3
takes (op.Logic f) n = eqb n 1 || eqb n 2
takes (op.Order f) n = eqb n 2
takes (op.Equality f) n = eqb n 2
takes (op.Test f) n = eqb n 1
takes (op.Constructor f) n = leb n 4
takes (op.Product f) n = eqb n 2
takes (op.Pick m) n = eqb n 1

abbrev counted : Operation → List Kind → Bool
counted o ks = takes o (length ks)

pub untaken : (o v : Operation) (ks : List Kind) → o ≡ v → takes v (length ks) ≡ false → None ≡ rule_of o ks
unfolding rule_of
untaken o v ks e n =
    sym
    (none-takes (counted o) (signatures o) ks (every-operation (λ o. each (counted o) (signatures o)) tt o)
    (λ t. subst T n (subst (λ (u : Operation). T (takes u (length ks))) e t)))

-- ---- what an operation gives

-- the results of every signature are as asked
abbrev pub results : (Kind → Bool) → List Signature → Bool
results q [] = true
results q ((ls ⇒ r) ∷ ss) = q r && results q ss

gives-such : (q : Kind → Bool) (ss : List Signature) (ks : List Kind) (k : Kind) → T (results q ss) → ruled_by ss ks ≡ Some k → T (q k)
gives-such q [] ks k h e = absurd (subst (λ (r : Option Kind). T (faulty r)) e tt)
  where
    faulty : Option Kind → Bool
    faulty None = true
    faulty (Some k) = false
gives-such q ((ls ⇒ r) ∷ ss) ks k h e = go (gives-such q ss ks k (and_r (q r) (results q ss) h)) (same_kinds ls ks) e
  where
    given : Option Kind → Kind
    given None = k
    given (Some l) = l

    go : (ruled_by ss ks ≡ Some k → T (q k)) → (b : Bool) → elim b [ true ↦ Some r | false ↦ ruled_by ss ks ] ≡ Some k → T (q k)
    go later true f = subst (λ (u : Option Kind). T (q (given u))) f (and_l (q r) (results q ss) h)
    go later false f = later f

-- what a test finds of each result of each operation's signatures holds of what an operation gives
pub every-result : (q : Operation → Kind → Bool) → T (every_operation operations (λ o. results (q o) (signatures o))) →
    (o : Operation) (ks : List Kind) (k : Kind) → rule_of o ks ≡ Some k → T (q o k)
unfolding rule_of
every-result q t o ks k e = gives-such (q o) (signatures o) ks k (every-operation (λ o. results (q o) (signatures o)) t o) e

-- Where an operand is Undefined or Null, an operation faults, or it gives the same for all operands of that count.
use Rattle.std.specs.Prelude.{Some, None}
use mathlib.Core.Path.{◌≡◌, sym, ◌∙◌}
use mathlib.Core.Bool.{Bool, true, false, not, ◌&&◌, ◌||◌}
use mathlib.Core.List.{List, [], ◌∷◌}
use mathlib.Core.Logic.{◌⊎◌, inl, inr}
use native.Mathlib.Omega.{arith}
use lib.Dec.{T, T_not}
use lib.Ieee.Bits.{is_true}
use lib.ListN.{length}
use lib.Ieee.Fits.{and_l, and_r}
use Rattle.kind.specs.Kind.{kinds, eq_kind}
use Rattle.kind.specs.Rule.{Signature, signatures, ruled_by, rule_of}
use Rattle.kind.specs.Set.{some_of, every_of}
use Rattle.kind.specs.declared.kind.Kind.{Kind}
use Rattle.kind.specs.declared.kind.Kind.TheVariants.{Undefined, Null, Boolean}
use Rattle.kind.specs.declared.operation.Operation.{Operation}
use Rattle.kind.proofs.Law.Tests.{eq_ruled, by-test2}
use Rattle.kind.proofs.Law.Choices.{or_elim}
use Rattle.kind.proofs.Law.Operations.{every-operation}
use Rattle.kind.proofs.Law.Signatures.{each, none-takes}

-- some kind is Undefined or Null
abbrev pub lacks : List Kind → Bool
lacks ks = some_of ks (λ k. eq_kind k Undefined || eq_kind k Null)

abbrev whole : List Kind → Bool
whole ks = not (lacks ks)

-- ---- signatures that take any two kinds

abbrev two : List Kind → Bool
two [] = false
two (k ∷ []) = false
two (k ∷ l ∷ []) = true
two (k ∷ l ∷ m ∷ ks) = false

abbrev pairs : List Signature → Bool
pairs ss = every_of kinds (λ k. every_of kinds (λ l. eq_ruled (ruled_by ss (k ∷ l ∷ [])) (Some Boolean)))

pair : (ss : List Signature) → T (pairs ss) → (k l : Kind) → ruled_by ss (k ∷ l ∷ []) ≡ Some Boolean
pair ss h = by-test2 (λ k l. ruled_by ss (k ∷ l ∷ [])) (λ k l. Some Boolean) (is_true (pairs ss) h)

any-two : (ss : List Signature) (ks ls : List Kind) → length ks ≡ length ls → T (each two ss) → T (pairs ss) →
    (ruled_by ss ls ≡ None) ⊎ (ruled_by ss ks ≡ ruled_by ss ls)
any-two ss ks [] e t h = inl (none-takes two ss [] t (λ n. n))
any-two ss ks (l ∷ []) e t h = inl (none-takes two ss (l ∷ []) t (λ n. n))
any-two ss [] (l ∷ m ∷ []) e t h = absurd (omega (arith, e))
any-two ss (k ∷ []) (l ∷ m ∷ []) e t h = absurd (omega (arith, e))
any-two ss (k ∷ j ∷ []) (l ∷ m ∷ []) e t h = inr (pair ss h k j ∙ sym (pair ss h l m))
any-two ss (k ∷ j ∷ i ∷ ks) (l ∷ m ∷ []) e t h = absurd (omega (arith, e))
any-two ss ks (l ∷ m ∷ n ∷ ls) e t h = inl (none-takes two ss (l ∷ m ∷ n ∷ ls) t (λ n. n))

-- ---- the theorem

pub lacking : (o : Operation) (ks ls : List Kind) → length ks ≡ length ls → T (lacks ls) → (rule_of o ls ≡ None) ⊎ (rule_of o ks ≡ rule_of o ls)
unfolding rule_of
lacking o ks ls e h =
    let ss = signatures o in
    or_elim (each whole ss) (each two ss && pairs ss) (every-operation (λ o. each whole (signatures o) || (each two (signatures o) && pairs (signatures o))) tt o)
    (λ w. inl (none-takes whole ss ls w (λ n. T_not (lacks ls) n h)))
    (λ t. any-two ss ks ls e (and_l (each two ss) (pairs ss) t) (and_r (each two ss) (pairs ss) t))

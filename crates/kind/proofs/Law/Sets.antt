-- Laws of what a set of kinds has.
use mathlib.Core.Path.{◌≡◌, sym, subst}
use mathlib.Core.Bool.{Bool, true, false, not, ◌||◌}
use mathlib.Core.List.{List, [], ◌∷◌}
use lib.Dec.{T, T_not, eqb_refl}
use lib.Ieee.Bits.{is_true}
use lib.Ieee.Fits.{and_i}
use Rattle.kind.specs.Kind.{kinds, number_of, eq_kind}
use Rattle.kind.specs.Set.{has, every_of, single_of, union_of, within_of}
use Rattle.kind.specs.declared.kind.Kind.{Kind}
use Rattle.kind.specs.declared.set.Kinds.{Kinds}
use Rattle.kind.proofs.Law.Tests.{every-kind}
use Rattle.kind.proofs.Law.Choices.{or_l, or_r, or_elim, kind-is, has-set}

pub has-single : (k l : Kind) → has (single_of k) l ≡ eq_kind k l
unfolding single_of
has-single k l = has-set (eq_kind k) l

pub has-union : (s t : Kinds) (k : Kind) → has (union_of s t) k ≡ (has s k || has t k)
unfolding union_of
has-union s t k = has-set (λ k. has s k || has t k) k

-- the set of one kind has that kind and no other
pub in-single : (k : Kind) → T (has (single_of k) k)
in-single k = subst T (sym (has-single k k)) (eqb_refl (number_of k))

pub single-is : (k l : Kind) → T (has (single_of k) l) → k ≡ l
single-is k l h = kind-is k l (subst T (has-single k l) h)

-- a union has what either set has
pub in_left : (s t : Kinds) (k : Kind) → T (has s k) → T (has (union_of s t) k)
in_left s t k h = subst T (sym (has-union s t k)) (or_l (has s k) (has t k) h)

pub in_right : (s t : Kinds) (k : Kind) → T (has t k) → T (has (union_of s t) k)
in_right s t k h = subst T (sym (has-union s t k)) (or_r (has s k) (has t k) h)

-- a set is within another exactly if that one has all its kinds
pub within : (s t : Kinds) (k : Kind) → T (within_of s t) → T (has s k) → T (has t k)
unfolding within_of
within s t k w h =
    or_elim (not (has s k)) (has t k) (subst T (sym (every-kind (λ k. not (has s k) || has t k) (is_true (within_of s t) w) k)) tt)
    (λ n. absurd (T_not (has s k) n h)) (λ x. x)

every_of_lem : (ls : List Kind) (p : Kind → Bool) → ((k : Kind) → T (p k)) → T (every_of ls p)
every_of_lem [] p h = tt
every_of_lem (l ∷ ls) p h = and_i (p l) (every_of ls p) (h l) (every_of_lem ls p h)

pub is_within : (s t : Kinds) → ((k : Kind) → T (has s k) → T (has t k)) → T (within_of s t)
unfolding within_of
is_within s t h = every_of_lem kinds (λ k. not (has s k) || has t k) (λ k. go (has s k) (has t k) (h k))
  where
    go : (a b : Bool) → (T a → T b) → T (not a || b)
    go true b f = f tt
    go false b f = tt

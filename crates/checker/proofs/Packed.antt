-- A set that is packed into a number comes out of it again: one computed test over all sets.
use mathlib.Core.Path.{◌≡◌, refl}
use mathlib.Core.Bool.{Bool, true, false, ◌&&◌, beq, false≢true}
use mathlib.Core.List.{List, [], ◌∷◌, map}
use Prim.Native.Nat.{ℕ, zero, suc, ◌<◌}
use lib.Dec.{T}
use lib.Ieee.Bits.{is_true}
use lib.Ieee.Fits.{and_l, and_r}
use lib.ListN.{length, get_or}
use lib.ListN as list
use lib.Seq.{get_or-set_same}
use borrow.Author.Tests.{lt-ltb}
use Rattle.kind.specs.Kind.{kinds, number_of}
use Rattle.kind.specs.Set.{has, set_of, every_of}
use Rattle.kind.specs.declared.kind.Kind.{Kind}
use Rattle.kind.specs.declared.set.Kinds.{Kinds}
use Rattle.kind.proofs.Law.Tests.{every-kind}
use Rattle.plan.specs.Layout.{undeclared, set_place}
use Rattle.checker.specs.Property.{unpacked_of, packed_of, set_at}

-- ---- tests over all sets

abbrev both : (Bool → Bool) → Bool
both p = p true && p false

either : (p : Bool → Bool) → T (both p) → (b : Bool) → T (p b)
either p h true = and_l (p true) (p false) h
either p h false = and_r (p true) (p false) h

-- every list of n truth values
abbrev every : ℕ → (List Bool → Bool) → Bool
every zero p = p []
every (suc n) p = both (λ b. every n (λ bs. p (b ∷ bs)))

each : (p : List Bool → Bool) (bs : List Bool) → T (every (length bs) p) → T (p bs)
each p [] t = t
each p (b ∷ bs) t = each (λ cs. p (b ∷ cs)) bs (either (λ b. every (length bs) (λ cs. p (b ∷ cs))) t b)

-- a set by its eight truth values, in the order of the kinds
abbrev set : List Bool → Kinds
set bs = set_of (λ k. get_or bs (number_of k) false)

abbrev truths : Kinds → List Bool
truths s = map (has s) kinds

-- ---- the test

same_truth : (a b : Bool) → beq a b ≡ true → a ≡ b
same_truth true true h = refl
same_truth true false h = absurd (false≢true h)
same_truth false true h = absurd (false≢true h)
same_truth false false h = refl

-- each kind is in one set if it is in the other
abbrev alike : Kinds → Kinds → Bool
alike s t = every_of kinds (λ k. beq (has s k) (has t k))

alike_is : (s t : Kinds) → T (alike s t) → s ≡ t
unfolding set_of
alike_is s t h = λ i. set_of (λ k. same k i)
  where
    same : (k : Kind) → has s k ≡ has t k
    same k = same_truth (has s k) (has t k) (every-kind (λ k. beq (has s k) (has t k)) (is_true (alike s t) h) k)

-- ---- the theorem

pub unpacked-packed : (s : Kinds) → unpacked_of (packed_of s) ≡ s
unfolding unpacked_of packed_of set_of
unpacked-packed s = alike_is (unpacked_of (packed_of s)) s (each (λ bs. alike (unpacked_of (packed_of (set bs))) (set bs)) (truths s) tt)

-- so the set of a number is the one that was stored for it
pub set-stored : (plan : List ℕ) (n : ℕ) (s : Kinds) → set_place n < length plan → n < undeclared → set_at (list.set plan (set_place n) (packed_of s)) n ≡ s
unfolding set_at
set-stored plan n s room row = rw (lt-ltb n undeclared row, get_or-set_same plan (set_place n) (packed_of s) 0 room) (unpacked-packed s)

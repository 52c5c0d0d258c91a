-- Laws of what nodes come to: an operation on outcomes, a test, and a binary operator by what it needs.
use Rattle.std.specs.Prelude.{Option, Some, None}
use mathlib.Core.Path.{◌≡◌, refl, sym, ap}
use mathlib.Core.Bool.{Bool, true, false, cond, ◌&&◌, beq, true≢false}
use mathlib.Core.List.{List, [], ◌∷◌, ◌++◌, map}
use native.Mathlib.Omega.{arith}
use lib.ListN.{length}
use Prim.Native.Nat.{ℕ, ◌<◌}
use lib.Dec.{T}
use Rattle.kind.specs.Kind.{eq_kind}
use Rattle.kind.specs.declared.kind.Kind.TheVariants as kind
use Rattle.kind.specs.declared.operation.Logic.TheVariants.{Not, And, Or}
use Rattle.kind.specs.declared.operation.Operation.{Operation}
use Rattle.kind.specs.declared.operation.Operation.TheVariants as op
use Rattle.kind.proofs.Law.Signatures.{over-four}
use Rattle.value.specs.Value.{kind_of, truth}
use Rattle.value.specs.Meaning.{meaning}
use Rattle.value.specs.declared.value.Span.{Span}
use Rattle.value.specs.declared.value.Value.{Value}
use Rattle.value.specs.declared.value.Value.TheVariants.{Boolean}
use Rattle.evaluator.specs.Eval.{value_in, some_fault, applied, branch_of, boolean_of, need_of, binary_by, came_to, needs_right}
use Rattle.evaluator.specs.Demand.{needs_both}
use Rattle.evaluator.specs.declared.need.Need.{Need}
use Rattle.evaluator.specs.declared.need.Need.TheVariants.{Both, UntilTrue, UntilFalse}

-- ---- an operation on outcomes

module _ (text : Span → List ℕ) (o : Operation) where
  -- on values
  none-faults : (vs : List Value) → some_fault (map Some vs) ≡ false
  none-faults [] = refl
  none-faults (v ∷ vs) = none-faults vs

  values-back : (vs : List Value) → map value_in (map Some vs) ≡ vs
  values-back [] = refl
  values-back (v ∷ vs) = ap (λ ws. v ∷ ws) (values-back vs)

  pub applied-values : (vs : List Value) → meaning text o vs ≡ applied text (Some o) (map Some vs)
  applied-values vs = rw (none-faults vs, values-back vs)

  -- with a fault behind some values
  some-faults : (vs : List Value) (os : List (Option Value)) → some_fault (map Some vs ++ None ∷ os) ≡ true
  some-faults [] os = refl
  some-faults (v ∷ vs) os = some-faults vs os

  pub applied-fault : (vs : List Value) (os : List (Option Value)) → None ≡ applied text (Some o) (map Some vs ++ None ∷ os)
  applied-fault vs os = rw (some-faults vs os)

  -- no operation takes more than four
  more-means : (a b c d e : Value) (vs : List Value) → meaning text o (a ∷ b ∷ c ∷ d ∷ e ∷ vs) ≡ None
  unfolding meaning
  more-means a b c d e vs = rw (over-four o (kind_of a) (kind_of b) (kind_of c) (kind_of d) (kind_of e) (map kind_of vs))

  pub applied-over : (vs : List Value) (v : Value) (os : List (Option Value)) → length vs ≡ 4 → None ≡ applied text (Some o) (map Some vs ++ Some v ∷ os)
  applied-over (a ∷ b ∷ c ∷ d ∷ []) v os h = go (some_fault os) _ (more-means a b c d v (map value_in os))
    where
      go : (f : Bool) (x : Option Value) → x ≡ None → None ≡ cond f None x
      go true x h = refl
      go false x h = sym h
  applied-over [] v os h = absurd (omega (arith, h))
  applied-over (a ∷ []) v os h = absurd (omega (arith, h))
  applied-over (a ∷ b ∷ []) v os h = absurd (omega (arith, h))
  applied-over (a ∷ b ∷ c ∷ []) v os h = absurd (omega (arith, h))
  applied-over (a ∷ b ∷ c ∷ d ∷ e ∷ vs) v os h = absurd (omega (arith, h))

-- whatever five arguments or more come to, it is a fault
module _ (text : Span → List ℕ) where
  pub applied-more : (found : Option Operation) (a b c d e : Option Value) (os : List (Option Value)) → applied text found (a ∷ b ∷ c ∷ d ∷ e ∷ os) ≡ None
  applied-more None a b c d e os = refl
  applied-more (Some o) a b c d e os =
      go (some_fault (a ∷ b ∷ c ∷ d ∷ e ∷ os)) _ (more-means text o (value_in a) (value_in b) (value_in c) (value_in d) (value_in e) (map value_in os))
    where
      go : (f : Bool) (x : Option Value) → x ≡ None → ◌≡◌ {A = Option Value} (cond f None x) None
      go true x h = refl
      go false x h = h

  pub applied-longer : (found : Option Operation) (os : List (Option Value)) → 4 < length os → applied text found os ≡ None
  applied-longer found (a ∷ b ∷ c ∷ d ∷ e ∷ os) h = applied-more found a b c d e os
  applied-longer found [] h = absurd (omega (arith, h))
  applied-longer found (a ∷ []) h = absurd (omega (arith, h))
  applied-longer found (a ∷ b ∷ []) h = absurd (omega (arith, h))
  applied-longer found (a ∷ b ∷ c ∷ []) h = absurd (omega (arith, h))
  applied-longer found (a ∷ b ∷ c ∷ d ∷ []) h = absurd (omega (arith, h))

-- one more value
pub one-more : (vs : List Value) (v : Value) (os : List (Option Value)) → map Some vs ++ Some v ∷ os ≡ map Some (vs ++ v ∷ []) ++ os
one-more [] v os = refl
one-more (w ∷ vs) v os = ap (λ ps. Some w ∷ ps) (one-more vs v os)

-- and a last one
last-one : (vs : List Value) (v : Value) → map Some vs ++ Some v ∷ [] ≡ map Some (vs ++ v ∷ [])
last-one [] v = refl
last-one (w ∷ vs) v = ap (λ ps. Some w ∷ ps) (last-one vs v)

-- of a call whose first arguments have come to values
module _ (text : Span → List ℕ) {found : Option Operation} {o : Operation} (f : found ≡ Some o) {all rest : List (Option Value)} (vs : List Value)
    (e : all ≡ map Some vs ++ rest) where
  pub call-fault : (os : List (Option Value)) → rest ≡ None ∷ os → None ≡ applied text found all
  call-fault os h = rw (f, e, h) (applied-fault text o vs os)

  pub call-over : (v : Value) (os : List (Option Value)) → rest ≡ Some v ∷ os → length vs ≡ 4 → None ≡ applied text found all
  call-over v os h n = rw (f, e, h) (applied-over text o vs v os n)

  pub call-values : (v : Value) → rest ≡ Some v ∷ [] → meaning text o (vs ++ v ∷ []) ≡ applied text found all
  call-values v h = rw (f, e, h, last-one vs v) (applied-values text o (vs ++ v ∷ []))

-- ---- a binary operator

-- what came to a Boolean takes its branch
came : (b : Bool) (o x y : Option Value) → came_to b o ≡ true → branch_of o x y ≡ cond b x y
came b None x y h = absurd (true≢false (sym h))
came b (Some v) x y h = go b (eq_kind kind.Boolean (kind_of v)) (truth v) h
  where
    go : (b k t : Bool) → k && beq b t ≡ true → ◌≡◌ {A = Option Value} (cond k (cond t x y) None) (cond b x y)
    go true true true h = refl
    go true true false h = absurd (true≢false (sym h))
    go false true true h = absurd (true≢false (sym h))
    go false true false h = refl
    go b false t h = absurd (true≢false (sym h))

-- and what did not come to it leaves that branch alone
not-came : (b : Bool) (o a x y : Option Value) → came_to b o ≡ false → branch_of o (cond b x a) (cond b a x) ≡ branch_of o (cond b y a) (cond b a y)
not-came b None a x y h = refl
not-came b (Some v) a x y h = go b (eq_kind kind.Boolean (kind_of v)) (truth v) h
  where
    branch : Bool → Bool → Bool → Option Value → Option Value
    branch b k t z = cond k (cond t (cond b z a) (cond b a z)) None

    go : (b k t : Bool) → k && beq b t ≡ false → branch b k t x ≡ branch b k t y
    go true true true h = absurd (true≢false h)
    go true true false h = refl
    go false true true h = refl
    go false true false h = absurd (true≢false h)
    go b false t h = refl

module _ (text : Span → List ℕ) (found : Option Operation) where
  -- where the right side is not needed, the left decides alone
  pub left-decides : (n : Need) (l r : Option Value) → needs_right n l ≡ false → binary_by n text found l r ≡ boolean_of l
  left-decides Both l r h = absurd (true≢false h)
  left-decides UntilTrue l r h = not-came false l (Some (Boolean true)) (boolean_of r) (Some (Boolean false)) h
  left-decides UntilFalse l r h = not-came true l (Some (Boolean false)) (boolean_of r) (Some (Boolean true)) h

  -- and where it is needed, what both come to
  pub right-decides : (n : Need) (l r : Option Value) → needs_right n l ≡ true →
      binary_by n text found l r ≡ cond (needs_both n) (applied text found (l ∷ r ∷ [])) (boolean_of r)
  right-decides Both l r h = refl
  right-decides UntilTrue l r h = came false l _ _ h
  right-decides UntilFalse l r h = came true l _ _ h

  -- one that needs both is the operation on them
  pub both-needed : (n : Need) (l r : Option Value) → T (needs_both n) → binary_by n text found l r ≡ applied text found (l ∷ r ∷ [])
  both-needed Both l r h = refl
  both-needed UntilTrue l r h = absurd h
  both-needed UntilFalse l r h = absurd h

-- which operators need what
pub data Told : Option Operation → Need → Type 0 where
  is-or : Told (Some (op.Logic Or)) UntilTrue
  is-and : Told (Some (op.Logic And)) UntilFalse
  is-other : (found : Option Operation) → Told found Both

pub told : (found : Option Operation) → Told found (need_of found)
told (Some (op.Logic Or)) = is-or
told (Some (op.Logic And)) = is-and
told (Some (op.Logic Not)) = is-other _
told (Some (op.Unary f)) = is-other _
told (Some (op.Binary f)) = is-other _
told (Some (op.Ternary f)) = is-other _
told (Some (op.Order f)) = is-other _
told (Some (op.Equality f)) = is-other _
told (Some (op.Test f)) = is-other _
told (Some (op.Constructor f)) = is-other _
told (Some (op.Product f)) = is-other _
told (Some (op.Pick m)) = is-other _
told None = is-other _

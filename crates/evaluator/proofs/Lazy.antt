-- `&&` and `||`, which may leave their right side alone, beside the same operations on both sides: where these do not fault, they come to
-- the same; and so they do wherever the right side is a Boolean.
use Rattle.std.specs.Prelude.{Option, Some, None}
use mathlib.Core.Path.{◌≡◌, refl, sym, ◌∙◌, ap, subst}
use mathlib.Core.Bool.{Bool, true, false, cond, ◌&&◌, ◌||◌}
use mathlib.Core.List.{List, [], ◌∷◌}
use Prim.Native.Nat.{ℕ}
use Rattle.kind.specs.Kind.{eq_kind}
use Rattle.kind.specs.Rule.{Signature, of_logic, ruled_by, rule_of}
use Rattle.kind.specs.declared.kind.Kind.TheVariants as kind
use Rattle.kind.specs.declared.operation.Logic.{Logic}
use Rattle.kind.specs.declared.operation.Logic.TheVariants.{And, Or}
use Rattle.kind.specs.declared.operation.Operation.TheVariants as op
use Rattle.value.specs.Value.{kind_of, truth}
use Rattle.value.specs.Meaning.{logic_of, outcome, meaning}
use Rattle.value.specs.declared.value.Span.{Span}
use Rattle.value.specs.declared.value.Value.{Value}
use Rattle.value.specs.declared.value.Value.TheVariants.{Boolean}
use Rattle.evaluator.specs.Eval.{applied, or_of, and_of, need_of, binary_by, binary_of}
use Rattle.evaluator.specs.declared.need.Need.{Need}
use Rattle.evaluator.specs.declared.need.Need.TheVariants.{UntilTrue, UntilFalse}
use Rattle.evaluator.proofs.Law.Outcomes.{Told, is-or, is-and, is-other, told}
use Rattle.kind.specs.declared.kind.Kind.{Kind}
use Rattle.kind.specs.declared.operation.Operation.{Operation}

no_value : (v : Value) → None ≡ Some v → ⊥
no_value v e = subst faults e tt
  where
    faults : Option Value → Type 0
    faults None = Unit {0}
    faults (Some v) = ⊥

abbrev is_boolean : Value → Bool
is_boolean v = eq_kind kind.Boolean (kind_of v)

-- a Boolean, if both sides are Booleans
abbrev of_both : Logic → Value → Value → Bool → Option Value
of_both f v w b = cond b (Some (Boolean (logic_of f v w))) None

-- what the operation makes of both sides
strict : (text : Span → List ℕ) (f : Logic) → of_logic f ≡ of_logic And → (v w : Value) →
    meaning text (op.Logic f) (v ∷ w ∷ []) ≡ of_both f v w (is_boolean w && is_boolean v)
unfolding meaning rule_of
strict text f takes v w = ap (λ (ss : List Signature). made (ruled_by ss (kind_of v ∷ kind_of w ∷ []))) takes ∙ go (is_boolean w && is_boolean v)
  where
    made : Option Kind → Option Value
    made r = outcome r (λ k. Boolean (logic_of f v w))

    go : (b : Bool) → made (elim b [ true ↦ Some kind.Boolean | false ↦ None ]) ≡ of_both f v w b
    go true = refl
    go false = refl

-- ---- the two side by side

module _ (text : Span → List ℕ) (found : Option Operation) (n : Need) (l r : Option Value) where
  abbrev both : Option Value
  both = applied text found (l ∷ r ∷ [])

  abbrev needed : Option Value
  needed = binary_by n text found l r

  abbrev Agree : Type 0
  Agree = ((v : Value) → both ≡ Some v → needed ≡ Some v) × ((b : Bool) → r ≡ Some (Boolean b) → needed ≡ both)

module _ (text : Span → List ℕ) (f : Logic) (takes : of_logic f ≡ of_logic And) (n : Need) where
  abbrev found : Option Operation
  found = Some (op.Logic f)

  module _ (faults : (r : Option Value) → needed text found n None r ≡ None)
      (same : (v w : Value) → is_boolean w ≡ true → needed text found n (Some v) (Some w) ≡ of_both f v w (is_boolean v)) where
    with-boolean : (l r : Option Value) (b : Bool) → r ≡ Some (Boolean b) → needed text found n l r ≡ both text found n l r
    with-boolean None r b e = faults r
    with-boolean (Some v) r b e =
        subst (λ (r : Option Value). needed text found n (Some v) r ≡ both text found n (Some v) r) (sym e)
        (same v (Boolean b) refl ∙ sym (strict text f takes v (Boolean b)))

    without-fault : (l r : Option Value) (x : Value) → both text found n l r ≡ Some x → needed text found n l r ≡ Some x
    without-fault None r x e = absurd (no_value x e)
    without-fault (Some v) None x e = absurd (no_value x e)
    without-fault (Some v) (Some w) x e = go (is_boolean w) refl (sym (strict text f takes v w) ∙ e)
      where
        go : (b : Bool) → is_boolean w ≡ b → of_both f v w (is_boolean w && is_boolean v) ≡ Some x →
            needed text found n (Some v) (Some w) ≡ Some x
        go true h e = same v w h ∙ (rw h at e)
        go false h e = absurd (no_value x (rw h at e))

    logic-agrees : (l r : Option Value) → Agree text found n l r
    logic-agrees l r = (without-fault l r, with-boolean l r)

abbrev yes : Option Value
yes = Some (Boolean true)

abbrev no : Option Value
no = Some (Boolean false)

or_same : (v w : Value) → is_boolean w ≡ true → or_of (Some v) (Some w) ≡ of_both Or v w (is_boolean v)
or_same v w h = rw h (go (is_boolean v) (truth v) (truth w))
  where
    go : (k t u : Bool) → cond k (cond t yes (cond u yes no)) None ≡ cond k (Some (Boolean (t || u))) None
    go true true u = refl
    go true false true = refl
    go true false false = refl
    go false t u = refl

and_same : (v w : Value) → is_boolean w ≡ true → and_of (Some v) (Some w) ≡ of_both And v w (is_boolean v)
and_same v w h = rw h (go (is_boolean v) (truth v) (truth w))
  where
    go : (k t u : Bool) → cond k (cond t (cond u yes no) no) None ≡ cond k (Some (Boolean (t && u))) None
    go true true true = refl
    go true true false = refl
    go true false u = refl
    go false t u = refl

-- ---- the theorem

-- Of any operator, so of `&&` and `||`: if the operation on both sides comes to a value, the operator that may leave its right side alone
-- comes to that value; and they come to the same if the right side is a Boolean.
pub lazy-and-strict : (text : Span → List ℕ) (found : Option Operation) (l r : Option Value) →
    ((v : Value) → applied text found (l ∷ r ∷ []) ≡ Some v → binary_of text found l r ≡ Some v)
    × ((b : Bool) → r ≡ Some (Boolean b) → binary_of text found l r ≡ applied text found (l ∷ r ∷ []))
lazy-and-strict text found l r = go found (need_of found) (told found)
  where
    go : (found : Option Operation) (n : Need) → Told found n → Agree text found n l r
    go _ _ is-or = logic-agrees text Or refl UntilTrue (λ r. refl) or_same l r
    go _ _ is-and = logic-agrees text And refl UntilFalse (λ r. refl) and_same l r
    go _ _ (is-other found) = ((λ v e. e), (λ b e. refl))

-- What a call comes to whose first arguments have come to values, by what stands where the others begin.
use Rattle.std.specs.Prelude.{Option, Some, None}
use mathlib.Core.Path.{◌≡◌, sym, ◌∙◌, ap}
use mathlib.Core.Bool.{true}
use mathlib.Core.List.{List, [], ◌∷◌, ◌++◌, map}
use Prim.Native.Nat.{ℕ, ◌+◌, ◌-◌, ◌≤◌}
use native.Mathlib.Omega.{arith}
use lib.ListN.{length}
use Rattle.kind.specs.declared.operation.Operation.{Operation}
use Rattle.value.specs.Meaning.{meaning}
use Rattle.value.specs.declared.value.Value.{Value}
use Rattle.value.specs.Name.{function_at}
use Rattle.tree.specs.Node.{argument_at, most_commas, tree_at}
use Rattle.tree.specs.declared.node.Comma.{Comma}
use Rattle.evaluator.specs.Eval.{applied}
use Rattle.evaluator.specs.Inner.{context, worked_at, arguments_of, called_at, are_over}
use Rattle.evaluator.specs.declared.evaluate.Scene.{Scene}
use Rattle.evaluator.proofs.Law.Outcomes.{applied-longer, call-fault, call-over, call-values, one-more}
use Rattle.evaluator.proofs.Law.Trees.{arguments-last, arguments-next, over-length}

-- more than four arguments are a fault, whatever they come to
pub called-over : (s : Scene) (allowance function arguments : ℕ) → are_over 4 s.slots.now arguments ≡ true → None ≡ called_at s allowance function arguments
called-over s allowance function arguments h =
    let longer = over-length (context s) (tree_at allowance s.slots.now) s.slots.now 4 most_commas arguments (omega arith) h in
    sym (applied-longer (context s).text (function_at function) _ longer)

-- `outcomes` are those of all the arguments: the values so far, and then what is left
module _ (s : Scene) (allowance : ℕ) (vs : List Value) (at : ℕ) {outcomes : List (Option Value)} (few : length vs ≤ 4)
    (so-far : outcomes ≡ map Some vs ++ arguments_of s allowance (most_commas - length vs) at) where
  -- ---- an argument with a comma behind it

  module _ {e xs : ℕ} (stands : Some (record { first = e; rest = xs }) ≡ argument_at s.slots.now at) {x : Option Value} (came : x ≡ worked_at s allowance e) where
    left : (y : Option Value) → x ≡ y → arguments_of s allowance (most_commas - length vs) at ≡ y ∷ arguments_of s allowance (most_commas - length vs - 1) xs
    left y h =
        arguments-next (context s) (tree_at allowance s.slots.now) s.slots.now at (most_commas - length vs) e xs (omega arith) (sym stands)
        ∙ ap (λ z. z ∷ arguments_of s allowance (most_commas - length vs - 1) xs) (sym came ∙ h)

    pub next-more : (v : Value) → x ≡ Some v → (ws : List Value) → ws ≡ vs ++ v ∷ [] → length ws ≡ length vs + 1 →
        outcomes ≡ map Some ws ++ arguments_of s allowance (most_commas - length ws) xs
    next-more v h ws e n =
        let m : most_commas - length vs - 1 ≡ most_commas - length ws = omega (arith, n) in
        so-far
        ∙ ap (λ os. map Some vs ++ os) (left (Some v) h)
        ∙ one-more vs v (arguments_of s allowance (most_commas - length vs - 1) xs)
        ∙ (λ i. map Some (sym e i) ++ arguments_of s allowance (m i) xs)

    module _ {found : Option Operation} {o : Operation} (f : found ≡ Some o) where
      pub next-fault : x ≡ None → None ≡ applied (context s).text found outcomes
      next-fault h = call-fault (context s).text f vs so-far _ (left None h)

      pub next-over : (v : Value) → x ≡ Some v → length vs ≡ 4 → None ≡ applied (context s).text found outcomes
      next-over v h n = call-over (context s).text f vs so-far v _ (left (Some v) h) n

  -- ---- the last one

  module _ {a : Option Comma} (stands : a ≡ argument_at s.slots.now at) (no-comma : (x : Comma) → a ≡ Some x → ⊥) {x : Option Value} (came : x ≡ worked_at s allowance at)
      {found : Option Operation} {o : Operation} (f : found ≡ Some o) where
    end : (y : Option Value) → x ≡ y → arguments_of s allowance (most_commas - length vs) at ≡ y ∷ []
    end y h =
        arguments-last (context s) (tree_at allowance s.slots.now) s.slots.now at (most_commas - length vs) a stands no-comma
        ∙ ap (λ z. z ∷ []) (sym came ∙ h)

    pub last-fault : x ≡ None → None ≡ applied (context s).text found outcomes
    last-fault h = call-fault (context s).text f vs so-far [] (end None h)

    pub last-over : (v : Value) → x ≡ Some v → length vs ≡ 4 → None ≡ applied (context s).text found outcomes
    last-over v h n = call-over (context s).text f vs so-far v [] (end (Some v) h) n

    pub last-values : (v : Value) → x ≡ Some v → meaning (context s).text o (vs ++ v ∷ []) ≡ applied (context s).text found outcomes
    last-values v h = call-values (context s).text f vs so-far v (end (Some v) h)

-- Definitions for private functions.
use Rattle.std.specs.Prelude.{Bool, true, false, cond, List, [], ◌∷◌, ℕ, zero, suc, Option, Some, None}
use Rattle.kind.specs.Kind.{eq_kind}
use Rattle.kind.specs.declared.kind.Kind.TheVariants as kind
use Rattle.kind.specs.declared.operation.Operation.{Operation}
use Rattle.value.specs.Value.{kind_of, truth}
use Rattle.value.specs.Name.{function_at}
use Rattle.value.specs.declared.value.Value.{Value}
use Rattle.tree.specs.Node.{argument_at, tree_at, arguments_at, most_commas}
use Rattle.tree.specs.declared.node.Comma.{Comma}
use Rattle.checker.specs.Operator.{infix_at}
use Rattle.evaluator.specs.Eval.{applied, branch_of, binary_of, Context, eval_of, eval_of_all}
use Rattle.evaluator.specs.Arrays.{array_context}
use Rattle.evaluator.specs.declared.evaluate.Scene.{Scene}

-- the Boolean that a value is
abbrev pub boolean_in : Value → Option Bool
boolean_in v = cond (eq_kind kind.Boolean (kind_of v)) (Some (truth v)) None

-- ---- where the arguments of a call stand

-- by the comma at a place, if one stands there
abbrev pub over_by : Option Comma → (ℕ → Bool) → Bool
over_by None rest = false
over_by (Some c) rest = rest c.rest

-- whether more than n stand at a place: n commas do, one behind the other
unfoldable pub are_over : ℕ → List ℕ → ℕ → Bool
are_over zero w p = true
are_over (suc n) w p = over_by (argument_at w p) (are_over n w)

-- ---- a part of an expression

abbrev pub context : Scene → Context
context s = array_context s.texts.style.now s.texts.feature.now s.values.now s.base

module _ (s : Scene) (allowance : ℕ) where
  -- what the tree at a place comes to, as deep as the allowance goes
  abbrev pub worked_at : ℕ → Option Value
  worked_at at = eval_of (context s) (tree_at allowance s.slots.now at)

  -- what the arguments at a place come to, so many of them and one more at most
  abbrev pub arguments_of : ℕ → ℕ → List (Option Value)
  arguments_of commas at = eval_of_all (context s) (arguments_at (tree_at allowance s.slots.now) commas s.slots.now at)

  -- what a node comes to that has its parts at some places
  abbrev pub called_at : ℕ → ℕ → Option Value
  called_at function arguments = applied (context s).text (function_at function) (arguments_of most_commas arguments)

  abbrev pub single_at : Option Operation → ℕ → Option Value
  single_at found part = applied (context s).text found (worked_at part ∷ [])

  abbrev pub binary_at : ℕ → ℕ → ℕ → Option Value
  binary_at operator left right = binary_of (context s).text (infix_at operator) (worked_at left) (worked_at right)

  abbrev pub branch_at : ℕ → ℕ → ℕ → Option Value
  branch_at test first second = branch_of (worked_at test) (worked_at first) (worked_at second)

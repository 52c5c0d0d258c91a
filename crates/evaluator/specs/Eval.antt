-- What an expression means: page 01, "Kinds and meaning". A fault is where an operator, function or pick meets a kind or a count that it
-- does not take.
use Rattle.std.specs.Prelude.{Bool, true, false, cond, ◌&&◌, ◌||◌, List, [], ◌∷◌, map, ℕ, Option, Some, None}
use Rattle.std.specs.Bool.{beq}
use Rattle.kind.specs.Kind.{eq_kind}
use Rattle.kind.specs.declared.kind.Kind.TheVariants as kind
use Rattle.kind.specs.declared.operation.Logic.TheVariants.{Not, And, Or}
use Rattle.kind.specs.declared.operation.Operation.TheVariants as op
use Rattle.value.specs.Value.{kind_of, truth}
use Rattle.value.specs.Meaning.{meaning}
use Rattle.value.specs.Name.{function_at, pick_at}
use Rattle.value.specs.declared.value.Span.{Span}
use Rattle.value.specs.declared.value.Value.{Value}
use Rattle.value.specs.declared.value.Value.TheVariants.{Undefined, Boolean}
use Rattle.tree.specs.Tree.{Tree, literal, variable, unary, binary, conditional, bare, call, pick, Arguments, last, next}
use Rattle.checker.specs.Operator.{prefix_at, infix_at}
use Rattle.evaluator.specs.declared.need.Need.{Need}
use Rattle.evaluator.specs.declared.need.Need.TheVariants.{Both, UntilTrue, UntilFalse}
use Rattle.kind.specs.declared.operation.Operation.{Operation}

-- ---- a node from its parts

abbrev pub is_fault : Option Value → Bool
is_fault None = true
is_fault (Some v) = false

-- what is worked out; a fault has no value
abbrev pub value_in : Option Value → Value
value_in None = Undefined
value_in (Some v) = v

abbrev pub some_fault : List (Option Value) → Bool
some_fault [] = false
some_fault (o ∷ os) = is_fault o || some_fault os

-- "Every node's answer is worked out from its parts' answers": a fault, if one of them is, and else what the operation means on their
-- values
abbrev pub applied : (Span → List ℕ) → Option Operation → List (Option Value) → Option Value
applied text None os = None
applied text (Some o) os = cond (some_fault os) None (meaning text o (map value_in os))

-- by a test that has to be a Boolean
abbrev pub branch_of : Option Value → Option Value → Option Value → Option Value
branch_of None a b = None
branch_of (Some v) a b = cond (eq_kind kind.Boolean (kind_of v)) (cond (truth v) a b) None

-- what has to be a Boolean
abbrev pub boolean_of : Option Value → Option Value
boolean_of o = branch_of o (Some (Boolean true)) (Some (Boolean false))

-- "`&&`, `||` and `? :` work out only the part they need": what the other part comes to does not count
abbrev pub or_of : Option Value → Option Value → Option Value
or_of l r = branch_of l (Some (Boolean true)) (boolean_of r)

abbrev pub and_of : Option Value → Option Value → Option Value
and_of l r = branch_of l (boolean_of r) (Some (Boolean false))

-- which sides of a binary operator are needed: all but `||` and `&&` need both
abbrev pub need_of : Option Operation → Need
need_of (Some (op.Logic Or)) = UntilTrue
need_of (Some (op.Logic And)) = UntilFalse
need_of (Some (op.Logic Not)) = Both
need_of (Some (op.Unary f)) = Both
need_of (Some (op.Binary f)) = Both
need_of (Some (op.Ternary f)) = Both
need_of (Some (op.Order f)) = Both
need_of (Some (op.Equality f)) = Both
need_of (Some (op.Test f)) = Both
need_of (Some (op.Constructor f)) = Both
need_of (Some (op.Product f)) = Both
need_of (Some (op.Pick m)) = Both
need_of None = Both

abbrev pub binary_by : Need → (Span → List ℕ) → Option Operation → Option Value → Option Value → Option Value
binary_by Both text found l r = applied text found (l ∷ r ∷ [])
binary_by UntilTrue text found l r = or_of l r
binary_by UntilFalse text found l r = and_of l r

abbrev pub binary_of : (Span → List ℕ) → Option Operation → Option Value → Option Value → Option Value
binary_of text found l r = binary_by (need_of found) text found l r

-- it came to that Boolean
abbrev pub came_to : Bool → Option Value → Bool
came_to b None = false
came_to b (Some v) = eq_kind kind.Boolean (kind_of v) && beq b (truth v)

-- whether the right side is worked out, by what the left came to
abbrev pub needs_right : Need → Option Value → Bool
needs_right Both l = true
needs_right UntilTrue l = came_to false l
needs_right UntilFalse l = came_to true l

-- ---- an expression

-- what an expression is worked out from: the bytes of a string, the value of a literal by its place and its form, and what a variable comes
-- to by its place and its number
pub record Context : Type 0 where
  pub text : Span → List ℕ
  pub literals : ℕ → ℕ → Value
  pub variables : ℕ → ℕ → Option Value

unfoldable mutual
  pub eval_of : Context → Tree → Option Value
  eval_of c (literal p k) = Some (c.literals p k)
  eval_of c (variable p n) = c.variables p n
  eval_of c (unary p o e) = applied c.text (prefix_at o) (eval_of c e ∷ [])
  eval_of c (binary p o l r) = binary_of c.text (infix_at o) (eval_of c l) (eval_of c r)
  eval_of c (conditional p q t a b) = branch_of (eval_of c t) (eval_of c a) (eval_of c b)
  eval_of c (bare p f) = applied c.text (function_at f) []
  eval_of c (call p f xs) = applied c.text (function_at f) (eval_of_all c xs)
  eval_of c (pick p i e) = applied c.text (pick_at i) (eval_of c e ∷ [])

  pub eval_of_all : Context → Arguments → List (Option Value)
  eval_of_all c (last e) = eval_of c e ∷ []
  eval_of_all c (next e q xs) = eval_of c e ∷ eval_of_all c xs

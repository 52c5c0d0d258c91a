-- Names that are resolved to numbers: what an expression comes to is what it does with each variable looked up by its resolved number. Its kinds are `kinds-resolved` of the checker.
use mathlib.Core.Path.{◌≡◌, refl}
use mathlib.Core.List.{[], ◌∷◌}
use Prim.Native.Nat.{ℕ}
use Rattle.value.specs.Name.{function_at, pick_at}
use Rattle.tree.specs.Tree.{Tree, literal, variable, unary, binary, conditional, bare, call, pick, Arguments, last, next}
use Rattle.checker.specs.Name.{resolved, resolved_all}
use Rattle.checker.specs.Operator.{prefix_at, infix_at}
use Rattle.evaluator.specs.Eval.{applied, branch_of, binary_of, Context, eval_of, eval_of_all}

module _ (c : Context) (number : ℕ → ℕ) where
  abbrev numbered : Context
  numbered = record { text = c.text; literals = c.literals; variables = λ p n. c.variables p (number p) }

  mutual
    unfolding eval_of resolved

    pub eval-resolved : (e : Tree) → eval_of c (resolved number e) ≡ eval_of numbered e
    eval-resolved (literal p k) = refl
    eval-resolved (variable p n) = refl
    eval-resolved (unary p o e) = λ i. applied c.text (prefix_at o) (eval-resolved e i ∷ [])
    eval-resolved (binary p o l r) = λ i. binary_of c.text (infix_at o) (eval-resolved l i) (eval-resolved r i)
    eval-resolved (conditional p q t a b) = λ i. branch_of (eval-resolved t i) (eval-resolved a i) (eval-resolved b i)
    eval-resolved (bare p f) = refl
    eval-resolved (call p f xs) = λ i. applied c.text (function_at f) (all-eval-resolved xs i)
    eval-resolved (pick p m e) = λ i. applied c.text (pick_at m) (eval-resolved e i ∷ [])

    all-eval-resolved : (xs : Arguments) → eval_of_all c (resolved_all number xs) ≡ eval_of_all numbered xs
    all-eval-resolved (last e) = λ i. eval-resolved e i ∷ []
    all-eval-resolved (next e q xs) = λ i. eval-resolved e i ∷ all-eval-resolved xs i

-- What the tree at a place comes to, by its node; and the arguments of a call, by what stands at a place.
use Rattle.std.specs.Prelude.{Option, Some, None}
use mathlib.Core.Path.{◌≡◌, refl, sym}
use mathlib.Core.Bool.{true, true≢false}
use mathlib.Core.List.{List, [], ◌∷◌}
use Prim.Native.Nat.{ℕ, zero, suc, ◌-◌, ◌<◌, ◌≤◌}
use lib.ListN.{length}
use native.Mathlib.Omega.{arith}
use native.Mathlib.Numerals.{sub-one}
use Rattle.value.specs.Name.{function_at, pick_at}
use Rattle.tree.specs.Tree.{Tree, Arguments, last, next}
use Rattle.tree.specs.Node.{node_at, argument_at, argued, arguments_at, grown, most_commas, tree_at}
use Rattle.tree.specs.declared.node.Node.{Node}
use Rattle.tree.specs.declared.node.Node.TheVariants.{Literal, Variable, Unary, Binary, Conditional, Bare, Call, Pick}
use Rattle.tree.specs.declared.node.Comma.{Comma}
use Rattle.syntax.proofs.Law.Nodes.{tree-step}
use Rattle.checker.specs.Operator.{prefix_at, infix_at}
use Rattle.evaluator.specs.Eval.{Context, applied, branch_of, binary_of, eval_of, eval_of_all}
use Rattle.evaluator.specs.Inner.{over_by, are_over}
use Rattle.value.specs.declared.value.Value.{Value}

-- ---- a tree by its node

-- what the tree of a node comes to, by what the trees at its parts come to
abbrev pub eval_by : Context → Node → ℕ → (ℕ → (Option Value)) → (ℕ → List (Option Value)) → Option Value
eval_by c (Literal k) p tree arguments = Some (c.literals p k)
eval_by c (Variable n) p tree arguments = c.variables p n
eval_by c (Unary o e) p tree arguments = applied c.text (prefix_at o) (tree e ∷ [])
eval_by c (Binary o l r) p tree arguments = binary_of c.text (infix_at o) (tree l) (tree r)
eval_by c (Conditional q t a b) p tree arguments = branch_of (tree t) (tree a) (tree b)
eval_by c (Bare f) p tree arguments = applied c.text (function_at f) []
eval_by c (Call f xs) p tree arguments = applied c.text (function_at f) (arguments xs)
eval_by c (Pick i e) p tree arguments = applied c.text (pick_at i) (tree e ∷ [])

eval-grown : (c : Context) (n : Node) (p : ℕ) (tree : ℕ → Tree) (arguments : ℕ → Arguments) →
    eval_of c (grown n p tree arguments) ≡ eval_by c n p (λ q. eval_of c (tree q)) (λ q. eval_of_all c (arguments q))
unfolding eval_of
eval-grown c (Literal k) p tree arguments = refl
eval-grown c (Variable n) p tree arguments = refl
eval-grown c (Unary o e) p tree arguments = refl
eval-grown c (Binary o l r) p tree arguments = refl
eval-grown c (Conditional q t a b) p tree arguments = refl
eval-grown c (Bare f) p tree arguments = refl
eval-grown c (Call f xs) p tree arguments = refl
eval-grown c (Pick i e) p tree arguments = refl

pub eval-step : (c : Context) (w : List ℕ) (p h : ℕ) (n : Node) → (h ≡ 0 → ⊥) → n ≡ node_at w p →
    eval_of c (tree_at h w p) ≡
    eval_by c n p (λ q. eval_of c (tree_at (h - 1) w q)) (λ q. eval_of_all c (arguments_at (tree_at (h - 1) w) most_commas w q))
eval-step c w p h n some e =
    rw (tree-step w p h n some e) (eval-grown c n p (tree_at (h - 1) w) (arguments_at (tree_at (h - 1) w) most_commas w))

-- ---- the arguments of a call, by what stands at a place

module _ (c : Context) (tree : ℕ → Tree) (w : List ℕ) (p : ℕ) where
  pub arguments-last : (n : ℕ) (a : Option Comma) → a ≡ argument_at w p → ((x : Comma) → a ≡ Some x → ⊥) → eval_of_all c (arguments_at tree n w p) ≡ eval_of c (tree p) ∷ []
  unfolding arguments_at eval_of
  arguments-last zero a h k = refl
  arguments-last (suc n) None h k = rw (← h)
  arguments-last (suc n) (Some x) h k = absurd (k x refl)

  pub arguments-next : (n e xs : ℕ) → 0 < n → argument_at w p ≡ Some (record { first = e; rest = xs }) →
      eval_of_all c (arguments_at tree n w p) ≡ eval_of c (tree e) ∷ eval_of_all c (arguments_at tree (n - 1) w xs)
  unfolding arguments_at eval_of
  arguments-next zero e xs k h = absurd (omega (arith, k))
  arguments-next (suc n) e xs k h = rw (h, sub-one (suc n))

-- of more than k arguments more than k things come
module _ (c : Context) (tree : ℕ → Tree) (w : List ℕ) where
  some-outcome : (xs : Arguments) → 0 < length (eval_of_all c xs)
  unfolding eval_of
  some-outcome (last e) = omega arith
  some-outcome (next e q xs) = omega arith

  pub over-length : (k n p : ℕ) → k ≤ n → are_over k w p ≡ true → k < length (eval_of_all c (arguments_at tree n w p))
  unfolding are_over arguments_at eval_of
  over-length zero n p l h = some-outcome (arguments_at tree n w p)
  over-length (suc k) zero p l h = absurd (omega (arith, l))
  over-length (suc k) (suc n) p l h = go (argument_at w p) (λ q j. over-length k n q (omega (arith, l)) j) h
    where
      go : (a : Option Comma) → ((q : ℕ) → are_over k w q ≡ true → k < length (eval_of_all c (arguments_at tree n w q))) →
          over_by a (are_over k w) ≡ true → suc k < length (eval_of_all c (argued a p tree (arguments_at tree n w)))
      go None f h = absurd (true≢false (sym h))
      go (Some x) f h = let m = f x.rest h in omega (arith, m)

-- The nodes that are entered while an expression is worked out, each with what it comes to: page 01, "Kinds and meaning" ("Every node's
-- answer is worked out from its parts' answers, left to right."; "`&&`, `||` and `? :` work out only the part they need"). A node stands
-- before its parts; brackets are no node, and a part that is passed over is not entered.
use Rattle.std.specs.Prelude.{◌≡◌, Bool, true, false, List, [], ◌∷◌, ◌++◌, ℕ, Option}
use Rattle.tree.specs.Tree.{Tree, literal, variable, unary, binary, conditional, bare, call, pick, Arguments, last, next}
use Rattle.checker.specs.Operator.{infix_at}
use Rattle.evaluator.specs.Eval.{is_fault, need_of, came_to, needs_right, Context, eval_of}
use Rattle.value.specs.declared.value.Value.{Value}

pub record Entered : Type 0 where
  pub node : Tree
  pub outcome : Option Value

-- of a part that may be passed over
abbrev pub entered_if : Bool → List Entered → List Entered
entered_if true es = es
entered_if false es = []

-- What is entered where a variable is named stands behind it, by its place and its number: a define has nodes of its own.
module _ (c : Context) (naming : ℕ → ℕ → List Entered) where
  abbrev pub entered : Tree → Entered
  entered e = record { node = e; outcome = eval_of c e }

  unfoldable mutual
    pub entries_of : Tree → List Entered
    entries_of (literal p k) = entered (literal p k) ∷ []
    entries_of (variable p n) = entered (variable p n) ∷ naming p n
    entries_of (unary p o e) = entered (unary p o e) ∷ entries_of e
    entries_of (binary p o l r) =
        entered (binary p o l r) ∷ (entries_of l ++ entered_if (needs_right (need_of (infix_at o)) (eval_of c l)) (entries_of r))
    entries_of (conditional p q t a b) =
        entered (conditional p q t a b)
        ∷ (entries_of t ++ (entered_if (came_to true (eval_of c t)) (entries_of a) ++ entered_if (came_to false (eval_of c t)) (entries_of b)))
    entries_of (bare p f) = entered (bare p f) ∷ []
    entries_of (call p f xs) = entered (call p f xs) ∷ entries_of_all xs
    entries_of (pick p i e) = entered (pick p i e) ∷ entries_of e

    pub entries_of_all : Arguments → List Entered
    entries_of_all (last e) = entries_of e
    entries_of_all (next e q xs) = entries_of e ++ entries_of_all xs

-- none of them faults: "to meet a kind or count not taken is what this page calls a fault"
abbrev pub NoneFaults : List Entered → Type 0
NoneFaults [] = Unit {0}
NoneFaults (x ∷ xs) = (is_fault x.outcome ≡ false) × NoneFaults xs

-- An expression that comes to a value has no fault inside: of the nodes that are entered none faults.
use Rattle.std.specs.Prelude.{Option, Some, None}
use mathlib.Core.Path.{◌≡◌, refl, sym}
use mathlib.Core.Bool.{Bool, true, false, cond, ◌||◌, ◌&&◌, beq, true≢false}
use mathlib.Core.List.{List, [], ◌∷◌, ◌++◌, map}
use Prim.Native.Nat.{ℕ}
use Rattle.kind.specs.Kind.{eq_kind}
use Rattle.kind.specs.declared.kind.Kind.TheVariants as kind
use Rattle.value.specs.Value.{kind_of, truth}
use Rattle.value.specs.Meaning.{meaning}
use Rattle.value.specs.Name.{function_at, pick_at}
use Rattle.value.specs.declared.value.Span.{Span}
use Rattle.value.specs.declared.value.Value.TheVariants.{Boolean}
use Rattle.tree.specs.Tree.{Tree, literal, variable, unary, binary, conditional, bare, call, pick, Arguments, last, next}
use Rattle.checker.specs.Operator.{prefix_at, infix_at}
use Rattle.evaluator.specs.Eval.{is_fault, value_in, some_fault, applied, branch_of, boolean_of, need_of, binary_by, came_to, needs_right, Context, eval_of, eval_of_all}
use Rattle.evaluator.specs.declared.need.Need.{Need}
use Rattle.evaluator.specs.declared.need.Need.TheVariants.{Both, UntilTrue, UntilFalse}
use Rattle.evaluator.specs.Entries.{Entered, entered_if, entries_of, entries_of_all, NoneFaults}
use Rattle.kind.specs.declared.operation.Operation.{Operation}
use Rattle.value.specs.declared.value.Value.{Value}

-- ---- lists of entries

pub none-joined : (xs ys : List Entered) → NoneFaults xs → NoneFaults ys → NoneFaults (xs ++ ys)
none-joined [] ys f g = g
none-joined (x ∷ xs) ys f g = (f.0, none-joined xs ys f.1 g)

none-if : (b : Bool) (xs : List Entered) → (b ≡ true → NoneFaults xs) → NoneFaults (entered_if b xs)
none-if true xs h = h refl
none-if false xs h = tt

-- ---- a node that doesn't fault has no part that does

-- the first of two, and the second
no-first : (a b : Bool) → (a || b) ≡ false → a ≡ false
no-first true b h = absurd (true≢false h)
no-first false b h = refl

no_second : (a b : Bool) → (a || b) ≡ false → b ≡ false
no_second true b h = absurd (true≢false h)
no_second false b h = h

applied-fine : (text : Span → List ℕ) (found : Option Operation) (os : List (Option Value)) → is_fault (applied text found os) ≡ false → some_fault os ≡ false
applied-fine text None os h = absurd (true≢false h)
applied-fine text (Some o) os h = go (some_fault os) h
  where
    go : (b : Bool) → is_fault (cond b None (meaning text o (map value_in os))) ≡ false → b ≡ false
    go true h = absurd (true≢false h)
    go false h = refl

-- of a test that has to be a Boolean, and the branch that it comes to
pub record BranchFine (o a b : Option Value) : Type 0 where
  pub test : is_fault o ≡ false
  pub first : came_to true o ≡ true → is_fault a ≡ false
  pub second : came_to false o ≡ true → is_fault b ≡ false

branch-fine : (o a b : Option Value) → is_fault (branch_of o a b) ≡ false → BranchFine o a b
branch-fine None a b h = absurd (true≢false h)
branch-fine (Some v) a b h = record { test = refl; first = (go (eq_kind kind.Boolean (kind_of v)) (truth v) h).0; second = (go (eq_kind kind.Boolean (kind_of v)) (truth v) h).1 }
  where
    go : (k t : Bool) → is_fault (cond k (cond t a b) None) ≡ false →
        ((k && beq true t) ≡ true → is_fault a ≡ false) × ((k && beq false t) ≡ true → is_fault b ≡ false)
    go false t h = absurd (true≢false h)
    go true true h = ((λ e. h), (λ e. absurd (true≢false (sym e))))
    go true false h = ((λ e. absurd (true≢false (sym e))), (λ e. h))

boolean-fine : (o : Option Value) → is_fault (boolean_of o) ≡ false → is_fault o ≡ false
boolean-fine o h = (branch-fine o (Some (Boolean true)) (Some (Boolean false)) h).test

-- of an operator with two sides, the right of which may be passed over
pub record SidesFine (need : Need) (l r : Option Value) : Type 0 where
  pub left : is_fault l ≡ false
  pub right : needs_right need l ≡ true → is_fault r ≡ false

sides-fine : (need : Need) (text : Span → List ℕ) (found : Option Operation) (l r : Option Value) → is_fault (binary_by need text found l r) ≡ false → SidesFine need l r
sides-fine Both text found l r h =
    let k = applied-fine text found (l ∷ r ∷ []) h in
    record {
      left = no-first (is_fault l) (is_fault r || false) k;
      right = λ e. no-first (is_fault r) false (no_second (is_fault l) (is_fault r || false) k);
    }
sides-fine UntilTrue text found l r h =
    let f = branch-fine l (Some (Boolean true)) (boolean_of r) h in
    record { left = f.test; right = λ e. boolean-fine r (f.second e) }
sides-fine UntilFalse text found l r h =
    let f = branch-fine l (boolean_of r) (Some (Boolean false)) h in
    record { left = f.test; right = λ e. boolean-fine r (f.first e) }

-- ---- an expression

module _ (c : Context) (naming : ℕ → ℕ → List Entered) (named : (p n : ℕ) → is_fault (c.variables p n) ≡ false → NoneFaults (naming p n)) where
  -- of the part of a node that has one
  part-fine : (found : Option Operation) (e : Tree) → is_fault (applied c.text found (eval_of c e ∷ [])) ≡ false → is_fault (eval_of c e) ≡ false
  part-fine found e h = no-first (is_fault (eval_of c e)) false (applied-fine c.text found (eval_of c e ∷ []) h)

  mutual
    unfolding eval_of entries_of

    pub none-faults : (e : Tree) → is_fault (eval_of c e) ≡ false → NoneFaults (entries_of c naming e)
    none-faults (literal p k) h = (h, tt)
    none-faults (variable p n) h = (h, named p n h)
    none-faults (unary p o e) h = (h, none-faults e (part-fine (prefix_at o) e h))
    none-faults (binary p o l r) h =
        let need = need_of (infix_at o) in
        let f = sides-fine need c.text (infix_at o) (eval_of c l) (eval_of c r) h in (
          h,
          none-joined (entries_of c naming l) (entered_if (needs_right need (eval_of c l)) (entries_of c naming r)) (none-faults l f.left)
              (none-if (needs_right need (eval_of c l)) (entries_of c naming r) (λ e. none-faults r (f.right e))),
        )
    none-faults (conditional p q t a b) h =
        let f = branch-fine (eval_of c t) (eval_of c a) (eval_of c b) h in
        let first = entered_if (came_to true (eval_of c t)) (entries_of c naming a) in
        let second = entered_if (came_to false (eval_of c t)) (entries_of c naming b) in (
          h,
          none-joined (entries_of c naming t) (first ++ second) (none-faults t f.test)
              (none-joined first second
              (none-if (came_to true (eval_of c t)) (entries_of c naming a) (λ e. none-faults a (f.first e)))
              (none-if (came_to false (eval_of c t)) (entries_of c naming b) (λ e. none-faults b (f.second e)))),
        )
    none-faults (bare p f) h = (h, tt)
    none-faults (call p f xs) h = (h, all-fine xs (applied-fine c.text (function_at f) (eval_of_all c xs) h))
    none-faults (pick p i e) h = (h, none-faults e (part-fine (pick_at i) e h))

    all-fine : (xs : Arguments) → some_fault (eval_of_all c xs) ≡ false → NoneFaults (entries_of_all c naming xs)
    all-fine (last e) h = none-faults e (no-first (is_fault (eval_of c e)) false h)
    all-fine (next e q xs) h =
        none-joined (entries_of c naming e) (entries_of_all c naming xs) (none-faults e (no-first (is_fault (eval_of c e)) (some_fault (eval_of_all c xs)) h))
        (all-fine xs (no_second (is_fault (eval_of c e)) (some_fault (eval_of_all c xs)) h))

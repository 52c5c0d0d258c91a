-- What holds of every place and number holds of each variable of an expression; and what follows from one thing that holds of each, or from two, holds of each.
use Prim.Native.Nat.{ℕ}
use Rattle.tree.specs.Tree.{Tree, literal, variable, unary, binary, conditional, bare, call, pick, Arguments, last, next}
use Rattle.evaluator.specs.Demand.{Variables, VariablesOf}

module _ {P Q R : ℕ → ℕ → Type 0} (f : (p n : ℕ) → P p n → Q p n → R p n) where
  mutual
    unfolding Variables

    pub both-variables : (e : Tree) → Variables P e → Variables Q e → Variables R e
    both-variables (literal p k) h j = tt
    both-variables (variable p n) h j = f p n h j
    both-variables (unary p o e) h j = both-variables e h j
    both-variables (binary p o l r) h j = (both-variables l h.0 j.0, both-variables r h.1 j.1)
    both-variables (conditional p q c a b) h j = (both-variables c h.0 j.0, both-variables a h.1 j.1, both-variables b h.2 j.2)
    both-variables (bare p g) h j = tt
    both-variables (call p g xs) h j = both-arguments xs h j
    both-variables (pick p i e) h j = both-variables e h j

    both-arguments : (xs : Arguments) → VariablesOf P xs → VariablesOf Q xs → VariablesOf R xs
    both-arguments (last e) h j = both-variables e h j
    both-arguments (next e q xs) h j = (both-variables e h.0 j.0, both-arguments xs h.1 j.1)

pub each-variable : {P Q : ℕ → ℕ → Type 0} → ((p n : ℕ) → P p n → Q p n) → (e : Tree) → Variables P e → Variables Q e
each-variable f e h = both-variables (λ p n h j. f p n h) e h h

module _ {P : ℕ → ℕ → Type 0} (f : (p n : ℕ) → P p n) where
  mutual
    unfolding Variables

    pub every-variable : (e : Tree) → Variables P e
    every-variable (literal p k) = tt
    every-variable (variable p n) = f p n
    every-variable (unary p o e) = every-variable e
    every-variable (binary p o l r) = (every-variable l, every-variable r)
    every-variable (conditional p q c a b) = (every-variable c, every-variable a, every-variable b)
    every-variable (bare p g) = tt
    every-variable (call p g xs) = every-argument xs
    every-variable (pick p i e) = every-variable e

    every-argument : (xs : Arguments) → VariablesOf P xs
    every-argument (last e) = every-variable e
    every-argument (next e q xs) = (every-variable e, every-argument xs)

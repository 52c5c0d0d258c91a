-- Names that are resolved to numbers: the kinds of an expression are those with each variable looked up by its resolved number, and `check` answers of an expression that was judged and resolved what its tree's
-- own names give.
use mathlib.Core.Path.{◌≡◌, refl, ap, ◌∙◌}
use mathlib.Core.List.{List, [], ◌∷◌}
use Prim.Native.Nat.{ℕ, ◌<◌, ◌≤◌}
use lib.ListN.{length}
use Rattle.lexer.specs.Refusal.{fine}
use Rattle.kind.specs.declared.set.Kinds.{Kinds}
use Rattle.value.specs.Name.{function_at, pick_at}
use Rattle.tree.specs.Tree.{Tree, literal, variable, unary, binary, conditional, bare, call, pick, place, Arguments, last, next}
use Rattle.syntax.specs.Sizes.{most_height}
use Rattle.syntax.specs.Judge.{judged_of, slots_after}
use Rattle.syntax.proofs.Laid.{judged-fits}
use Rattle.checker.specs.Name.{name_at, resolved_slots, resolved, resolved_all}
use Rattle.checker.specs.Property.{set_at}
use Rattle.checker.specs.Operator.{prefix_at, infix_at}
use Rattle.checker.specs.Kinds.{node_of, conditional_of, kinds_of, kinds_of_all, result_of}
use Rattle.checker.specs.Check.{answer_of, checked_at}
use Rattle.checker.specs.declared.check.Wanted.{Wanted}
use Rattle.checker.proofs.Resolved.{read-resolved}

module _ (look : ℕ → ℕ → Kinds) (number : ℕ → ℕ) where
  mutual
    unfolding kinds_of resolved

    pub kinds-resolved : (e : Tree) → kinds_of look (resolved number e) ≡ kinds_of (λ p n. look p (number p)) e
    kinds-resolved (literal p k) = refl
    kinds-resolved (variable p n) = refl
    kinds-resolved (unary p o e) = λ i. node_of p (prefix_at o) (kinds-resolved e i ∷ [])
    kinds-resolved (binary p o l r) = λ i. node_of p (infix_at o) (kinds-resolved l i ∷ kinds-resolved r i ∷ [])
    kinds-resolved (conditional p q c a b) = λ i. conditional_of p (kinds-resolved c i) (kinds-resolved a i) (kinds-resolved b i)
    kinds-resolved (bare p f) = refl
    kinds-resolved (call p f xs) = λ i. node_of p (function_at f) (all-kinds-resolved xs i)
    kinds-resolved (pick p m e) = λ i. node_of p (pick_at m) (kinds-resolved e i ∷ [])

    all-kinds-resolved : (xs : Arguments) → kinds_of_all look (resolved_all number xs) ≡ kinds_of_all (λ p n. look p (number p)) xs
    all-kinds-resolved (last e) = λ i. kinds-resolved e i ∷ []
    all-kinds-resolved (next e q xs) = λ i. kinds-resolved e i ∷ all-kinds-resolved xs i

-- what is checked is the tree, by the sets of its names
pub checked-named : (number : List ℕ → ℕ) → ((x : List ℕ) → number x < 1024) → (text w : List ℕ) (e : Tree) → judged_of text ≡ fine e → length text ≤ length w →
    (plan : List ℕ) (want : Wanted) (end : ℕ) →
    checked_at (resolved_slots number text (slots_after w text)) plan (place e) want end ≡ answer_of (result_of want end (kinds_of (λ p n. set_at plan (number (name_at text p))) e))
checked-named number small text w e judged room plan want end =
    ap (λ v. answer_of (result_of want end v))
    (ap (kinds_of (λ p n. set_at plan n)) (read-resolved number small text w e most_height judged room (judged-fits text e judged).1)
    ∙ kinds-resolved (λ p n. set_at plan n) (λ p. number (name_at text p)) e)

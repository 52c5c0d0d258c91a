-- What an expression's refusal says of its text: a 4 is the grammar's, and a 7 comes behind 1 to 6.
use Rattle.std.specs.Prelude.{Option, Some, None, Result, Ok, Err}
use mathlib.Core.Path.{◌≡◌, refl, sym, ap, subst}
use mathlib.Core.Bool.{false≢true}
use mathlib.Core.List.{List, [], ◌∷◌}
use mathlib.Core.Logic.{◌↔◌}
use Prim.Native.Nat.{ℕ}
use native.Mathlib.Omega.{arith}
use lib.Dec.{T}
use lib.ListN.{length}
use Rattle.lexer.specs.Refusal.{reason_number, Judged, refused, fine, refusal_at, on_fine}
use Rattle.lexer.specs.declared.refusal.Refusal.{Refusal}
use Rattle.lexer.specs.declared.refusal.Reason.TheVariants as reason
use Rattle.lexer.proofs.Law.Runs.{by-test}
use Rattle.kind.specs.Choice.{node_kinds}
use Rattle.kind.specs.Set.{single_of, within_of}
use Rattle.kind.specs.declared.kind.Kind.TheVariants.{Boolean}
use Rattle.kind.specs.declared.set.Kinds.{Kinds}
use Rattle.value.specs.Name.{function_at, pick_at}
use Rattle.tree.specs.Tree.{Tree, literal, variable, unary, binary, conditional, bare, call, pick, Arguments, last, next}
use Rattle.syntax.specs.Judge.{judged_of}
use Rattle.syntax.proofs.Refusals.{judged-below}
use Rattle.checker.specs.Name.{name_at}
use Rattle.checker.specs.Operator.{prefix_at, infix_at}
use Rattle.checker.specs.Kinds.{after, gathered, placed, operated, node_of, conditional_of, kinds_of, kinds_of_all, taken_by, result_of}
use Rattle.checker.specs.Check.{answer_of}
use Rattle.checker.specs.declared.check.Wanted.{Wanted}
use Rattle.evaluator.specs.Demand.{is_refused}
use Rattle.style.specs.Expression.{verdict_on, by_kinds, expression_of}
use Rattle.style.proofs.Law.Answers.{is_fine, refusal_in}
use Rattle.kind.specs.declared.operation.Operation.{Operation}

-- ---- the checker refuses with 7 alone

abbrev Seven : Result Kinds Refusal → Type 0
Seven (Err r) = r.reason ≡ reason.Kinds
Seven (Ok s) = Unit {0}

abbrev AllSeven : List (Result Kinds Refusal) → Type 0
AllSeven [] = Unit {0}
AllSeven (v ∷ vs) = Seven v × AllSeven vs

abbrev SevenIn : Judged (List Kinds) → Type 0
SevenIn (refused r) = r.reason ≡ reason.Kinds
SevenIn (fine ss) = Unit {0}

seven-after : (s : Kinds) (j : Judged (List Kinds)) → SevenIn j → SevenIn (after s j)
seven-after s (refused r) h = h
seven-after s (fine ss) h = tt

seven-gathered : (vs : List (Result Kinds Refusal)) → AllSeven vs → SevenIn (gathered vs)
seven-gathered [] h = tt
seven-gathered (Err r ∷ vs) h = h.0
seven-gathered (Ok s ∷ vs) h = seven-after s (gathered vs) (seven-gathered vs h.1)

seven-placed : (p : ℕ) (c : Option Kinds) → Seven (placed p c)
seven-placed p None = refl
seven-placed p (Some s) = tt

seven-node : (p : ℕ) (found : Option Operation) (vs : List (Result Kinds Refusal)) → AllSeven vs → Seven (node_of p found vs)
seven-node p found vs h = go found (gathered vs) (seven-gathered vs h)
  where
    go : (found : Option Operation) (j : Judged (List Kinds)) → SevenIn j → Seven (operated p found j)
    go found (refused r) h = h
    go (Some o) (fine ss) h = seven-placed p (node_kinds o ss)
    go None (fine ss) h = refl

seven-conditional : (p : ℕ) (t a b : Result Kinds Refusal) → Seven t → Seven a → Seven b → Seven (conditional_of p t a b)
seven-conditional p (Err r) a b h k l = h
seven-conditional p (Ok t) (Err r) b h k l = k
seven-conditional p (Ok t) (Ok a) (Err r) h k l = l
seven-conditional p (Ok t) (Ok a) (Ok b) h k l = by-test Seven (within_of t (single_of Boolean)) (λ _. tt) (λ _. refl)

module _ (look : ℕ → ℕ → Kinds) where
  mutual
    unfolding kinds_of

    seven-kinds : (e : Tree) → Seven (kinds_of look e)
    seven-kinds (literal p k) = tt
    seven-kinds (variable p n) = tt
    seven-kinds (unary p o e) = seven-node p (prefix_at o) (kinds_of look e ∷ []) (seven-kinds e, tt)
    seven-kinds (binary p o l r) = seven-node p (infix_at o) (kinds_of look l ∷ kinds_of look r ∷ []) (seven-kinds l, (seven-kinds r, tt))
    seven-kinds (conditional p q c a b) =
        seven-conditional p (kinds_of look c) (kinds_of look a) (kinds_of look b) (seven-kinds c) (seven-kinds a) (seven-kinds b)
    seven-kinds (bare p f) = seven-node p (function_at f) [] tt
    seven-kinds (call p f xs) = seven-node p (function_at f) (kinds_of_all look xs) (all-seven xs)
    seven-kinds (pick p i e) = seven-node p (pick_at i) (kinds_of look e ∷ []) (seven-kinds e, tt)

    all-seven : (xs : Arguments) → AllSeven (kinds_of_all look xs)
    all-seven (last e) = (seven-kinds e, tt)
    all-seven (next e q xs) = (seven-kinds e, all-seven xs)

seven-result : (want : Wanted) (end : ℕ) (v : Result Kinds Refusal) → Seven v → Seven (result_of want end v)
seven-result want end (Err r) h = h
seven-result want end (Ok s) h = by-test Seven (within_of s (taken_by want)) (λ _. tt) (λ _. refl)

-- ---- an expression that is refused

module _ (look : List ℕ → Kinds) (want : Wanted) (text : List ℕ) where
  seven-verdict : (t : Tree) → Seven (verdict_on look want text t)
  seven-verdict t =
      seven-result want (length text) (kinds_of (λ p n. look (name_at text p)) t) (seven-kinds (λ p n. look (name_at text p)) t)

  module _ (r : Refusal) where
    -- either its text is, or the kinds of its tree
    data From : Judged Tree → Type 0 where
      text-refused : From (refused r)
      kinds-refused : (t : Tree) → verdict_on look want text t ≡ Err r → From (fine t)

    by-verdict : (v : Result Kinds Refusal) (t : Tree) → by_kinds (answer_of v) text t ≡ refused r → v ≡ Err r
    by-verdict (Err q) t e = ap (λ j. Err (refusal_in q j)) e
    by-verdict (Ok k) t e = absurd (false≢true (sym (ap is_fine e)))

    from-judged : (j : Judged Tree) → on_fine j (λ t. by_kinds (answer_of (verdict_on look want text t)) text t) ≡ refused r → From j
    from-judged (refused q) e = subst (λ x. From (refused x)) (sym (ap (refusal_in q) e)) text-refused
    from-judged (fine t) e = kinds-refused t (by-verdict (verdict_on look want text t) t e)

    refused-from : expression_of look want text ≡ refused r → From (judged_of text)
    unfolding expression_of
    refused-from e = from-judged (judged_of text) e

  module _ (p : ℕ) where
    pub four-judged : expression_of look want text ≡ refused (refusal_at reason.Grammar p) → judged_of text ≡ refused (refusal_at reason.Grammar p)
    four-judged e = go (judged_of text) (refused-from (refusal_at reason.Grammar p) e)
      where
        go : (j : Judged Tree) → From (refusal_at reason.Grammar p) j → j ≡ refused (refusal_at reason.Grammar p)
        go (refused q) text-refused = refl
        go (fine x) (kinds-refused t v) = absurd (let n : ◌≡◌ {A = ℕ} 4 7 = ap reason_number (subst Seven v (seven-verdict t)) in omega arith)

    pub seven-judged : expression_of look want text ≡ refused (refusal_at reason.Kinds p) → (t : Tree) × (judged_of text ≡ fine t) × (verdict_on look want text t ≡ Err (refusal_at reason.Kinds p))
    seven-judged e = go (judged_of text) refl (refused-from (refusal_at reason.Kinds p) e)
      where
        go : (j : Judged Tree) → judged_of text ≡ j → From (refusal_at reason.Kinds p) j → (t : Tree) × (judged_of text ≡ fine t) × (verdict_on look want text t ≡ Err (refusal_at reason.Kinds p))
        go (refused q) h text-refused = absurd (omega (arith, judged-below text (refusal_at reason.Kinds p) h))
        go (fine x) h (kinds-refused t v) = (t, h, v)

  -- behind 1 to 6 it is refused with 7 exactly if the checker refuses its tree
  pub seven-exactly : (t : Tree) → judged_of text ≡ fine t → ((p : ℕ) × (expression_of look want text ≡ refused (refusal_at reason.Kinds p))) ↔ T (is_refused (answer_of (verdict_on look want text t)))
  unfolding expression_of
  seven-exactly t judged = rw judged ((λ r. to (verdict_on look want text t) r.1), from (verdict_on look want text t) (seven-verdict t))
    where
      to : (v : Result Kinds Refusal) {p : ℕ} → by_kinds (answer_of v) text t ≡ refused (refusal_at reason.Kinds p) → T (is_refused (answer_of v))
      to (Err r) e = tt
      to (Ok k) e = absurd (false≢true (sym (ap is_fine e)))

      from : (v : Result Kinds Refusal) → Seven v → T (is_refused (answer_of v)) → (p : ℕ) × (by_kinds (answer_of v) text t ≡ refused (refusal_at reason.Kinds p))
      from (Err r) h i = (r.place, ap (λ n. refused (refusal_at n r.place)) h)
      from (Ok k) h i = absurd i

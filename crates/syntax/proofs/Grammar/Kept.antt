-- What the pieces of a parser keep, the parser keeps: any relation between parsers over two streams, the second with as many steps or more.
use mathlib.Core.Bool.{Bool}
use mathlib.Core.List.{List}
use mathlib.Core.Option.{Option}
use Prim.Native.Nat.{ℕ, zero, suc, ◌≤◌}
use native.Mathlib.Omega.{arith}
use Rattle.tree.specs.Tree.{Tree, Arguments, pick, binary}
use Rattle.syntax.specs.Symbol.{question, colon, open_round, close_round, open_square, close_square, comma, dot, word, is, is_literal, is_index, index_of, is_word, is_prefix, levels, has_precedence, member_of}
use Rattle.syntax.specs.Symbol as symbol
use Rattle.syntax.specs.Parser.{Parse, part, refused, nothing, and_then, ask, at_end, closed, Branches, expression_from}
use Rattle.syntax.specs.Parser.{branches_from, level_from, tail_from, unary_from, postfix_from, picks_from, primary_from, call_from}
use Rattle.syntax.specs.Parser.{arguments_from, whole_from}
use Rattle.syntax.specs.declared.symbol.Symbol.{Symbol}

-- as many steps, or more
pub data Le : ℕ → ℕ → Type 0 where
  le-zero : (g : ℕ) → Le zero g
  le-suc : {f g : ℕ} → Le f g → Le (suc f) (suc g)

pub le_of : (f g : ℕ) → f ≤ g → Le f g
le_of zero g l = le-zero g
le_of (suc f) zero l = absurd (omega arith)
le_of (suc f) (suc g) l = le-suc (le_of f g (omega arith))

pub record Kept {S T : Type 0} (after : S → Option (Symbol × S)) (after' : T → Option (Symbol × T)) (R : (A : Type 0) → (S → Parse S A) → (T → Parse T A) → Type 0) : Type 1 where
  pub kept-part : {A : Type 0} {a : A} → R A (part a) (part a)
  pub kept-refused : {A : Type 0} → R A refused refused
  pub kept-nothing : {A : Type 0} {n : T → Parse T A} → R A nothing n
  pub kept-end : {A : Type 0} (a : A) → R A (at_end after a) (at_end after' a)
  pub kept_then : {A B : Type 0} {m : S → Parse S A} {n : T → Parse T A} {k : A → S → Parse S B} {l : A → T → Parse T B} → R A m n → ((a : A) → R B (k a) (l a)) → R B (and_then m k) (and_then n l)
  pub kept-ask : {A : Type 0} {y : Symbol → S → Parse S A} {y' : Symbol → T → Parse T A} {n : S → Parse S A} {n' : T → Parse T A} (test : Symbol → Bool) → ((x : Symbol) → R A (y x) (y' x)) → R A n n' → R A (ask after test y n) (ask after' test y' n')

module _ {S T : Type 0} {after : S → Option (Symbol × S)} {after' : T → Option (Symbol × T)} {R : (A : Type 0) → (S → Parse S A) → (T → Parse T A) → Type 0} (text : List ℕ) (K : Kept after after' R) where
  open K use {kept-part, kept-refused, kept-nothing, kept-end, kept_then, kept-ask}

  closed-kept : (A : Type 0) (a : A) → R A (closed after a) (closed after' a)
  closed-kept A a = kept-ask (is close_round) (λ z. kept-part) kept-refused

  mutual
    unfolding expression_from

    expression-kept : {f g : ℕ} → Le f g → R Tree (expression_from text after f) (expression_from text after' g)
    expression-kept (le-zero g) = kept-nothing
    expression-kept (le-suc h) = kept_then (level-kept h levels) (λ c. kept-ask (is question) (λ x. kept_then (branches-kept h) (λ b. kept-part)) kept-part)

    branches-kept : {f g : ℕ} → Le f g → R Branches (branches_from text after f) (branches_from text after' g)
    branches-kept (le-zero g) = kept-nothing
    branches-kept (le-suc h) = kept_then (expression-kept h) (λ a. kept-ask (is colon) (λ y. kept_then (expression-kept h) (λ b. kept-part)) kept-refused)

    level-kept : {f g : ℕ} → Le f g → (k : ℕ) → R Tree (level_from text after f k) (level_from text after' g k)
    level-kept (le-zero g) k = kept-nothing
    level-kept (le-suc h) zero = unary_kept h
    level-kept (le-suc h) (suc k) = kept_then (level-kept h k) (λ e. tail-kept h k e)

    tail-kept : {f g : ℕ} → Le f g → (k : ℕ) (e : Tree) → R Tree (tail_from text after f k e) (tail_from text after' g k e)
    tail-kept (le-zero g) k e = kept-nothing
    tail-kept (le-suc h) k e = kept-ask (has_precedence (suc k)) (λ x. kept_then (level-kept h k) (λ d. tail-kept h k (binary x.at x.number e d))) kept-part

    unary_kept : {f g : ℕ} → Le f g → R Tree (unary_from text after f) (unary_from text after' g)
    unary_kept (le-zero g) = kept-nothing
    unary_kept (le-suc h) = kept-ask is_prefix (λ x. kept_then (unary_kept h) (λ e. kept-part)) (postfix-kept h)

    postfix-kept : {f g : ℕ} → Le f g → R Tree (postfix_from text after f) (postfix_from text after' g)
    postfix-kept (le-zero g) = kept-nothing
    postfix-kept (le-suc h) = kept_then (primary-kept h) (λ e. picks-kept h e)

    picks-kept : {f g : ℕ} → Le f g → (e : Tree) → R Tree (picks_from text after f e) (picks_from text after' g e)
    picks-kept (le-zero g) e = kept-nothing
    picks-kept (le-suc h) e =
        kept-ask (is dot) (λ x. kept-ask is_word (λ y. picks-kept h (pick x.at (member_of text y) e)) kept-refused)
        (kept-ask (is open_square) (λ x. kept-ask is_index (λ y. kept-ask (is close_square) (λ z. picks-kept h (pick x.at (index_of y) e)) kept-refused) kept-refused)
        kept-part)

    primary-kept : {f g : ℕ} → Le f g → R Tree (primary_from text after f) (primary_from text after' g)
    primary-kept (le-zero g) = kept-nothing
    primary-kept (le-suc h) =
        kept-ask is_literal (λ x. kept-part)
        (kept-ask (is symbol.variable) (λ x. kept-part)
        (kept-ask (is open_round) (λ x. kept_then (expression-kept h) (λ e. closed-kept Tree e))
        (kept-ask (is word) (λ x. call_kept h x) kept-refused)))

    call_kept : {f g : ℕ} → Le f g → (x : Symbol) → R Tree (call_from text after f x) (call_from text after' g x)
    call_kept (le-zero g) x = kept-nothing
    call_kept (le-suc h) x =
        kept-ask (is open_round) (λ y.
        kept-ask (is close_round) (λ z. kept-part)
        (kept_then (kept_then (arguments-kept h) (λ xs. closed-kept Arguments xs)) (λ xs. kept-part))) kept-refused

    arguments-kept : {f g : ℕ} → Le f g → R Arguments (arguments_from text after f) (arguments_from text after' g)
    arguments-kept (le-zero g) = kept-nothing
    arguments-kept (le-suc h) =
        kept_then (expression-kept h) (λ e. kept-ask (is comma) (λ x. kept_then (arguments-kept h) (λ xs. kept-part)) kept-part)

  pub whole-kept : {f g : ℕ} → Le f g → R Tree (whole_from text after f) (whole_from text after' g)
  whole-kept h = kept_then (expression-kept h) (λ e. kept-end e)

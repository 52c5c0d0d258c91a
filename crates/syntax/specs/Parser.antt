-- The parser: page 01, "Tokens and grammar". Each level of precedence is a parser, put together from a few pieces; the levels call each
-- other, with steps to spend, over any stream that gives its next symbol and what follows. It takes what the grammar of `Grammar.antt`
-- derives and nothing else, and refuses where `Place.antt` says: proofs/Grammar/Text.antt.
use Rattle.std.specs.Prelude.{Bool, true, false, List, ℕ, zero, suc, ◌+◌, ◌*◌, length}
use Rattle.std.proofs.Math.Option.{Option, none, some}
use Rattle.tree.specs.Tree.{Tree, literal, unary, binary, conditional, bare, call, pick, Arguments, last, next}
use Rattle.tree.specs.Tree as tree
use Rattle.syntax.specs.Symbol.{question, colon, open_round, close_round, open_square, close_square, comma, dot, word, end, symbol_at}
use Rattle.syntax.specs.Symbol.{is, is_literal, form_of, is_index, index_of, is_word, is_prefix, precedence_of, levels, has_precedence}
use Rattle.syntax.specs.Symbol.{function_of, member_of}
use Rattle.syntax.specs.Symbol as symbol
use Rattle.syntax.specs.declared.symbol.Symbol.{Symbol}

-- ---- pieces

-- a part of an expression and what is left of the stream; a refusal and what is left, the refused symbol first; or no steps are left
pub data Parse (S A : Type 0) : Type 0 where
  part : A → S → Parse S A
  refused : S → Parse S A
  spent : Parse S A

module _ {S A : Type 0} where
  abbrev pub nothing : S → Parse S A
  nothing s = spent

  abbrev pub on_part : {B : Type 0} → Parse S A → (A → S → Parse S B) → Parse S B
  on_part (part e s) k = k e s
  on_part (refused s) k = refused s
  on_part spent k = spent

  -- one part and then another
  unfoldable pub and_then : {B : Type 0} → (S → Parse S A) → (A → S → Parse S B) → S → Parse S B
  and_then m k s = on_part (m s) k

  abbrev pub tested : Bool → (Unit {0} → Parse S A) → (Unit {0} → Parse S A) → Parse S A
  tested true y n = y tt
  tested false y n = n tt

  abbrev pub on_next : Option (Symbol × S) → (Symbol → Bool) → (Symbol → S → Parse S A) → (Unit {0} → Parse S A) → Parse S A
  on_next none test y n = n tt
  on_next (some x) test y n = tested (test x.0) (λ _. y x.0 x.1) n

  -- if the next symbol passes the test, y behind it, else n before it
  unfoldable pub ask : (S → Option (Symbol × S)) → (Symbol → Bool) → (Symbol → S → Parse S A) → (S → Parse S A) → S → Parse S A
  ask following test y n s = on_next (following s) test y (λ _. n s)

  abbrev pub expect : (S → Option (Symbol × S)) → (Symbol → Bool) → (Symbol → S → Parse S A) → S → Parse S A
  expect following test y = ask following test y refused

  abbrev pub ended : Option (Symbol × S) → A → S → Parse S A
  ended none e s = part e s
  ended (some x) e s = refused s

  -- nothing may follow
  unfoldable pub at_end : (S → Option (Symbol × S)) → A → S → Parse S A
  at_end following e s = ended (following s) e s

  -- the bracket that closes comes next
  abbrev pub closed : (S → Option (Symbol × S)) → A → S → Parse S A
  closed following e = expect following (is close_round) (λ x. part e)

-- ---- the levels

-- the two branches of a conditional, and the place of the `:` between them
pub data Branches : Type 0 where
  branches : ℕ → Tree → Tree → Branches

abbrev pub chosen : ℕ → Tree → Branches → Tree
chosen p c (branches q a b) = conditional p q c a b

module _ (text : List ℕ) {S : Type 0} (following : S → Option (Symbol × S)) where
  unfoldable mutual
    -- "a conditional nests to its right and its middle is a whole expression"
    pub expression_from : ℕ → S → Parse S Tree
    expression_from zero = nothing
    expression_from (suc f) =
        and_then (level_from f levels) (λ c.
        ask following (is question) (λ x. and_then (branches_from f) (λ b. part (chosen x.at c b)))
        (part c))

    pub branches_from : ℕ → S → Parse S Branches
    branches_from zero = nothing
    branches_from (suc f) =
        and_then (expression_from f) (λ a.
        expect following (is colon) (λ x. and_then (expression_from f) (λ b. part (branches x.at a b))))

    -- binary operators of the levels 1 to k: "Binary operators group to the left"
    pub level_from : ℕ → ℕ → S → Parse S Tree
    level_from zero k = nothing
    level_from (suc f) zero = unary_from f
    level_from (suc f) (suc k) = and_then (level_from f k) (λ e. tail_from f k e)

    -- the operators of the level k + 1 that follow an operand
    pub tail_from : ℕ → ℕ → Tree → S → Parse S Tree
    tail_from zero k e = nothing
    tail_from (suc f) k e =
        ask following (has_precedence (suc k)) (λ x. and_then (level_from f k) (λ d. tail_from f k (binary x.at x.number e d)))
        (part e)

    pub unary_from : ℕ → S → Parse S Tree
    unary_from zero = nothing
    unary_from (suc f) = ask following is_prefix (λ x. and_then (unary_from f) (λ e. part (unary x.at x.number e))) (postfix_from f)

    pub postfix_from : ℕ → S → Parse S Tree
    postfix_from zero = nothing
    postfix_from (suc f) = and_then (primary_from f) (λ e. picks_from f e)

    -- "A pick is `.` and a word, or `[0]` to `[3]`"
    pub picks_from : ℕ → Tree → S → Parse S Tree
    picks_from zero e = nothing
    picks_from (suc f) e =
        ask following (is dot) (λ x. expect following is_word (λ y. picks_from f (pick x.at (member_of text y) e)))
        (ask following (is open_square) (λ x.
        expect following is_index (λ y. expect following (is close_square) (λ z. picks_from f (pick x.at (index_of y) e))))
        (part e))

    -- "A primary is a number, string, variable, `true`, `false`, `null`, `undefined`, `NaN`, `Infinity`, a call, or brackets: a bracketed
    -- expression holds a whole expression again."
    pub primary_from : ℕ → S → Parse S Tree
    primary_from zero = nothing
    primary_from (suc f) =
        ask following is_literal (λ x. part (literal x.at (form_of x)))
        (ask following (is symbol.variable) (λ x. part (tree.variable x.at 0))
        (ask following (is open_round) (λ x. and_then (expression_from f) (closed following))
        (ask following (is word) (λ x. call_from f x) refused)))

    -- the arguments of the word x
    pub call_from : ℕ → Symbol → S → Parse S Tree
    call_from zero x = nothing
    call_from (suc f) x =
        expect following (is open_round) (λ y.
        ask following (is close_round) (λ z. part (bare x.at (function_of text x)))
        (and_then (and_then (arguments_from f) (closed following)) (λ xs. part (call x.at (function_of text x) xs))))

    pub arguments_from : ℕ → S → Parse S Arguments
    arguments_from zero = nothing
    arguments_from (suc f) =
        and_then (expression_from f) (λ e.
        ask following (is comma) (λ x. and_then (arguments_from f) (λ xs. part (next e x.at xs)))
        (part (last e)))

  abbrev pub whole_from : ℕ → S → Parse S Tree
  whole_from f = and_then (expression_from f) (at_end following)

-- ---- the tree of a text

-- a text as a stream: its state is the symbol that comes next
abbrev pub followed : Bool → List ℕ → Symbol → Option (Symbol × Symbol)
followed true text x = none
followed false text x = some (x, symbol_at text x.end)

abbrev pub in_text : List ℕ → Symbol → Option (Symbol × Symbol)
in_text text x = followed (is end x) text x

-- more than a symbol takes, which is a step at each level at most
abbrev pub steps_each : ℕ
steps_each = 32

-- a symbol has a byte at least
abbrev pub steps_for : List ℕ → ℕ
steps_for text = length text * steps_each + steps_each

-- The tree of a text, or the symbol at which it is refused with 4.
unfoldable pub parse_of : List ℕ → Parse Symbol Tree
unfolding symbol_at is_prefix precedence_of and_then ask at_end expression_from
parse_of text = whole_from text (in_text text) (steps_for text) (symbol_at text 0)

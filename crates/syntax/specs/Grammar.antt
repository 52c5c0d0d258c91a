-- The grammar: page 01, "Tokens and grammar". Which symbols are an expression, and of which tree: a relation, apart from any parser. Each
-- rule is one way to put together what a nonterminal stands for; where operators group to the left, the rule has its own nonterminal on its
-- left.
use Rattle.std.specs.Prelude.{◌≡◌, true, List, [], ◌∷◌, ◌++◌, ℕ, zero, suc}
use Rattle.tree.specs.Tree.{Tree, Arguments}
use Rattle.tree.specs.Tree as tree
use Rattle.syntax.specs.Symbol.{question, colon, open_round, close_round, open_square, close_square, comma, dot, word, is, levels}
use Rattle.syntax.specs.Symbol.{is_literal, form_of, is_index, index_of, is_word, is_prefix, has_precedence, function_of, member_of}
use Rattle.syntax.specs.Symbol as symbol
use Rattle.syntax.specs.declared.symbol.Symbol.{Symbol}

-- "Precedence, lowest first", each with all that bind more: conditionals; the binary operators of the levels 1 to k; unary operators;
-- picks; primaries. And the arguments of a call.
pub data Nonterminal : Type 0 where
  expression : Nonterminal
  binary : ℕ → Nonterminal
  unary postfix primary arguments : Nonterminal

-- what stands for its symbols in the tree
abbrev pub TreeOf : Nonterminal → Type 0
TreeOf expression = Tree
TreeOf (binary k) = Tree
TreeOf unary = Tree
TreeOf postfix = Tree
TreeOf primary = Tree
TreeOf arguments = Arguments

-- one symbol
abbrev pub ‹◌› : Symbol → List Symbol
‹ x › = x ∷ []

-- The text is there for the words' sake: of a call the tree has the function's number, and of a pick the member's.
module _ (text : List ℕ) where
  pub data Derives : (of : Nonterminal) → List Symbol → TreeOf of → Type 0 where
    -- expression := binary 6 | binary 6 `?` expression `:` expression
    -- "a conditional nests to its right and its middle is a whole expression"
    expression-binary : {xs : List Symbol} {e : Tree} → Derives (binary levels) xs e → Derives expression xs e
    conditional : {xs ys zs : List Symbol} {c a b : Tree} (x y : Symbol) →
        is question x ≡ true →
        is colon y ≡ true →
        Derives (binary levels) xs c →
        Derives expression ys a →
        Derives expression zs b →
        Derives expression (xs ++ ‹ x › ++ ys ++ ‹ y › ++ zs) (tree.conditional x.at y.at c a b)
    -- binary 0 := unary;  binary (k + 1) := binary k | binary (k + 1) operator binary k, with an operator of the level k + 1
    -- "Binary operators group to the left"
    binary-unary : {xs : List Symbol} {e : Tree} → Derives unary xs e → Derives (binary zero) xs e
    binary-lower : {k : ℕ} {xs : List Symbol} {e : Tree} → Derives (binary k) xs e → Derives (binary (suc k)) xs e
    binary-operation : {k : ℕ} {xs ys : List Symbol} {a b : Tree} (x : Symbol) →
        has_precedence (suc k) x ≡ true →
        Derives (binary (suc k)) xs a →
        Derives (binary k) ys b →
        Derives (binary (suc k)) (xs ++ ‹ x › ++ ys) (tree.binary x.at x.number a b)
    -- unary := postfix | `+` unary | `-` unary | `!` unary
    unary-postfix : {xs : List Symbol} {e : Tree} → Derives postfix xs e → Derives unary xs e
    unary-operation : {xs : List Symbol} {e : Tree} (x : Symbol) →
        is_prefix x ≡ true →
        Derives unary xs e →
        Derives unary (‹ x › ++ xs) (tree.unary x.at x.number e)
    -- postfix := primary | postfix `.` word | postfix `[` index `]`
    -- "A pick is `.` and a word, or `[0]` to `[3]`"
    postfix-primary : {xs : List Symbol} {e : Tree} → Derives primary xs e → Derives postfix xs e
    member : {xs : List Symbol} {e : Tree} (x y : Symbol) →
        is dot x ≡ true →
        is_word y ≡ true →
        Derives postfix xs e →
        Derives postfix (xs ++ ‹ x › ++ ‹ y ›) (tree.pick x.at (member_of text y) e)
    index : {xs : List Symbol} {e : Tree} (x y z : Symbol) →
        is open_square x ≡ true →
        is_index y ≡ true →
        is close_square z ≡ true →
        Derives postfix xs e →
        Derives postfix (xs ++ ‹ x › ++ ‹ y › ++ ‹ z ›) (tree.pick x.at (index_of y) e)
    -- primary := literal | variable | word `(` `)` | word `(` arguments `)` | `(` expression `)`
    -- "A primary is a number, string, variable, `true`, `false`, `null`, `undefined`, `NaN`, `Infinity`, a call, or brackets: a bracketed
    -- expression holds a whole expression again."
    literal : (x : Symbol) → is_literal x ≡ true → Derives primary ‹ x › (tree.literal x.at (form_of x))
    variable : (x : Symbol) → is symbol.variable x ≡ true → Derives primary ‹ x › (tree.variable x.at 0)
    bare : (x y z : Symbol) →
        is word x ≡ true →
        is open_round y ≡ true →
        is close_round z ≡ true →
        Derives primary (‹ x › ++ ‹ y › ++ ‹ z ›) (tree.bare x.at (function_of text x))
    call : {xs : List Symbol} {args : Arguments} (x y z : Symbol) →
        is word x ≡ true →
        is open_round y ≡ true →
        is close_round z ≡ true →
        Derives arguments xs args →
        Derives primary (‹ x › ++ ‹ y › ++ xs ++ ‹ z ›) (tree.call x.at (function_of text x) args)
    brackets : {xs : List Symbol} {e : Tree} (x y : Symbol) →
        is open_round x ≡ true →
        is close_round y ≡ true →
        Derives expression xs e →
        Derives primary (‹ x › ++ xs ++ ‹ y ›) e
    -- arguments := expression | expression `,` arguments
    last : {xs : List Symbol} {e : Tree} → Derives expression xs e → Derives arguments xs (tree.last e)
    next : {xs ys : List Symbol} {e : Tree} {args : Arguments} (x : Symbol) →
        is comma x ≡ true →
        Derives expression xs e →
        Derives arguments ys args →
        Derives arguments (xs ++ ‹ x › ++ ys) (tree.next e x.at args)

-- Operators by their punctuators' numbers: page 01, "Tokens and grammar" and "Kinds and meaning".
use Rattle.std.specs.Prelude.{true, false, List, [], ◌∷◌, ℕ, eqb, Option, Some, None}
use Rattle.lexer.specs.Bytes.{place_in, ascii}
use Rattle.lexer.specs.Punctuator.{punctuators}
use Rattle.kind.specs.declared.operation.Unary.TheVariants.{Plus, Minus}
use Rattle.kind.specs.declared.operation.Binary.TheVariants.{Add, Subtract, Multiply, Divide, Remainder}
use Rattle.kind.specs.declared.operation.Logic.TheVariants.{Not, And, Or}
use Rattle.kind.specs.declared.operation.Order.TheVariants.{Less, LessEqual, Greater, GreaterEqual}
use Rattle.kind.specs.declared.operation.Equality.TheVariants.{Equal, NotEqual}
use Rattle.kind.specs.declared.operation.Operation.TheVariants as op
use Rattle.value.specs.Name.{Function, function}
use Rattle.kind.specs.declared.operation.Operation.{Operation}

abbrev pub prefixes : List Function
prefixes = function (ascii "+") (op.Unary Plus) ∷ function (ascii "-") (op.Unary Minus) ∷ function (ascii "!") (op.Logic Not) ∷ []

abbrev pub infixes : List Function
infixes =
    function (ascii "||") (op.Logic Or)
    ∷ function (ascii "&&") (op.Logic And)
    ∷ function (ascii "===") (op.Equality Equal)
    ∷ function (ascii "!==") (op.Equality NotEqual)
    ∷ function (ascii "<") (op.Order Less)
    ∷ function (ascii "<=") (op.Order LessEqual)
    ∷ function (ascii ">") (op.Order Greater)
    ∷ function (ascii ">=") (op.Order GreaterEqual)
    ∷ function (ascii "+") (op.Binary Add)
    ∷ function (ascii "-") (op.Binary Subtract)
    ∷ function (ascii "*") (op.Binary Multiply)
    ∷ function (ascii "/") (op.Binary Divide)
    ∷ function (ascii "%") (op.Binary Remainder)
    ∷ []

-- the one of some operators whose punctuator has a number
abbrev pub numbered_in : List Function → ℕ → Option Operation
numbered_in [] n = None
numbered_in (function s o ∷ fs) n = elim (eqb n (place_in punctuators s)) [ true ↦ Some o | false ↦ numbered_in fs n ]

unfoldable pub prefix_at : ℕ → Option Operation
prefix_at n = numbered_in prefixes n

unfoldable pub infix_at : ℕ → Option Operation
infix_at n = numbered_in infixes n

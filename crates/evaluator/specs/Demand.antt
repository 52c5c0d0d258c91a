-- What the theorems about checked expressions speak of: page 01, "Kinds and meaning" and "What each answer owes".
use Rattle.std.specs.Prelude.{◌≡◌, Bool, true, false, not, ◌&&◌, ℕ, T, Option, Some, None}
use Rattle.lexer.specs.Refusal.{Judged, refused, fine}
use Rattle.kind.specs.Set.{has}
use Rattle.kind.specs.declared.set.Kinds.{Kinds}
use Rattle.value.specs.Value.{kind_of}
use Rattle.value.specs.declared.value.Value.{Value}
use Rattle.value.specs.declared.value.Value.TheVariants.{Undefined, Null}
use Rattle.tree.specs.Tree.{Tree, literal, variable, unary, binary, conditional, bare, call, pick, Arguments, last, next}
use Rattle.checker.specs.Operator.{infix_at}
use Rattle.checker.specs.Property.{Property, undeclared, declared, property_kinds}
use Rattle.checker.specs.Kinds.{taken_by}
use Rattle.checker.specs.declared.check.Wanted.{Wanted}
use Rattle.evaluator.specs.Eval.{need_of}
use Rattle.evaluator.specs.declared.need.Need.{Need}
use Rattle.evaluator.specs.declared.need.Need.TheVariants.{Both, UntilTrue, UntilFalse}

-- ---- values that conform

-- what a variable comes to conforms to a set: it is a value of one of its kinds
abbrev pub Conforms : Kinds → Option Value → Type 0
Conforms s None = ⊥
Conforms s (Some v) = T (has s (kind_of v))

-- a value that a property may have
abbrev pub Allowed : Property → Value → Type 0
Allowed p v = Conforms (property_kinds p) (Some v)

-- the worst value that a property may have: none if it may be absent, else null if it may be null, else any of its type
abbrev pub Worst : Property → Value → Type 0
Worst undeclared v = v ≡ Undefined
Worst (declared t true n) v = v ≡ Undefined
Worst (declared t false true) v = v ≡ Null
Worst (declared t false false) v = kind_of v ≡ t

-- ---- the variables of an expression

-- each of them is as asked, by its place and its number
unfoldable mutual
  pub Variables : (ℕ → ℕ → Type 0) → Tree → Type 0
  Variables P (literal p k) = Unit {0}
  Variables P (variable p n) = P p n
  Variables P (unary p o e) = Variables P e
  Variables P (binary p o l r) = Variables P l × Variables P r
  Variables P (conditional p q c a b) = Variables P c × Variables P a × Variables P b
  Variables P (bare p f) = Unit {0}
  Variables P (call p f xs) = VariablesOf P xs
  Variables P (pick p i e) = Variables P e

  pub VariablesOf : (ℕ → ℕ → Type 0) → Arguments → Type 0
  VariablesOf P (last e) = Variables P e
  VariablesOf P (next e q xs) = Variables P e × VariablesOf P xs

-- ---- expressions without conditional, `&&` or `||`

abbrev pub needs_both : Need → Bool
needs_both Both = true
needs_both UntilTrue = false
needs_both UntilFalse = false

abbrev mutual
  pub plain : Tree → Bool
  plain (literal p k) = true
  plain (variable p n) = true
  plain (unary p o e) = plain e
  plain (binary p o l r) = needs_both (need_of (infix_at o)) && (plain l && plain r)
  plain (conditional p q c a b) = false
  plain (bare p f) = true
  plain (call p f xs) = plain_all xs
  plain (pick p i e) = plain e

  pub plain_all : Arguments → Bool
  plain_all (last e) = plain e
  plain_all (next e q xs) = plain e && plain_all xs

-- ---- refused, and failing

abbrev pub is_refused : Judged Kinds → Bool
is_refused (refused r) = true
is_refused (fine s) = false

-- it faults ("to meet a kind or count not taken is what this page calls a fault"), or ends in a kind that is not wanted
abbrev pub fails : Wanted → Option Value → Bool
fails want None = true
fails want (Some v) = not (has (taken_by want) (kind_of v))

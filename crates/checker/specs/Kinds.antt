-- The kinds of an expression: page 01, "Kinds and meaning" ("The checker gives each node a set of kinds") and number 7 of "Refusal
-- numbers".
use Rattle.std.specs.Prelude.{true, cond, List, [], ◌∷◌, ℕ, get_or, Option, Some, None, Result, Ok, Err}
use Rattle.lexer.specs.Refusal.{refusal_at, Judged, refused, fine}
use Rattle.kind.specs.Set.{set_of, single_of, union_of, within_of}
use Rattle.kind.specs.Choice.{node_kinds}
use Rattle.kind.specs.declared.kind.Kind.{Kind}
use Rattle.kind.specs.declared.kind.Kind.TheVariants.{Undefined, Null, Boolean, Number, String, Vec4}
use Rattle.kind.specs.declared.set.Kinds.{Kinds}
use Rattle.value.specs.Name.{function_at, pick_at}
use Rattle.tree.specs.Tree.{Tree, literal, variable, unary, binary, conditional, bare, call, pick, Arguments, last, next}
use Rattle.checker.specs.Operator.{prefix_at, infix_at}
use Rattle.checker.specs.declared.check.Wanted.{Wanted}
use Rattle.checker.specs.declared.check.Wanted.TheVariants as wanted
use Rattle.kind.specs.declared.operation.Operation.{Operation}
use Rattle.lexer.specs.declared.refusal.Refusal.{Refusal}
use Rattle.lexer.specs.declared.refusal.Reason.TheVariants as reason

-- a literal's kind by its form: a number, a string, and the literal words
abbrev pub literal_kinds : List Kind
literal_kinds = Number ∷ String ∷ Boolean ∷ Boolean ∷ Null ∷ Undefined ∷ Number ∷ Number ∷ []

abbrev pub literal_kind : ℕ → Kind
literal_kind k = get_or literal_kinds k Undefined

-- ---- a node

-- "kinds, or a count of arguments", at a place
abbrev pub wrong_at : ℕ → Result Kinds Refusal
wrong_at p = Err (refusal_at reason.Kinds p)

abbrev pub after : Kinds → Judged (List Kinds) → Judged (List Kinds)
after s (refused r) = refused r
after s (fine ss) = fine (s ∷ ss)

-- the first refusal of some parts, "left to right", or their sets
abbrev pub gathered : List (Result Kinds Refusal) → Judged (List Kinds)
gathered [] = fine []
gathered (Err r ∷ vs) = refused r
gathered (Ok s ∷ vs) = after s (gathered vs)

-- a node's own answer, at its place
abbrev pub placed : ℕ → Option Kinds → Result Kinds Refusal
placed p None = wrong_at p
placed p (Some s) = Ok s

-- "the first by its parts before itself"; a name that is not known takes nothing
abbrev pub operated : ℕ → Option Operation → Judged (List Kinds) → Result Kinds Refusal
operated p found (refused r) = Err r
operated p (Some o) (fine ss) = placed p (node_kinds o ss)
operated p None (fine ss) = wrong_at p

abbrev pub node_of : ℕ → Option Operation → List (Result Kinds Refusal) → Result Kinds Refusal
node_of p found vs = operated p found (gathered vs)

-- "the test of `? :`: Boolean", "a conditional both branches' sets"
abbrev pub conditional_of : ℕ → Result Kinds Refusal → Result Kinds Refusal → Result Kinds Refusal → Result Kinds Refusal
conditional_of p (Err r) a b = Err r
conditional_of p (Ok t) (Err r) b = Err r
conditional_of p (Ok t) (Ok a) (Err r) = Err r
conditional_of p (Ok t) (Ok a) (Ok b) = cond (within_of t (single_of Boolean)) (Ok (union_of a b)) (wrong_at p)

-- ---- an expression

-- The set of an expression, or its refusal. The look-up gives the set of a variable, from its place and its number. Both branches of a
-- conditional and both sides of `&&` and `||` are looked at:
-- "branches never worked out are checked too".
unfoldable mutual
  pub kinds_of : (ℕ → ℕ → Kinds) → Tree → Result Kinds Refusal
  kinds_of look (literal p k) = Ok (single_of (literal_kind k))
  kinds_of look (variable p n) = Ok (look p n)
  kinds_of look (unary p o e) = node_of p (prefix_at o) (kinds_of look e ∷ [])
  kinds_of look (binary p o l r) = node_of p (infix_at o) (kinds_of look l ∷ kinds_of look r ∷ [])
  kinds_of look (conditional p q c a b) = conditional_of p (kinds_of look c) (kinds_of look a) (kinds_of look b)
  kinds_of look (bare p f) = node_of p (function_at f) []
  kinds_of look (call p f xs) = node_of p (function_at f) (kinds_of_all look xs)
  kinds_of look (pick p i e) = node_of p (pick_at i) (kinds_of look e ∷ [])

  pub kinds_of_all : (ℕ → ℕ → Kinds) → Arguments → List (Result Kinds Refusal)
  kinds_of_all look (last e) = kinds_of look e ∷ []
  kinds_of_all look (next e q xs) = kinds_of look e ∷ kinds_of_all look xs

-- ---- its result

-- "`show` and conditions must end in Boolean, colours in vec4, defines in any kind."
abbrev pub taken_by : Wanted → Kinds
taken_by wanted.Boolean = single_of Boolean
taken_by wanted.Vec4 = single_of Vec4
taken_by wanted.Any = set_of (λ k. true)

-- "the end, for a wrong result"
abbrev pub result_of : Wanted → ℕ → Result Kinds Refusal → Result Kinds Refusal
result_of want end (Err r) = Err r
result_of want end (Ok s) = cond (within_of s (taken_by want)) (Ok s) (wrong_at end)

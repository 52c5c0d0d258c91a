-- What the private functions promise. No public promise names anything of this file.
use Rattle.std.specs.Prelude.{◌≡◌, cond, List, ℕ, ◌+◌, ◌*◌, ◌-◌, ◌<◌, ◌≤◌, leb, length, Option, Some, None, Ok, Err, Result}
use Rattle.lexer.specs.Refusal as judged
use Rattle.lexer.specs.Refusal.{refusal_at, Judged}
use Rattle.tree.specs.Tree.{Tree}
use Rattle.tree.specs.Slots.{Shape, root, lay, shape_of, shapes_of, between, colon_tag, store}
use Rattle.tree.specs.Node.{argument_at}
use Rattle.tree.specs.declared.node.Comma.{Comma}
use Rattle.syntax.specs.Sizes.{most_height}
use Rattle.syntax.specs.Symbol.{dot, open_square, close_square, close_round, variable, end}
use Rattle.syntax.specs.Symbol.{is, is_word, is_index, index_of, member_of, symbol_at}
use Rattle.syntax.specs.Parser.{Parse, part, refused, Branches, branches, in_text, parse_of}
use Rattle.syntax.specs.Parser.{expression_from, branches_from, level_from, tail_from, unary_from, postfix_from, picks_from, primary_from}
use Rattle.syntax.specs.Parser.{call_from, arguments_from, steps_each}
use Rattle.syntax.specs.Height.{height_of}
use Rattle.syntax.specs.Names.{unknown_in, lesser, leftmost_of}
use Rattle.syntax.specs.Judge.{root_of, answer_of}
use Rattle.syntax.specs.declared.symbol.Symbol.{Symbol}
use Rattle.syntax.specs.declared.parse.Parsed.{Parsed}
use Rattle.syntax.specs.declared.parse.Pick.{Pick}
use Rattle.lexer.specs.declared.refusal.Refusal.{Refusal}
use Rattle.lexer.specs.declared.refusal.Reason.TheVariants as reason

-- ---- symbols

-- a symbol lies in the text; a token takes a byte at least, and a variable two
pub record Sound (text : List ℕ) (x : Symbol) : Type 0 where
  pub order : x.at ≤ x.end
  pub inside : x.end ≤ length text
  pub moves : x.number < end → x.at < x.end
  pub long : x.number ≡ variable → x.at + 1 < x.end

-- y is the symbol that follows x
pub record Follows (text : List ℕ) (x y : Symbol) : Type 0 where
  pub is : y ≡ symbol_at text x.end
  pub sound : Sound text y
  pub later : x.end ≤ y.at

-- the symbol behind a part follows its root
pub record Goes (text : List ℕ) (t : Parsed) : Type 0 where
  pub sound : Sound text t.next
  pub before : t.root < t.next.at

-- ---- what a level answers, by what the definition gives

-- a tree or a refused symbol
abbrev pub Answer : Type 0
Answer = Result Parsed Symbol

-- a part with its root at a place and a symbol behind it
abbrev pub parsed : ℕ → Symbol → Answer
parsed root next = Ok (record { root = root; next = next })

-- the answer is the definition's part: its root, the symbol behind it, and its nodes written
pub record Good {A : Type 0} (shape : A → Shape) (w v : List ℕ) (t : Parsed) (a : Parse Symbol A) : Type 0 where
  pub tree : A
  pub is : a ≡ part tree t.next
  pub rooted : t.root ≡ root (shape tree)
  pub wrote : v ≡ lay w (shape tree)

abbrev pub Agrees : {A : Type 0} → (A → Shape) → List ℕ → List ℕ → Answer → Parse Symbol A → Type 0
Agrees shape w v (Ok t) a = Good shape w v t a
Agrees shape w v (Err y) a = a ≡ refused y

-- the root lies between where the part began and the symbol behind it
abbrev pub Ahead : List ℕ → ℕ → Answer → Type 0
Ahead text lo (Ok t) = (lo ≤ t.root) × Goes text t
Ahead text lo (Err y) = Unit {0}

-- r, with the slots v after w, is what the definition gives with steps enough
pub record ParsedBy
    {A : Type 0} (shape : A → Shape) (spec : ℕ → Parse Symbol A) (fuel : ℕ) (text w v : List ℕ) (lo : ℕ) (r : Answer) : Type 0 where
  pub ahead : Ahead text lo r
  pub says : (f : ℕ) → fuel ≤ f → Agrees shape w v r (spec f)

-- the same for what goes on from a part that has been written
pub record TailedBy (spec : ℕ → Tree → Symbol → Parse Symbol Tree) (fuel : ℕ) (text w v : List ℕ) (t : Parsed) (r : Answer) : Type 0 where
  pub ahead : Ahead text t.root r
  pub says : (f : ℕ) → fuel ≤ f → (u : List ℕ) (e : Tree) → w ≡ lay u (shape_of e) → t.root ≡ root (shape_of e) →
      Agrees shape_of u v r (spec f e t.next)

-- ---- each level, and the steps that it takes

abbrev pub steps : ℕ → List ℕ → Symbol → ℕ
steps c text x = (length text - x.at) * steps_each + c

abbrev pub branches_shape : Branches → Shape
branches_shape (branches q a b) = between q colon_tag (shape_of a) (shape_of b)

abbrev pub ExpressionBy : List ℕ → List ℕ → List ℕ → Symbol → Answer → Type 0
ExpressionBy text w v x r = ParsedBy shape_of (λ f. expression_from text (in_text text) f x) (steps 12 text x) text w v x.at r

abbrev pub BranchesBy : List ℕ → List ℕ → List ℕ → Symbol → Answer → Type 0
BranchesBy text w v x r = ParsedBy branches_shape (λ f. branches_from text (in_text text) f x) (steps 13 text x) text w v x.at r

abbrev pub LevelBy : ℕ → List ℕ → List ℕ → List ℕ → Symbol → Answer → Type 0
LevelBy k text w v x r = ParsedBy shape_of (λ f. level_from text (in_text text) f k x) (steps (5 + k) text x) text w v x.at r

abbrev pub TailBy : ℕ → List ℕ → List ℕ → List ℕ → Parsed → Answer → Type 0
TailBy k text w v t r = TailedBy (λ f. tail_from text (in_text text) f k) (steps 1 text t.next) text w v t r

abbrev pub UnaryBy : List ℕ → List ℕ → List ℕ → Symbol → Answer → Type 0
UnaryBy text w v x r = ParsedBy shape_of (λ f. unary_from text (in_text text) f x) (steps 4 text x) text w v x.at r

abbrev pub PostfixBy : List ℕ → List ℕ → List ℕ → Symbol → Answer → Type 0
PostfixBy text w v x r = ParsedBy shape_of (λ f. postfix_from text (in_text text) f x) (steps 3 text x) text w v x.at r

abbrev pub PicksBy : List ℕ → List ℕ → List ℕ → Parsed → Answer → Type 0
PicksBy text w v t r = TailedBy (picks_from text (in_text text)) (steps 1 text t.next) text w v t r

abbrev pub PrimaryBy : List ℕ → List ℕ → List ℕ → Symbol → Answer → Type 0
PrimaryBy text w v x r = ParsedBy shape_of (λ f. primary_from text (in_text text) f x) (steps 2 text x) text w v x.at r

abbrev pub CallBy : List ℕ → List ℕ → List ℕ → Symbol → Answer → Type 0
CallBy text w v x r = ParsedBy shape_of (λ f. call_from text (in_text text) f x (symbol_at text x.end)) (steps 1 text x) text w v x.at r

abbrev pub ArgumentsBy : List ℕ → List ℕ → List ℕ → Symbol → Answer → Type 0
ArgumentsBy text w v x r = ParsedBy shapes_of (λ f. arguments_from text (in_text text) f x) (steps 13 text x) text w v x.at r

-- the whole text
pub record WholeBy (text w v : List ℕ) (r : Answer) : Type 0 where
  pub says : Agrees shape_of w v r (parse_of text)

-- ---- what calls no level

abbrev pub picked : ℕ → Symbol → Result Pick Symbol
picked index next = Ok (record { index = index; next = next })

unfoldable pub member_pick_of : List ℕ → Symbol → Result Pick Symbol
member_pick_of text x =
    let y = symbol_at text x.end in
    cond (is_word y) (picked (member_of text y) (symbol_at text y.end)) (Err y)

unfoldable pub index_pick_of : List ℕ → Symbol → Result Pick Symbol
index_pick_of text x =
    let y = symbol_at text x.end in
    let z = symbol_at text y.end in
    cond (is_index y) (cond (is close_square z) (picked (index_of y) (symbol_at text z.end)) (Err z)) (Err y)

-- a pick that has begun
abbrev pub begun : Result Pick Symbol → Result (Option Pick) Symbol
begun (Ok p) = Ok (Some p)
begun (Err y) = Err y

unfoldable pub picking_of : List ℕ → Symbol → Result (Option Pick) Symbol
unfolding member_pick_of index_pick_of
picking_of text x = cond (is dot x) (begun (member_pick_of text x)) (cond (is open_square x) (begun (index_pick_of text x)) (Ok None))

abbrev pub closed_of : List ℕ → Parsed → Answer
closed_of text t = cond (is close_round t.next) (parsed t.root (symbol_at text t.next.end)) (Err t.next)

-- ---- unknown names

-- the leftmost of two
abbrev pub earlier_of : Option ℕ → Option ℕ → Option ℕ
earlier_of (Some p) b = lesser p b
earlier_of None b = b

abbrev pub first_in : Option Comma → ℕ → ℕ
first_in None p = p
first_in (Some c) p = c.first

-- the place of the first of the arguments at a place
abbrev pub first_at : List ℕ → ℕ → ℕ
first_at w p = first_in (argument_at w p) p

-- ---- the judgement

-- 5 and 6 over a tree with its root at a place
abbrev pub names_judged : Option ℕ → ℕ → Judged ℕ
names_judged (Some p) root = judged.refused (refusal_at reason.Name p)
names_judged None root = judged.fine root

abbrev pub tree_judged : List ℕ → ℕ → Tree → Judged ℕ
tree_judged text root e =
    cond (leb (height_of e) most_height) (names_judged (leftmost_of (unknown_in text e)) root) (judged.refused (refusal_at reason.Height 0))

abbrev pub Kept : Judged Tree → List ℕ → List ℕ → Type 0
Kept (judged.fine e) w v = v ≡ store w e
Kept (judged.refused r) w v = length v ≡ length w

-- r is the answer to a judgement, and the slots v hold its tree if it has one
pub record JudgedBy (j : Judged Tree) (w v : List ℕ) (r : Result ℕ Refusal) : Type 0 where
  pub answers : answer_of r ≡ root_of j
  pub keeps : Kept j w v

-- The three demands (docs/PROMISES.md) as types, and what they speak of: page 01, "Refusal numbers", "Kinds and meaning" and "What each
-- answer owes". "accepted and refused are what the program answers": of `check` (crate style, src/check.rt) and `paint` (src/paint.rt) the
-- promises say, for every input, that they answer `checked_of` and `painted_of`, and that buffer and room are afterwards as `out_after` and
-- `room_after` say. Each type beside which a demand's sentence stands is proved in proofs/Demands.antt.
use Rattle.std.specs.Prelude.{◌≡◌, false, List, [], ◌∷◌, ◌++◌, map, ◌↔◌, ◌⊎◌, ℕ, ◌≤◌, ◌<◌, T, length, take, drop, Option, None, Err}
use Rattle.lexer.specs.Spelling.{All}
use Rattle.lexer.specs.Refusal.{fine, refused, refusal_at}
use Rattle.lexer.specs.Tokens.{Placed}
use Rattle.lexer.specs.declared.refusal.Refusal.{Refusal}
use Rattle.lexer.specs.declared.refusal.Reason.TheVariants as reason
use Rattle.value.specs.Value.{text_in}
use Rattle.value.specs.declared.value.Value.{Value}
use Rattle.tree.specs.Tree.{Tree}
use Rattle.plan.specs.Layout.{undeclared}
use Rattle.syntax.specs.Judge.{judged_of}
use Rattle.syntax.specs.Place.{Scanned, RefusedAt}
use Rattle.checker.specs.Name.{name_at}
use Rattle.checker.specs.declared.name.Scope.{Scope}
use Rattle.checker.specs.declared.name.Scope.TheVariants as scope
use Rattle.checker.specs.declared.check.Wanted.{Wanted}
use Rattle.evaluator.specs.Literal.{literal_at}
use Rattle.evaluator.specs.Eval.{eval_of}
use Rattle.evaluator.specs.Entries.{NoneFaults}
use Rattle.evaluator.specs.Demand.{Variables, plain, fails}
use Rattle.text.specs.Parts.{lines}
use Rattle.style.specs.Answer.{Answer, refusal, accepted, number_of, on_accepted}
use Rattle.style.specs.Style.{Style, empty, is_among, define_name, kinds_in}
use Rattle.style.specs.Expression.{verdict_on}
use Rattle.style.specs.Item.{Item}
use Rattle.style.specs.Head.{head_size, room_size, style_of, checked_of}
use Rattle.style.specs.Items.{Reached, RefusedAs, Gives, NoItem, LineOrigin}
use Rattle.style.specs.Schema.{schema_text}
use Rattle.feature.specs.Feature.{complete, entered_of, feature_of}
use Rattle.feature.specs.Sample.{is_line_byte}
use Rattle.output.specs.Line.{front, longest_line}
use Rattle.painter.specs.Given.{Asked, NoneTrue}
use Rattle.painter.specs.Meaning.{property_outcome, outcome_of, value_of, given_of}
use Rattle.painter.specs.Entries.{worked_out_of, entries_for}
use Rattle.painter.specs.Paint.{schema_of, given_answer, written_for, least_bytes, painted_of, out_after, feature_line, given_in}
use Rattle.painter.specs.Applied.{compiled, given_under, applied_of}
use Rattle.painter.specs.declared.answer.Painted.{Painted}

-- ---- 1: a call is refused exactly when the table says so

-- The table as far as a head goes: "Order: 10; size of the head; then the head's lines in turn, each 8 first and then its expressions left
-- to right, each by 1 to 7 in that order".
pub data HeadRefused (slots : ℕ) (head : List ℕ) : ℕ → Refusal → Type 0 where
  -- "work room under the one size"; "For 10, where no line is read, line is 0."
  by-room : slots < room_size → HeadRefused slots head 0 (refusal_at reason.Room 0)
  -- "a byte size .. is over": "the limit; line 0 for the head"
  by-size : room_size ≤ slots → head_size < length head → HeadRefused slots head 0 (refusal_at reason.Size head_size)
  -- a line's 8, behind lines that give a style
  by-line : {n : ℕ} {r : Refusal} → room_size ≤ slots → length head ≤ head_size → NoItem head n r → HeadRefused slots head n r
  -- an expression's 1 to 7, behind all that the order puts before it
  by-expression : {n : ℕ} {r : Refusal} → room_size ≤ slots → length head ≤ head_size → LineOrigin head n r → HeadRefused slots head n r

-- The whole table: "an output buffer under 32 bytes" is a 10 too; and "then the strip: its size, the number of strips, 9" (`feature_of`),
-- whose line is "the number its caller gives it".
pub data CallRefused (bytes slots : ℕ) (head : List ℕ) (number : ℕ) (feature : List ℕ) : ℕ → Refusal → Type 0 where
  by-buffer : bytes < least_bytes → CallRefused bytes slots head number feature 0 (refusal_at reason.Room 0)
  by-head : {n : ℕ} {r : Refusal} → least_bytes ≤ bytes → HeadRefused slots head n r → CallRefused bytes slots head number feature n r
  by-feature : {r : Refusal} (s : Style) →
      least_bytes ≤ bytes →
      style_of slots head ≡ accepted s →
      feature_of (schema_of s) number feature ≡ refused r →
      CallRefused bytes slots head number feature number r

-- by `check`
abbrev pub CheckRefused : Type 0
CheckRefused = (slots : ℕ) (head : List ℕ) (n : ℕ) (r : Refusal) → (checked_of slots head ≡ refusal n r) ↔ HeadRefused slots head n r

-- and by `paint`
abbrev pub PaintRefused : Type 0
PaintRefused =
    (bytes slots : ℕ) (head : List ℕ) (number : ℕ) (feature : List ℕ) (n : ℕ) (r : Refusal) →
    (painted_of bytes slots head number feature ≡ refusal n r) ↔ CallRefused bytes slots head number feature n r

-- "A call is refused exactly when the table of page 01 says so, by its number with its line and place"
abbrev pub RefusedByTable : Type 0
RefusedByTable = CheckRefused × PaintRefused

-- "Every style and strip line, however broken, gets an answer": one that the table refuses, or one that is painted.
abbrev pub Answered : Type 0
Answered =
    (bytes slots : ℕ) (head : List ℕ) (number : ℕ) (feature : List ℕ) →
    ((n : ℕ) × (r : Refusal) × CallRefused bytes slots head number feature n r)
    ⊎ ((w : Painted) × (painted_of bytes slots head number feature ≡ accepted w))

-- "a refused call changes no output buffer"
abbrev pub BufferKept : Type 0
BufferKept =
    (slots : ℕ) (head : List ℕ) (number : ℕ) (feature out : List ℕ) (n : ℕ) (r : Refusal) →
    painted_of (length out) slots head number feature ≡ refusal n r →
    out_after (painted_of (length out) slots head number feature) number out ≡ out

-- What `check` refuses `paint` refuses, with every number that a head's refusal may have.
abbrev pub PaintAgrees : Type 0
PaintAgrees =
    (bytes slots : ℕ) (head : List ℕ) (number : ℕ) (feature : List ℕ) (n : ℕ) (r : Refusal) → least_bytes ≤ bytes →
    checked_of slots head ≡ refusal n r → painted_of bytes slots head number feature ≡ refusal n r

-- Of a 4 the place is that of the "first token no right expression can have there, or the end".
abbrev pub FourPlaced : Type 0
FourPlaced =
    (slots : ℕ) (head : List ℕ) (n p : ℕ) → checked_of slots head ≡ refusal n (refusal_at reason.Grammar p) →
    (o : LineOrigin head n (refusal_at reason.Grammar p)) × (ts : List Placed) × Scanned o.origin.text ts × RefusedAt o.origin.text ts p

-- Whatever is refused with 7 is an expression of a line: it has a tree, and it is the kinds of that which are refused there.
abbrev pub SevenPlaced : Type 0
SevenPlaced =
    (slots : ℕ) (head : List ℕ) (n p : ℕ) → checked_of slots head ≡ refusal n (refusal_at reason.Kinds p) →
    (o : LineOrigin head n (refusal_at reason.Kinds p)) × (tree : Tree) × (judged_of o.origin.text ≡ fine tree)
    × (verdict_on (kinds_in o.origin.scope o.origin.style) o.origin.want o.origin.text tree
    ≡ Err (refusal_at reason.Kinds p))

-- ---- an accepted style, and a strip that conforms

-- "if by this table neither 1 nor 9 refuses it"
abbrev pub Neither : {A : Type 0} → Answer A → Type 0
Neither a = (number_of a ≡ 1 → ⊥) × (number_of a ≡ 9 → ⊥)

-- "A strip conforms to a schema .. if by this table neither 1 nor 9 refuses it after those `prop` lines alone, with room enough."
abbrev pub ConformsTo : List ℕ → ℕ → List ℕ → Type 0
ConformsTo schema number feature = Neither (painted_of least_bytes room_size schema number feature)

-- it reads as values, one for each property of a style
abbrev pub ReadsAs : Style → ℕ → List ℕ → List Value → Type 0
ReadsAs s number feature vs = entered_of (schema_of s) number feature ≡ fine (complete vs)

-- the style that a head gives, and the values that a strip reads as
pub record Reading (slots : ℕ) (head : List ℕ) (number : ℕ) (feature : List ℕ) : Type 0 where
  pub style : Style
  pub values : List Value
  pub gives : style_of slots head ≡ accepted style
  pub reads : ReadsAs style number feature values

-- "Take any schema and any style accepted under it. Whatever values a conforming strip holds": it reads so that something is true
abbrev pub Conforming : ((slots : ℕ) (head : List ℕ) (number : ℕ) (feature : List ℕ) → Style → List Value → Type 0) → Type 0
Conforming P =
    (slots : ℕ) (head : List ℕ) → checked_of slots head ≡ accepted tt → (number : ℕ) (feature : List ℕ) →
    ConformsTo (schema_text head) number feature →
    (x : Reading slots head number feature) × P slots head number feature x.style x.values

-- ---- 2: exactly the show and colour that the written meaning gives

-- "An accepted style gives each conforming strip exactly the show and colour that the written meaning gives"
abbrev pub PaintedAsMeant : Type 0
PaintedAsMeant =
    Conforming (λ slots head number feature s vs.
    (bytes : ℕ) → least_bytes ≤ bytes →
    painted_of bytes slots head number feature ≡ accepted (written_for number (given_of s feature vs)))

-- "no colour exactly if it has conditions and none is true"
abbrev pub NoColour : Type 0
NoColour =
    Conforming (λ slots head number feature s vs.
    ((given_of s feature vs).colouring ≡ None)
    ↔ ((0 < length s.conditions) × NoneTrue (value_of s feature vs) s.conditions))

-- and no other strip is painted
abbrev pub PaintedOnly : Type 0
PaintedOnly =
    (bytes slots : ℕ) (head : List ℕ) (number : ℕ) (feature : List ℕ) (w : Painted) →
    painted_of bytes slots head number feature ≡ accepted w →
    (checked_of slots head ≡ accepted tt) × ConformsTo (schema_text head) number feature

-- ---- 3, first half: nothing fails

-- of some that are worked out none faults or ends in a kind that its line doesn't take
abbrev pub NoneFails : {E : Type 0} → (E → Option Value) → List (Asked E) → Type 0
NoneFails outcome [] = Unit {0}
NoneFails outcome (x ∷ xs) = (fails x.want (outcome x.expression) ≡ false) × NoneFails outcome xs

-- "no operator, function or pick worked out for it meets a kind, or a count of arguments, it doesn't take, and no expression ends in a kind
-- its line doesn't take"
abbrev pub NothingFails : Type 0
NothingFails =
    Conforming (λ slots head number feature s vs.
    NoneFaults (entries_for s feature vs) × NoneFails (outcome_of s feature vs) (worked_out_of s feature vs))

-- ---- 3, second half: an expression by itself

-- it is a line of a text
abbrev pub IsLine : List ℕ → Type 0
IsLine feature = All is_line_byte feature

-- it names no define: "inside a define every name is a property"
abbrev pub NoDefine : Scope → Style → List ℕ → Tree → Type 0
NoDefine scope.Define s text e = Unit {0}
NoDefine scope.Style s text e = Variables (λ p n. is_among (map define_name s.defines) (name_at text p) ≡ false) e

-- "By itself means from the strip's values, whether or not the style comes to it"
abbrev pub by_itself : Style → List ℕ → List Value → List ℕ → Tree → Option Value
by_itself s feature vs text e =
    eval_of
    (record { text = text_in text feature; literals = literal_at text; variables = λ p n. property_outcome s vs (name_at text p) })
    e

-- some line that reads as values under the style's properties makes it fail
pub record SomeLineFails (s : Style) (want : Wanted) (text : List ℕ) (e : Tree) : Type 0 where
  pub number : ℕ
  pub feature : List ℕ
  pub is-line : IsLine feature
  pub values : List Value
  pub reads : ReadsAs s number feature values
  pub failing : T (fails want (by_itself s feature values text e))

-- some line that conforms to the head's schema makes it fail
pub record SomeConformingFails (head : List ℕ) (s : Style) (want : Wanted) (text : List ℕ) (e : Tree) : Type 0 where
  pub line : SomeLineFails s want text e
  pub conforms : ConformsTo (schema_text head) line.number line.feature

-- It is refused, as one that is reached in the items that the lines up to its own give.
pub record LineRefusedAs (head : List ℕ) (n : ℕ) (r : Refusal) (s : Style) (c : Scope) (want : Wanted) (text : List ℕ) : Type 0 where
  pub items : List Item
  pub gives : Gives empty (take n (lines head)) items
  pub is : RefusedAs items n r s c want text

-- "the checks before are all that the order puts before this expression's 7": 10, the size of the head, all before it in the lines, and its
-- own 1 to 6, which are passed with a tree
pub record Passes (slots : ℕ) (head : List ℕ) (n : ℕ) (s : Style) (c : Scope) (want : Wanted) (text : List ℕ) : Type 0 where
  pub room : room_size ≤ slots
  pub size : length head ≤ head_size
  pub items : List Item
  pub gives : Gives empty (take n (lines head)) items
  pub reached : Reached items n s c want text
  pub tree : Tree
  pub is : judged_of text ≡ fine tree

-- "any one expression without conditional, `&&` or `||`, naming no define"
abbrev pub IsPlain : Scope → Style → List ℕ → Tree → Type 0
IsPlain c s text tree = T (plain tree) × NoDefine c s text tree

-- "is refused for its kinds *exactly* when it passes the checks before that one and some conforming strip, with the expression worked out
-- by itself, would make it meet such a kind or count, or end in such a kind": the call answers 7 at it, and the place is its own, which
-- tells it from the other expression of a `cond` line.
abbrev pub RefusedExactly : Type 0
RefusedExactly =
    (slots : ℕ) (head : List ℕ) (n : ℕ) (s : Style) (c : Scope) (want : Wanted) (text : List ℕ) →
    ((x : Passes slots head n s c want text) → IsPlain c s text x.tree) →
    ((p : ℕ) × (checked_of slots head ≡ refusal n (refusal_at reason.Kinds p)) × LineRefusedAs head n (refusal_at reason.Kinds p) s c want text)
    ↔ ((x : Passes slots head n s c want text) × SomeConformingFails head s want text x.tree)

-- ---- the program: `compile` once, and then `given` or `apply` for each strip

-- of every accepted head something is true, whatever stood in room, plan and the values of names before
abbrev pub OnceCompiled : ((head room plan : List ℕ) (number : ℕ) (feature : List ℕ) → List Value → Type 0) → Type 0
OnceCompiled P =
    (head room plan : List ℕ) → checked_of (length room) head ≡ accepted tt → (number : ℕ) (feature : List ℕ) (values : List Value) →
    length values ≡ undeclared → P head room plan number feature values

-- what `given` gives is what the style gives
abbrev pub GivenAsMeant : Type 0
GivenAsMeant =
    OnceCompiled (λ head room plan number feature values.
    given_under (compiled head room plan feature) number values
    ≡ on_accepted (style_of (length room) head) (λ s. given_answer s number feature))

-- what `apply` answers and writes is what `paint` does
abbrev pub AppliedAsPainted : Type 0
AppliedAsPainted =
    OnceCompiled (λ head room plan number feature values.
    (out : List ℕ) →
    (let answer = painted_of (length out) (length room) head number feature in
    applied_of (compiled head room plan feature) number out values ≡ (answer, out_after answer number out)))

-- what `line` (src/print.rt) prints behind `given` is the line of what `paint` answers, and every byte behind it is as it came
abbrev pub PrintedAsPainted : Type 0
PrintedAsPainted =
    OnceCompiled (λ head room plan number feature values.
    (out : List ℕ) → longest_line ≤ length out →
    (let line = feature_line number (given_in (painted_of least_bytes (length room) head number feature)) in
    front out (feature_line number (given_under (compiled head room plan feature) number values)) ≡ (line ++ drop (length line) out, length line)))

-- What a line of a head says before its expressions are judged: page 01, "What the painter reads" and number 8 of "Refusal numbers" ("a
-- head line's word (unknown, out of order, one too many, `color` beside `cond`), then its field count, then its name, type and flags"; "0
-- for the word; the end for the count; else first wrong field"). And how it is judged then, whoever has read it.
use Rattle.std.specs.Prelude.{Bool, cond, not, ◌&&◌, List, map, ℕ, eqb, length, Option, Some, None}
use Rattle.lexer.specs.Refusal.{Judged, refused, fine, refusal_at, on_fine}
use Rattle.lexer.specs.declared.refusal.Reason.TheVariants as reason
use Rattle.kind.specs.declared.kind.Kind.{Kind}
use Rattle.checker.specs.Property.{declared}
use Rattle.checker.specs.declared.name.Scope.TheVariants as scope
use Rattle.checker.specs.declared.check.Wanted.{Wanted}
use Rattle.checker.specs.declared.check.Wanted.TheVariants as wanted
use Rattle.text.specs.Parts.{fields, field, field_start}
use Rattle.text.specs.Name.{is_name}
use Rattle.text.specs.Word.{line_of, type_of, flags_of}
use Rattle.text.specs.declared.word.Line.{Line}
use Rattle.text.specs.declared.word.Line.TheVariants as line
use Rattle.text.specs.declared.word.Flags.{Flags}
use Rattle.style.specs.Style.{Declared, Expression, Style, Entry, admits_to, is_among, name_of, define_name, kinds_in}
use Rattle.style.specs.Style as entry
use Rattle.style.specs.Expression.{expression_of}

-- Expressions are texts: `prop` name type flags; `define` name expression; `show` expression; `color` expression; `cond` condition
-- expression.
pub data Item : Type 0 where
  property : Declared → Item
  define : List ℕ → List ℕ → Item
  show : List ℕ → Item
  color : List ℕ → Item
  condition : List ℕ → List ℕ → Item

-- ---- the item of a line, or an 8

abbrev pub eight_at : ℕ → Judged Item
eight_at p = refused (refusal_at reason.Line p)

-- "the end for the count"
abbrev pub counted : List ℕ → ℕ → Judged Item → Judged Item
counted text n item = cond (eqb (length (fields text)) n) item (eight_at (length text))

-- "Names are 1 to 64 letters, digits and underscores. Names of properties are unique, as are names of defines."
abbrev pub is_new : List (List ℕ) → List ℕ → Bool
is_new names x = is_name x && not (is_among names x)

abbrev pub on_flags : Option Flags → ℕ → List ℕ → Kind → Judged Item
on_flags None p name t = eight_at p
on_flags (Some f) p name t = fine (property (record { name = name; property = declared t f.absent f.null }))

abbrev pub on_type : Option Kind → ℕ → (Kind → Judged Item) → Judged Item
on_type None p k = eight_at p
on_type (Some t) p k = k t

-- `prop` name type flags
unfoldable pub property_item : Style → List ℕ → Judged Item
unfolding is_name type_of flags_of
property_item s text =
    counted text 4
    (cond (is_new (map name_of s.properties) (field text 1))
    (on_type (type_of (field text 2)) (field_start text 2) (λ t. on_flags (flags_of (field text 3)) (field_start text 3) (field text 1) t))
    (eight_at (field_start text 1)))

-- `define` name expression
unfoldable pub define_item : Style → List ℕ → Judged Item
unfolding is_name
define_item s text =
    counted text 3
    (cond (is_new (map define_name s.defines) (field text 1)) (fine (define (field text 1) (field text 2))) (eight_at (field_start text 1)))

abbrev pub item_by : Line → Style → List ℕ → Judged Item
item_by line.Prop s text = property_item s text
item_by line.Define s text = define_item s text
item_by line.Show s text = counted text 2 (fine (show (field text 1)))
item_by line.Color s text = counted text 2 (fine (color (field text 1)))
item_by line.Cond s text = counted text 3 (fine (condition (field text 1) (field text 2)))
item_by line.Feat s text = eight_at 0

-- "0 for the word"
abbrev pub on_word : Option Line → Style → List ℕ → Judged Item
on_word None s text = eight_at 0
on_word (Some l) s text = cond (admits_to s l) (item_by l s text) (eight_at 0)

unfoldable pub item_of : Style → List ℕ → Judged Item
unfolding line_of property_item define_item
item_of s text = on_word (line_of (field text 0)) s text

-- ---- an item is judged

-- "inside a define every name is a property"
abbrev pub define_judged : Style → List ℕ → List ℕ → Judged Entry
define_judged s name text =
    on_fine (expression_of (kinds_in scope.Define s) wanted.Any text) (λ e. fine (entry.define (record { name = name; expression = e })))

abbrev pub expression : Style → Wanted → List ℕ → (Expression → Judged Entry) → Judged Entry
expression s want text k = on_fine (expression_of (kinds_in scope.Style s) want text) k

-- "each 8 first and then its expressions left to right"
unfoldable pub item_judged : Style → Item → Judged Entry
unfolding expression_of
item_judged s (property d) = fine (entry.property d)
item_judged s (define name text) = define_judged s name text
item_judged s (show text) = expression s wanted.Boolean text (λ e. fine (entry.show e))
item_judged s (color text) = expression s wanted.Vec4 text (λ e. fine (entry.colour e))
item_judged s (condition test colour) =
    expression s wanted.Boolean test (λ t. expression s wanted.Vec4 colour (λ e. fine (entry.condition (record { test = t; colour = e }))))

-- a line is first an item or an 8, and an item is then judged
unfoldable pub line_said : Style → List ℕ → Judged Entry
unfolding item_of item_judged
line_said s text = on_fine (item_of s text) (item_judged s)

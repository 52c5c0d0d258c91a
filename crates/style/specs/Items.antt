-- A style by its items, whoever has read them: page 01, "What the painter reads" and "Refusal numbers" ("then the head's lines in turn,
-- each 8 first and then its expressions left to right"). And the items that a head's lines give.
use Rattle.std.specs.Prelude.{◌≡◌, Bool, true, false, ◌&&◌, List, [], ◌∷◌, ◌++◌, map, ℕ, suc, length, take}
use Rattle.lexer.specs.Refusal.{reason_number, fine, refused}
use Rattle.lexer.specs.declared.refusal.Refusal.{Refusal}
use Rattle.checker.specs.Property.{Property, undeclared, declared}
use Rattle.checker.specs.declared.name.Scope.{Scope}
use Rattle.checker.specs.declared.name.Scope.TheVariants as scope
use Rattle.checker.specs.declared.check.Wanted.{Wanted}
use Rattle.checker.specs.declared.check.Wanted.TheVariants as wanted
use Rattle.text.specs.Parts.{lines}
use Rattle.text.specs.declared.word.Line.{Line}
use Rattle.text.specs.declared.word.Line.TheVariants as line
use Rattle.style.specs.Answer.{Answer, accepted, on_line}
use Rattle.style.specs.Style.{Expression, Style, Entry, empty, with, admits_to, name_of, define_name, kinds_in}
use Rattle.style.specs.Expression.{expression_of}
use Rattle.style.specs.Item.{Item, is_new, item_of, item_judged, line_said}
use Rattle.style.specs.Item as item
use Rattle.style.specs.Head.{head_from}

-- ---- which item may stand behind a style

abbrev pub word_of : Item → Line
word_of (item.property d) = line.Prop
word_of (item.define name text) = line.Define
word_of (item.show text) = line.Show
word_of (item.color text) = line.Color
word_of (item.condition test colour) = line.Cond

-- a property has a type and flags
abbrev pub is_declared : Property → Bool
is_declared undeclared = false
is_declared (declared t absent null) = true

-- "Names are 1 to 64 letters, digits and underscores. Names of properties are unique, as are names of defines."
abbrev pub is_named : Style → Item → Bool
is_named s (item.property d) = is_new (map name_of s.properties) d.name && is_declared d.property
is_named s (item.define name text) = is_new (map define_name s.defines) name
is_named s (item.show text) = true
is_named s (item.color text) = true
is_named s (item.condition test colour) = true

-- what no 8 is against: its word is neither out of order nor one too many, and its name is right
abbrev pub may_stand : Style → Item → Bool
may_stand s i = admits_to s (word_of i) && is_named s i

-- each of some items may stand behind what those before it give
abbrev pub Stand : Style → List Item → Type 0
Stand s [] = Unit {0}
Stand s (i ∷ is) = (may_stand s i ≡ true) × ((e : Entry) → item_judged s i ≡ fine e → Stand (with s e) is)

-- ---- what items give

-- items in turn, from a number on, behind those that have given a style
abbrev pub items_from : ℕ → Style → List Item → Answer Style
items_from n s [] = accepted s
items_from n s (i ∷ is) = on_line n (item_judged s i) (λ e. items_from (suc n) (with s e) is)

-- ---- an expression of an item

-- Those before it in its item are accepted: "its expressions left to right". "inside a define every name is a property"; "`show` and
-- conditions must end in Boolean, colours in vec4, defines in any kind."
pub data Asks (s : Style) : Item → Scope → Wanted → List ℕ → Type 0 where
  define : {name text : List ℕ} → Asks s (item.define name text) scope.Define wanted.Any text
  show : {text : List ℕ} → Asks s (item.show text) scope.Style wanted.Boolean text
  color : {text : List ℕ} → Asks s (item.color text) scope.Style wanted.Vec4 text
  condition : {test colour : List ℕ} → Asks s (item.condition test colour) scope.Style wanted.Boolean test
  colour : {test colour : List ℕ} (t : Expression) → expression_of (kinds_in scope.Style s) wanted.Boolean test ≡ fine t →
      Asks s (item.condition test colour) scope.Style wanted.Vec4 colour

-- one of some, by its number, behind others that give a style
pub record At {A : Type 0} (gives : List A → Answer Style) (all : List A) (n : ℕ) (s : Style) (x : A) : Type 0 where
  pub before : List A
  pub after : List A
  pub is : all ≡ before ++ x ∷ after
  pub number : n ≡ suc (length before)
  pub given : gives before ≡ accepted s

abbrev pub ItemAt : List Item → ℕ → Style → Item → Type 0
ItemAt items n s i = At (items_from 1 empty) items n s i

-- an expression of an item: the items before it, and of its own item what stands before it, are not refused
pub record Reached (items : List Item) (n : ℕ) (s : Style) (c : Scope) (want : Wanted) (text : List ℕ) : Type 0 where
  pub item : Item
  pub stands : ItemAt items n s item
  pub asks : Asks s item c want text

-- it is refused, with a number and at a place of its own
pub record RefusedAs (items : List Item) (n : ℕ) (r : Refusal) (s : Style) (c : Scope) (want : Wanted) (text : List ℕ) : Type 0 where
  pub reached : Reached items n s c want text
  pub refused : expression_of (kinds_in c s) want text ≡ refused r

-- some expression is, and so the item of that number
pub record Origin (items : List Item) (n : ℕ) (r : Refusal) : Type 0 where
  pub style : Style
  pub scope : Scope
  pub want : Wanted
  pub text : List ℕ
  pub is : RefusedAs items n r style scope want text

-- ---- the items of lines

-- each line is its item behind what those before it give; behind one that is refused nothing is read
abbrev pub Gives : Style → List (List ℕ) → List Item → Type 0
Gives s [] [] = Unit {0}
Gives s [] (i ∷ is) = ⊥
Gives s (l ∷ ls) [] = ⊥
Gives s (l ∷ ls) (i ∷ is) = (item_of s l ≡ fine i) × ((e : Entry) → item_judged s i ≡ fine e → Gives (with s e) ls is)

abbrev pub LineAt : List ℕ → ℕ → Style → List ℕ → Type 0
LineAt head n s line = At (head_from 1 empty) (lines head) n s line

-- a line that is refused
pub record Refused (head : List ℕ) (n : ℕ) (r : Refusal) : Type 0 where
  pub style : Style
  pub line : List ℕ
  pub stands : LineAt head n style line
  pub said : line_said style line ≡ refused r

-- "each 8 first": it is no item
pub record NoItem (head : List ℕ) (n : ℕ) (r : Refusal) : Type 0 where
  pub style : Style
  pub line : List ℕ
  pub stands : LineAt head n style line
  pub said : item_of style line ≡ refused r
  pub eight : reason_number r.reason ≡ 8

-- "and then its expressions": the lines up to it give items, and an expression of the last is refused
pub record LineOrigin (head : List ℕ) (n : ℕ) (r : Refusal) : Type 0 where
  pub items : List Item
  pub gives : Gives empty (take n (lines head)) items
  pub origin : Origin items n r

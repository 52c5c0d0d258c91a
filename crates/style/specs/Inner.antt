-- What the functions promise to each other.
use Rattle.std.specs.Prelude.{◌≡◌, Bool, true, ◌&&◌, ◌||◌, List, map, ℕ, ◌+◌, ◌*◌, ◌<◌, ◌≤◌, ltb, leb, length, get_or, set, Result, Ok, Err}
use Rattle.std.proofs.Math.Seq.{slice}
use Rattle.lexer.specs.Refusal.{Judged, refused, fine, refusal_at, on_fine}
use Rattle.lexer.specs.declared.refusal.Refusal.{Refusal}
use Rattle.lexer.specs.declared.refusal.Reason.TheVariants as reason
use Rattle.kind.specs.declared.kind.Kind.{Kind}
use Rattle.kind.specs.declared.set.Kinds.{Kinds}
use Rattle.plan.specs.Layout.{first_define, undeclared, start_of, end_of, show_row, colour_row, property_count, define_count, show_count}
use Rattle.plan.specs.Layout.{colour_count, condition_count, set_place, from_place, to_place, root_place, number_at}
use Rattle.tree.specs.Tree.{place}
use Rattle.syntax.specs.Judge.{slots_after}
use Rattle.checker.specs.Name.{number_of, resolved_slots}
use Rattle.checker.specs.Property.{property_kinds, set_at, packed_of}
use Rattle.checker.specs.declared.name.Scope.{Scope}
use Rattle.checker.specs.declared.name.Scope.TheVariants as scope
use Rattle.checker.specs.declared.check.Wanted.{Wanted}
use Rattle.checker.specs.declared.check.Wanted.TheVariants as wanted
use Rattle.text.specs.Parts.{field_start}
use Rattle.text.specs.Parts as parts
use Rattle.text.specs.Name.{is_name}
use Rattle.text.specs.Word.{flags_of}
use Rattle.text.specs.declared.part.Part.{Part}
use Rattle.text.specs.declared.word.Line.{Line}
use Rattle.text.specs.declared.word.Line.TheVariants as word
use Rattle.style.specs.Answer.{accepted, on_accepted}
use Rattle.style.specs.Style.{Declared, Expression, Define, Condition, Style, property, define, show, colour, condition, admits}
use Rattle.style.specs.Style.{name_of, define_name, kinds_in, number_in}
use Rattle.style.specs.Style as style
use Rattle.style.specs.Expression.{expression_of}
use Rattle.style.specs.Item.{is_new, counted, on_flags, item_by, item_of, item_judged, line_said}
use Rattle.style.specs.Item as item
use Rattle.style.specs.Head.{head_of, answer_of}
use Rattle.style.specs.Compile.{laid, plan_of, room_of}
use Rattle.style.specs.Holds.{Counted}
use Rattle.style.specs.declared.item.Before.{Before}
use Rattle.style.specs.declared.item.Item.{Item}
use Rattle.style.specs.declared.item.Item.TheVariants as read
use Rattle.style.specs.declared.expression.Purpose.{Purpose}
use Rattle.style.specs.declared.expression.Purpose.TheVariants as purpose
use Rattle.style.specs.declared.expression.Entered.{Entered}
use Rattle.style.specs.declared.entry.Expression as code
use Rattle.style.specs.declared.entry.Entry.{Entry}
use Rattle.style.specs.declared.entry.Entry.TheVariants as entry
use Rattle.style.specs.declared.check.LineRefusal.{LineRefusal}
use Rattle.lexer.specs.declared.refusal.Reason.{Reason}

-- ---- names, as arrays have them

abbrev pub look : Scope → List ℕ → List ℕ → List ℕ → List ℕ → Kinds
look c head names plan x = set_at plan (number_of c head names x)

-- whether a name is new: no property, no define
abbrev pub is_new_property : List ℕ → List ℕ → List ℕ → Bool
is_new_property head names x = is_name x && leb undeclared (number_of scope.Define head names x)

abbrev pub is_new_define : List ℕ → List ℕ → List ℕ → Bool
is_new_define head names x =
    is_name x && (ltb (number_of scope.Style head names x) first_define || leb undeclared (number_of scope.Style head names x))

-- what the arrays say of names is what the style says; an empty name is none
pub record Reads (head names plan : List ℕ) (s : Style) : Type 0 where
  pub kinds : (c : Scope) (x : List ℕ) → look c head names plan x ≡ kinds_in c s x
  pub numbers : (c : Scope) (x : List ℕ) → 0 < length x → number_of c head names x ≡ number_in c s x
  pub new-property : (x : List ℕ) → is_new_property head names x ≡ is_new (map name_of s.properties) x
  pub new-define : (x : List ℕ) → is_new_define head names x ≡ is_new (map define_name s.defines) x

-- the same of what the lines before have declared
abbrev pub Says : Before → Style → Type 0
Says b s = Reads b.head.now b.names.now b.plan.now s

-- ---- the item of a line

abbrev pub admits_by : List ℕ → Line → Bool
admits_by plan l =
    admits l (number_at plan property_count) (number_at plan define_count) (number_at plan show_count) (number_at plan colour_count)
    (number_at plan condition_count)

abbrev pub eight : ℕ → Refusal
eight p = refusal_at reason.Line p

-- a part of a line is its field with an index
pub record FieldLies (line : List ℕ) (i : ℕ) (p : Part) : Type 0 where
  pub order : p.start ≤ p.end
  pub inside : p.end ≤ length line
  pub is : slice p.start p.end line ≡ parts.field line i
  pub begins : p.start ≡ field_start line i

-- the item's parts are fields of the line
abbrev pub ItemLies : List ℕ → Item → Type 0
ItemLies line (read.Property name k) = FieldLies line 1 name
ItemLies line (read.Define name text) = FieldLies line 1 name × FieldLies line 2 text
ItemLies line (read.Show text) = FieldLies line 1 text
ItemLies line (read.Colour text) = FieldLies line 1 text
ItemLies line (read.Condition test result) = FieldLies line 1 test × FieldLies line 2 result

-- what the code has of an item is the item
abbrev pub ItemIs : List ℕ → Item → Judged item.Item → Type 0
ItemIs line (read.Property name k) j =
    (d : Declared) × (j ≡ fine (item.property d)) × (d.name ≡ parts.field line 1) × (is_name (parts.field line 1) ≡ true)
    × (k ≡ packed_of (property_kinds d.property))
ItemIs line (read.Define name text) j =
    (j ≡ fine (item.define (parts.field line 1) (parts.field line 2))) × (is_name (parts.field line 1) ≡ true)
ItemIs line (read.Show text) j = j ≡ fine (item.show (parts.field line 1))
ItemIs line (read.Colour text) j = j ≡ fine (item.color (parts.field line 1))
ItemIs line (read.Condition test result) j = j ≡ fine (item.condition (parts.field line 1) (parts.field line 2))

-- the word of its line
abbrev pub item_word : Item → Line
item_word (read.Property name k) = word.Prop
item_word (read.Define name text) = word.Define
item_word (read.Show text) = word.Show
item_word (read.Colour text) = word.Color
item_word (read.Condition test result) = word.Cond

-- What a function of a word promises: its 8, or an item of the word. It is that of the line by any style of which the arrays say what it
-- says.
abbrev pub WordBy : Line → Before → List ℕ → Result Item Refusal → Type 0
WordBy l b line (Err r) = (s : Style) → Says b s → item_by l s line ≡ refused r
WordBy l b line (Ok i) = (item_word i ≡ l) × ItemLies line i × ((s : Style) → Says b s → ItemIs line i (item_by l s line))

abbrev pub FlagsBy : List ℕ → Part → Kind → Result Item Refusal → Type 0
FlagsBy line name t (Err r) = on_flags (flags_of (parts.field line 3)) (field_start line 3) (parts.field line 1) t ≡ refused r
FlagsBy line name t (Ok i) =
    (item_word i ≡ word.Prop)
    × (FieldLies line 1 name → ItemLies line i)
    × (is_name (parts.field line 1) ≡ true →
    ItemIs line i (on_flags (flags_of (parts.field line 3)) (field_start line 3) (parts.field line 1) t))

-- the field behind a word that has one
abbrev pub SingleBy : List ℕ → Result Part Refusal → Type 0
SingleBy line (Err r) = (j : Judged item.Item) → counted line 2 j ≡ refused r
SingleBy line (Ok p) = FieldLies line 1 p × ((j : Judged item.Item) → counted line 2 j ≡ j)

abbrev pub ItemBy : Before → List ℕ → Result Item Refusal → Type 0
ItemBy b line (Err r) = (s : Style) → Counted b.plan.now s → Says b s → item_of s line ≡ refused r
ItemBy b line (Ok i) =
    (admits_by b.plan.now (item_word i) ≡ true)
    × ItemLies line i
    × ((s : Style) → Counted b.plan.now s → Says b s → ItemIs line i (item_of s line))

-- ---- an expression

abbrev pub scope_of : Purpose → Scope
scope_of purpose.Define = scope.Define
scope_of purpose.Test = scope.Style
scope_of purpose.Colour = scope.Style

abbrev pub wanted_of : Purpose → Wanted
wanted_of purpose.Define = wanted.Any
wanted_of purpose.Test = wanted.Boolean
wanted_of purpose.Colour = wanted.Vec4

abbrev pub judged_for : Purpose → Style → List ℕ → Judged Expression
judged_for q s text = expression_of (kinds_in (scope_of q) s) (wanted_of q) text

-- it is accepted, and its tree is laid into the slots beside its text
pub record Enters (number : List ℕ → ℕ) (text w v : List ℕ) (x : Entered) (e : Expression) : Type 0 where
  pub own : e.text ≡ text
  pub rooted : x.root ≡ place e.tree
  pub small : x.root < 1024
  pub set : x.set ≡ packed_of e.kinds
  pub beside : v ≡ resolved_slots number text (slots_after w text)

abbrev pub EnteredBy : Purpose → Before → List ℕ → List ℕ → List ℕ → Result Entered Refusal → Type 0
EnteredBy q b text w v (Err r) = (s : Style) → Says b s → judged_for q s text ≡ refused r
EnteredBy q b text w v (Ok x) =
    (s : Style) → Says b s → (e : Expression) × (judged_for q s text ≡ fine e) × Enters (number_in (scope_of q) s) text w v x e

-- what the code has of an expression of a line
pub record Lain (line : List ℕ) (i : ℕ) (x : code.Expression) (e : Expression) : Type 0 where
  pub lies : FieldLies line i x.text
  pub own : e.text ≡ parts.field line i
  pub rooted : x.root ≡ place e.tree
  pub small : x.root < 1024
  pub set : x.set ≡ packed_of e.kinds

abbrev pub FieldBy : Purpose → Part → Before → List ℕ → List ℕ → List ℕ → Result code.Expression Refusal → Type 0
FieldBy q p b line w v (Err r) =
    (i : ℕ) → FieldLies line i p → (s : Style) → Says b s → judged_for q s (parts.field line i) ≡ refused r
FieldBy q p b line w v (Ok x) =
    (i : ℕ) → FieldLies line i p → (s : Style) → Says b s →
    (e : Expression) × (judged_for q s (parts.field line i) ≡ fine e) × Lain line i x e
    × (v ≡ laid (number_in (scope_of q) s) (field_start line i) e w)

-- ---- what a line adds

-- the name is field 1 of the line
abbrev pub NameIs : List ℕ → Part → List ℕ → Type 0
NameIs line p name = FieldLies line 1 p × (name ≡ parts.field line 1) × (is_name name ≡ true)

-- what the code has of an entry is the entry, and the slots beside the line have its trees
abbrev pub EntryIs : Style → List ℕ → List ℕ → List ℕ → Entry → Judged style.Entry → Type 0
EntryIs s line w v (entry.Property name k) j =
    (d : Declared) × (j ≡ fine (property d)) × NameIs line name d.name × (k ≡ packed_of (property_kinds d.property)) × (v ≡ w)
EntryIs s line w v (entry.Define name x) j =
    (d : Define) × (j ≡ fine (define d)) × NameIs line name d.name × Lain line 2 x d.expression
    × (v ≡ laid (number_in scope.Define s) (field_start line 2) d.expression w)
EntryIs s line w v (entry.Show x) j =
    (e : Expression) × (j ≡ fine (show e)) × Lain line 1 x e × (v ≡ laid (number_in scope.Style s) (field_start line 1) e w)
EntryIs s line w v (entry.Colour x) j =
    (e : Expression) × (j ≡ fine (colour e)) × Lain line 1 x e × (v ≡ laid (number_in scope.Style s) (field_start line 1) e w)
EntryIs s line w v (entry.Condition x y) j =
    (c : Condition Expression) × (j ≡ fine (condition c)) × Lain line 1 x c.test × Lain line 2 y c.colour
    × (v ≡ laid (number_in scope.Style s) (field_start line 2) c.colour (laid (number_in scope.Style s) (field_start line 1) c.test w))

-- the word of its line
abbrev pub entry_word : Entry → Line
entry_word (entry.Property name k) = word.Prop
entry_word (entry.Define name x) = word.Define
entry_word (entry.Show x) = word.Show
entry_word (entry.Colour x) = word.Color
entry_word (entry.Condition x y) = word.Cond

abbrev pub JudgedBy : Item → Before → List ℕ → List ℕ → List ℕ → Result Entry Refusal → Type 0
JudgedBy i b line w v (Err r) =
    (s : Style) → Says b s → (j : Judged item.Item) → ItemIs line i j → on_fine j (item_judged s) ≡ refused r
JudgedBy i b line w v (Ok e) =
    (entry_word e ≡ item_word i)
    × ((s : Style) → Says b s → (j : Judged item.Item) → ItemIs line i j → EntryIs s line w v e (on_fine j (item_judged s)))

abbrev pub ReadBy : Before → List ℕ → List ℕ → List ℕ → Result Entry Refusal → Type 0
ReadBy b line w v (Err r) = (s : Style) → Counted b.plan.now s → Says b s → line_said s line ≡ refused r
ReadBy b line w v (Ok e) =
    (admits_by b.plan.now (entry_word e) ≡ true)
    × ((s : Style) → Counted b.plan.now s → Says b s → EntryIs s line w v e (line_said s line))

-- ---- what it adds to the arrays

abbrev pub name_with : ℕ → ℕ → Part → List ℕ → List ℕ
name_with n at p names = set (set names (start_of n) (at + p.start)) (end_of n) (at + p.end)

abbrev pub row_with : ℕ → ℕ → code.Expression → List ℕ → List ℕ
row_with row at x plan =
    set (set (set plan (from_place row) (at + x.text.start)) (to_place row) (at + x.text.end)) (root_place row) x.root

abbrev pub count_with : ℕ → List ℕ → List ℕ
count_with word plan = set plan word (get_or plan word 0 + 1)

abbrev pub names_with : List ℕ → ℕ → Entry → List ℕ → List ℕ
names_with plan at (entry.Property name k) names = name_with (get_or plan property_count 0) at name names
names_with plan at (entry.Define name x) names = name_with (first_define + get_or plan define_count 0) at name names
names_with plan at (entry.Show x) names = names
names_with plan at (entry.Colour x) names = names
names_with plan at (entry.Condition x y) names = names

abbrev pub plan_with : ℕ → Entry → List ℕ → List ℕ
plan_with at (entry.Property name k) plan = set (count_with property_count plan) (set_place (get_or plan property_count 0)) k
plan_with at (entry.Define name x) plan =
    let n = get_or plan define_count 0 in
    row_with n at x (set (count_with define_count plan) (set_place (first_define + n)) x.set)
plan_with at (entry.Show x) plan = row_with show_row at x (count_with show_count plan)
plan_with at (entry.Colour x) plan = row_with colour_row at x (count_with colour_count plan)
plan_with at (entry.Condition x y) plan =
    let row = colour_row + 1 + 2 * get_or plan condition_count 0 in
    row_with (row + 1) at y (row_with row at x (count_with condition_count plan))

-- there is a row for it, and its places are small
abbrev pub SmallName : ℕ → Part → Type 0
SmallName at p = (at + p.start ≤ 32768) × (at + p.end ≤ 32768)

abbrev pub Small : ℕ → code.Expression → Type 0
Small at x = (at + x.text.start ≤ 32768) × (at + x.text.end ≤ 32768) × (x.root < 1024)

abbrev pub Fits : List ℕ → ℕ → Entry → Type 0
Fits plan at (entry.Property name k) = (get_or plan property_count 0 < 32) × SmallName at name
Fits plan at (entry.Define name x) = (get_or plan define_count 0 < 16) × SmallName at name × Small at x
Fits plan at (entry.Show x) = (get_or plan show_count 0 < 1) × Small at x
Fits plan at (entry.Colour x) = (get_or plan colour_count 0 < 1) × Small at x
Fits plan at (entry.Condition x y) = (get_or plan condition_count 0 < 16) × Small at x × Small at y

-- ---- the lines in turn

-- a refusal before any line is read
abbrev pub unread : Reason → ℕ → LineRefusal
unread why p = record { line = 0; refusal = refusal_at why p }

pub record LinesBy (head room plan after : List ℕ) (r : Result (Unit {0}) LineRefusal) : Type 0 where
  pub answer : answer_of r ≡ on_accepted (head_of head) (λ s. accepted tt)
  pub kept : (s : Style) → head_of head ≡ accepted s → (plan ≡ plan_of head) × (after ≡ room_of head room)

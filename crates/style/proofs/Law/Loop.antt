-- The lines of a head in turn.
use Rattle.std.specs.Prelude.{Ok, Err}
use mathlib.Core.Path.{◌≡◌, refl, sym, ◌∙◌, ap, ap₂, subst}
use mathlib.Core.Bool.{true, false≢true}
use mathlib.Core.List.{List, [], ◌∷◌}
use Prim.Native.Nat.{ℕ, suc, ◌+◌, ◌-◌, ◌*◌, ◌<◌, ◌≤◌}
use native.Mathlib.Numerals.{add-one}
use native.Mathlib.Omega.{arith}
use lib.ListN.{length, get_or, set, take, drop, replicate, get_or-replicate, length-set, drop_of_length-le}
use lib.Seq.{slice, length-slice, get_or-set_same, get_or-set_other}
use Rattle.lexer.specs.Refusal.{refused, fine}
use Rattle.lexer.specs.declared.refusal.Refusal.{Refusal}
use Rattle.lexer.proofs.Law.Spelling.{slice_is}
use Rattle.plan.specs.Layout.{start_of, end_of}
use Rattle.checker.specs.Name.{row_at}
use Rattle.checker.specs.declared.name.Scope.TheVariants as scope
use Rattle.text.specs.Parts.{lines, end_from, field, field_start}
use Rattle.text.specs.Name.{is_name}
use Rattle.text.specs.Slice.{put_back}
use Rattle.text.specs.declared.part.Part.{Part}
use Rattle.text.specs.declared.word.Line.{Line}
use Rattle.text.specs.declared.word.Line.TheVariants as word
use Rattle.text.proofs.Law.Parts.{lines_from, end-within}
use Rattle.text.proofs.Slices.{slice-slice, put_same, put-length}
use Rattle.style.specs.Answer.{Answer, refusal, accepted, on_line, on_accepted}
use Rattle.style.specs.Style.{Declared, Expression, Define, Style, Entry, property, define, show, colour, condition, empty, with, admits, admits_to, number_in}
use Rattle.style.specs.Item.{line_said}
use Rattle.style.specs.Head.{head_from, head_of}
use Rattle.style.specs.Compile.{with_row, planned, fresh_plan, roomed, onward, lines_make, plan_of, room_of}
use Rattle.style.specs.Holds.{Each, Counted}
use Rattle.style.specs.Inner.{Reads, admits_by, FieldLies, Lain, NameIs, EntryIs, entry_word, name_with, row_with, names_with, plan_with, SmallName, Small, Fits, LinesBy}
use Rattle.style.specs.declared.entry.Expression as code
use Rattle.style.specs.declared.entry.Entry as entries
use Rattle.style.specs.declared.entry.Entry.TheVariants as entry
use Rattle.style.proofs.Law.Each.{each_map, each_more, each_none, length_more}
use Rattle.style.proofs.Law.Names.{NameAt, Named, reads}
use Rattle.style.proofs.Law.Plans.{Kept, fresh_kept, word_of, kept_on, property-first, define-next, show-once, colour-once, condition-few}
use Rattle.style.proofs.Law.Rooms.{laid_beside, laid_both}

-- ---- where names lie

no_name : (head names : List ℕ) (i : ℕ) → get_or names (start_of i) 0 ≡ 0 → get_or names (end_of i) 0 ≡ 0 → row_at head names i ≡ []
no_name head names i a b = λ j. slice (a j) (b j) head

fresh-named : (head : List ℕ) → Named head (replicate 96 0) empty
fresh-named head = record { size = refl; properties = tt; no-properties = λ i low high. free i (omega (arith, high)); defines = tt; no-defines = λ i low high. free (32 + i) (omega (arith, high)) }
  where
    free : (i : ℕ) → i < 48 → row_at head (replicate 96 0) i ≡ []
    free i h = no_name head (replicate 96 0) i (get_or-replicate 96 (start_of i) 0 0 (omega (arith, h))) (get_or-replicate 96 (end_of i) 0 0 (omega (arith, h)))

module _ (head names : List ℕ) (n at : ℕ) (p : Part) where
  name-other : (i : ℕ) → (i ≡ n → ⊥) → row_at head (name_with n at p names) i ≡ row_at head names i
  name-other i h =
      let q = set names (start_of n) (at + p.start) in
      ap₂ (λ (x y : ℕ). slice x y head)
      (get_or-set_other q (end_of n) (start_of i) (at + p.end) 0 (λ e. h (omega (arith, e))) ∙ get_or-set_other names (start_of n) (start_of i) (at + p.start) 0 (λ e. h (omega (arith, e))))
      (get_or-set_other q (end_of n) (end_of i) (at + p.end) 0 (λ e. h (omega (arith, e))) ∙ get_or-set_other names (start_of n) (end_of i) (at + p.start) 0 (λ e. h (omega (arith, e))))

  name-there : length names ≡ 96 → n < 48 → row_at head (name_with n at p names) n ≡ slice (at + p.start) (at + p.end) head
  name-there size small =
      let q = set names (start_of n) (at + p.start) in
      let sized : length q ≡ 96 = length-set names (start_of n) (at + p.start) ∙ size in
      ap₂ (λ (x y : ℕ). slice x y head)
      (get_or-set_other q (end_of n) (start_of n) (at + p.end) 0 (λ e. omega (arith, e)) ∙ get_or-set_same names (start_of n) (at + p.start) 0 (omega (arith, size, small)))
      (get_or-set_same q (end_of n) (at + p.end) 0 (omega (arith, sized, small)))

  name-length : length (name_with n at p names) ≡ length names
  name-length = length-set (set names (start_of n) (at + p.start)) (end_of n) (at + p.end) ∙ length-set names (start_of n) (at + p.start)

name-some : (x : List ℕ) → is_name x ≡ true → 0 < length x
unfolding is_name
name-some [] h = absurd (false≢true h)
name-some (b ∷ x) h = omega arith

-- ---- a line from `at` up to `end`

module _ (head room : List ℕ) (at end : ℕ) (order : at ≤ end) (inside : end ≤ length head) (wide : end ≤ length room) (u : List ℕ) (size : length u ≡ end - at) where
  abbrev line : List ℕ
  line = slice at end head

  line-length : length line ≡ end - at
  line-length = length-slice at end head inside

  name-here : (p : Part) (i : ℕ) → FieldLies line i p → slice (at + p.start) (at + p.end) head ≡ field line i
  name-here p i l = sym (slice-slice head at end p.start p.end (omega (arith, l.inside, line-length, order))) ∙ l.is

  -- an expression's row
  row_same : (row i : ℕ) (x : code.Expression) (e : Expression) (plan : List ℕ) → Lain line i x e → row_with row at x plan ≡ with_row row (at + field_start line i) e plan
  row_same row i x e plan l =
      let from : at + x.text.start ≡ at + field_start line i = ap (λ (n : ℕ). at + n) l.lies.begins in
      let n : length e.text ≡ x.text.end - x.text.start = ap length (l.own ∙ sym l.lies.is) ∙ length-slice x.text.start x.text.end line l.lies.inside in
      let to : at + x.text.end ≡ at + field_start line i + length e.text = omega (arith, n, l.lies.order, l.lies.begins) in
      λ j. set (set (set plan (53 + 3 * row) (from j)) (53 + 3 * row + 1) (to j)) (53 + 3 * row + 2) (l.rooted j)

  -- it lies in the line
  within : (i : ℕ) (x : code.Expression) (e : Expression) → Lain line i x e → at + (field_start line i + length e.text) ≤ end
  within i x e l =
      let n : length e.text ≡ x.text.end - x.text.start = ap length (l.own ∙ sym l.lies.is) ∙ length-slice x.text.start x.text.end line l.lies.inside in
      omega (arith, n, l.lies.order, l.lies.inside, l.lies.begins, line-length, order)

  module _ (names plan : List ℕ) (s : Style) (kept : Kept plan s) (named : Named head names s) where
    abbrev counts : Counted plan s
    counts = kept.counted

    -- ---- what an entry says of itself

    -- what it adds, with all that it leaves behind
    record Entering (r : entries.Entry) : Type 0 where
      e : Entry
      said : line_said s line ≡ fine e
      admitted : admits_to s (word_of e) ≡ true
      planning : plan_with at r plan ≡ planned at line s e plan
      rooming : put_back room at end u ≡ roomed at line s e room
      naming : Named head (names_with plan at r names) (with s e)

    name-property : (p : Part) (d : Declared) → admits_to s word.Prop ≡ true → NameIs line p d.name → Named head (name_with (get_or plan 0 0) at p names) (with s (property d))
    name-property p d ok x =
        let (l, is, right) = x in
        let n = length s.properties in
        let c : get_or plan 0 0 ≡ n = counts.properties in
        let (few, none, z) = property-first s ok in
        let more = length_more s.properties d in
        let other = name-other head names n at p in
        subst (λ (n : ℕ). Named head (name_with n at p names) (with s (property d))) (sym c) (record {
          size = name-length head names n at p ∙ named.size;
          properties =
              each_more (λ i (d : Declared). NameAt head (name_with n at p names) i d.name) 0 n s.properties d (omega arith)
              (each_map (λ i (d : Declared). NameAt head names i d.name) _ 0 s.properties (λ i d low high x. (other i (λ e. omega (arith, e, high)) ∙ x.0, x.1)) named.properties)
              (name-there head names n at p named.size (omega (arith, few)) ∙ name-here p 1 l ∙ sym is, name-some d.name right);
          no-properties = λ i low high. other i (λ e. omega (arith, e, low, more)) ∙ named.no-properties i (omega (arith, low, more)) high;
          defines = each_none _ 0 s.defines none;
          no-defines = λ i low high. other (32 + i) (λ e. omega (arith, e, few)) ∙ named.no-defines i low high;
        })

    name-define : (p : Part) (d : Define) → admits_to s word.Define ≡ true → NameIs line p d.name → Named head (name_with (32 + get_or plan 1 0) at p names) (with s (define d))
    name-define p d ok x =
        let (l, is, right) = x in
        let m = length s.defines in
        let n = 32 + m in
        let c : get_or plan 1 0 ≡ m = counts.defines in
        let few = (define-next s ok).0 in
        let most = kept.few.properties in
        let more = length_more s.defines d in
        let other = name-other head names n at p in
        subst (λ (m : ℕ). Named head (name_with (32 + m) at p names) (with s (define d))) (sym c) (record {
          size = name-length head names n at p ∙ named.size;
          properties = each_map (λ i (d : Declared). NameAt head names i d.name) _ 0 s.properties (λ i d low high x. (other i (λ e. omega (arith, e, high, most)) ∙ x.0, x.1)) named.properties;
          no-properties = λ i low high. other i (λ e. omega (arith, e, high)) ∙ named.no-properties i low high;
          defines =
              each_more (λ i (d : Define). NameAt head (name_with n at p names) (32 + i) d.name) 0 m s.defines d (omega arith)
              (each_map (λ i (d : Define). NameAt head names (32 + i) d.name) _ 0 s.defines (λ i d low high x. (other (32 + i) (λ e. omega (arith, e, high)) ∙ x.0, x.1)) named.defines)
              (name-there head names n at p named.size (omega (arith, few)) ∙ name-here p 1 l ∙ sym is, name-some d.name right);
          no-defines = λ i low high. other (32 + i) (λ e. omega (arith, e, low, more)) ∙ named.no-defines i (omega (arith, low, more)) high;
        })

    -- no name more
    same_names : (t : Style) → s.properties ≡ t.properties → s.defines ≡ t.defines → Named head names t
    same_names t p d = record {
      size = named.size;
      properties = subst (λ (l : List Declared). Each (λ i (d : Declared). NameAt head names i d.name) 0 l) p named.properties;
      no-properties = λ i low high. named.no-properties i (omega (arith, low, ap length p)) high;
      defines = subst (λ (l : List Define). Each (λ i (d : Define). NameAt head names (32 + i) d.name) 0 l) d named.defines;
      no-defines = λ i low high. named.no-defines i (omega (arith, low, ap length d)) high;
    }

    abbrev w : List ℕ
    w = slice at end room

    admits-in : (l : Line) → admits_by plan l ≡ true → admits_to s l ≡ true
    admits-in l ok = sym (λ i. admits l (counts.properties i) (counts.defines i) (counts.shows i) (counts.colours i) (counts.conditions i)) ∙ ok

    entering : (r : entries.Entry) → admits_by plan (entry_word r) ≡ true → EntryIs s line w u r (line_said s line) → Entering r
    entering (entry.Property name k) a is =
        let ok = admits-in word.Prop a in
        let c = counts.properties in
        record {
          e = property is.0;
          said = is.1;
          admitted = ok;
          planning = λ i. set (set plan 0 (c i + 1)) (5 + c i) (is.3 i);
          rooming = ap (put_back room at end) is.4 ∙ put_same room at end;
          naming = name-property name is.0 ok is.2;
        }
    entering (entry.Define name x) a is =
        let ok = admits-in word.Define a in
        let c = counts.defines in
        let e = is.0.expression in
        let lain = is.3 in
        record {
          e = define is.0;
          said = is.1;
          admitted = ok;
          planning =
              row_same (get_or plan 1 0) 2 x e (set (set plan 1 (get_or plan 1 0 + 1)) (5 + (32 + get_or plan 1 0)) x.set) lain
              ∙ (λ i. with_row (c i) (at + field_start line 2) e (set (set plan 1 (c i + 1)) (5 + (32 + c i)) (lain.set i)));
          rooming = ap (put_back room at end) is.4 ∙ laid_beside room at end order wide (number_in scope.Define s) (field_start line 2) e (within 2 x e lain);
          naming = name-define name is.0 ok is.2;
        }
    entering (entry.Show x) a is =
        let ok = admits-in word.Show a in
        let c = counts.shows in
        record {
          e = show is.0;
          said = is.1;
          admitted = ok;
          planning = row_same 16 1 x is.0 (set plan 2 (get_or plan 2 0 + 1)) is.2 ∙ (λ i. with_row 16 (at + field_start line 1) is.0 (set plan 2 (c i + 1)));
          rooming = ap (put_back room at end) is.3 ∙ laid_beside room at end order wide (number_in scope.Style s) (field_start line 1) is.0 (within 1 x is.0 is.2);
          naming = same_names (with s (show is.0)) refl refl;
        }
    entering (entry.Colour x) a is =
        let ok = admits-in word.Color a in
        let c = counts.colours in
        record {
          e = colour is.0;
          said = is.1;
          admitted = ok;
          planning = row_same 17 1 x is.0 (set plan 3 (get_or plan 3 0 + 1)) is.2 ∙ (λ i. with_row 17 (at + field_start line 1) is.0 (set plan 3 (c i + 1)));
          rooming = ap (put_back room at end) is.3 ∙ laid_beside room at end order wide (number_in scope.Style s) (field_start line 1) is.0 (within 1 x is.0 is.2);
          naming = same_names (with s (colour is.0)) refl refl;
        }
    entering (entry.Condition x y) a is =
        let ok = admits-in word.Cond a in
        let c = counts.conditions in
        let t = is.0.test in
        let g = is.0.colour in
        let q = set plan 4 (get_or plan 4 0 + 1) in
        let row = 18 + 2 * get_or plan 4 0 in
        let next : 18 + 2 * length s.conditions + 1 ≡ 19 + 2 * length s.conditions = omega arith in
        record {
          e = condition is.0;
          said = is.1;
          admitted = ok;
          planning =
              row_same (row + 1) 2 y g (row_with row at x q) is.3
              ∙ ap (with_row (row + 1) (at + field_start line 2) g) (row_same row 1 x t q is.2)
              ∙ (λ i. with_row (18 + 2 * c i + 1) (at + field_start line 2) g (with_row (18 + 2 * c i) (at + field_start line 1) t (set plan 4 (c i + 1))))
              ∙ ap (λ (r : ℕ). with_row r (at + field_start line 2) g (with_row (18 + 2 * length s.conditions) (at + field_start line 1) t (set plan 4 (length s.conditions + 1)))) next;
          rooming =
              ap (put_back room at end) is.4
              ∙ laid_both room at end order wide (number_in scope.Style s) (field_start line 1) (field_start line 2) t g (within 1 x t is.2) (within 2 y g is.3);
          naming = same_names (with s (condition is.0)) refl refl;
        }

    -- ---- there is a row for it, and its places are small

    module _ (short : length head ≤ 32768) where
      small-name : (p : Part) (i : ℕ) → FieldLies line i p → SmallName at p
      small-name p i l = (omega (arith, l.order, l.inside, line-length, order, inside, short), omega (arith, l.inside, line-length, order, inside, short))

      small_row : (i : ℕ) (x : code.Expression) (e : Expression) → Lain line i x e → Small at x
      small_row i x e l = (
        omega (arith, l.lies.order, l.lies.inside, line-length, order, inside, short),
        omega (arith, l.lies.inside, line-length, order, inside, short),
        l.small,
      )

      fits : (r : entries.Entry) → admits_by plan (entry_word r) ≡ true → EntryIs s line w u r (line_said s line) → Fits plan at r
      fits (entry.Property name k) a is = (omega (arith, counts.properties, (property-first s (admits-in word.Prop a)).0), small-name name 1 is.2.0)
      fits (entry.Define name x) a is = (
        omega (arith, counts.defines, (define-next s (admits-in word.Define a)).0),
        small-name name 1 is.2.0,
        small_row 2 x is.0.expression is.3,
      )
      fits (entry.Show x) a is = (omega (arith, counts.shows, show-once s (admits-in word.Show a)), small_row 1 x is.0 is.2)
      fits (entry.Colour x) a is = (omega (arith, counts.colours, colour-once s (admits-in word.Color a)), small_row 1 x is.0 is.2)
      fits (entry.Condition x y) a is = (
        omega (arith, counts.conditions, condition-few s (admits-in word.Cond a)),
        small_row 1 x is.0.test is.2,
        small_row 2 y is.0.colour is.3,
      )

-- ---- where the loop stands

pub record Sofar (head room₀ room names plan : List ℕ) (at n : ℕ) : Type 0 where
  pub s : Style
  pub kept : Kept plan s
  pub named : Named head names s
  pub rest : head_of head ≡ head_from n s (lines (drop at head))
  pub planning : plan_of head ≡ lines_make planned at s (lines (drop at head)) plan
  pub rooming : room_of head room₀ ≡ lines_make roomed at s (lines (drop at head)) room
  pub inside : at ≤ length head + 1
  pub small : n ≤ at + 1
  pub wide : 32768 ≤ length room

pub at_first : (head room plan : List ℕ) → plan ≡ fresh_plan → 32768 ≤ length room → Sofar head room room (replicate 96 0) plan 0 1
unfolding head_of plan_of room_of
at_first head room plan e wide =
    subst (λ (plan : List ℕ). Sofar head room room (replicate 96 0) plan 0 1) (sym e) (record {
      s = empty;
      kept = fresh_kept;
      named = fresh-named head;
      rest = refl;
      planning = refl;
      rooming = refl;
      inside = omega arith;
      small = omega arith;
      wide = wide;
    })

-- ---- one turn

module _ (head room₀ room names plan : List ℕ) (at n : ℕ) (f : Sofar head room₀ room names plan at n) (short : length head ≤ 32768) (more : at < length head) (end : ℕ) (is : end ≡ end_from 10 head at) where
  line-ends : end ≤ length head
  line-ends = omega (arith, is, end-within 10 head at (omega (arith, more)))

  line-order : at ≤ end
  line-order = omega (arith, is)

  line-wide : end ≤ length room
  line-wide = omega (arith, f.wide, line-ends, short)

  next : lines (drop at head) ≡ slice at end head ∷ lines (drop (end + 1) head)
  next = lines_from head at more ∙ (λ i. slice at (sym is i) head ∷ lines (drop (sym is i + 1) head))

  here : head_of head ≡ on_line n (line_said f.s (slice at end head)) (λ e. head_from (suc n) (with f.s e) (lines (drop (end + 1) head)))
  here = f.rest ∙ ap (head_from n f.s) next

  -- as the language has the line and the room beside it
  abbrev text : List ℕ
  text = take (end - at) (drop at head)

  abbrev beside : List ℕ
  beside = take (end - at) (drop at room)

  own-text : text ≡ slice at end head
  own-text = sym (slice_is at end head)

  reads-so : Reads head names plan f.s
  reads-so = reads head names plan f.s f.kept.few f.named f.kept.sets

  pub turn-refused : (x : Refusal) → ((s : Style) → Counted plan s → Reads head names plan s → line_said s text ≡ refused x) → head_of head ≡ refusal n x
  turn-refused x read =
      here
      ∙ ap (λ j. on_line n j (λ e. head_from (suc n) (with f.s e) (lines (drop (end + 1) head))))
      (ap (line_said f.s) (sym own-text) ∙ read f.s f.kept.counted reads-so)

  -- the room has its length again
  module _ (u : List ℕ) (kept-length : length u ≡ length (take (end - at) (drop at room))) where
    line-size : length u ≡ end - at
    line-size = kept-length ∙ ap length (sym (slice_is at end room)) ∙ length-slice at end room line-wide

    pub same-room : length (put_back room at end u) ≡ length room
    same-room = put-length room at end u line-wide line-order line-size

    -- what it adds
    module _ (y : entries.Entry) (read : (admits_by plan (entry_word y) ≡ true) × ((s : Style) → Counted plan s → Reads head names plan s → EntryIs s text beside u y (line_said s text))) where
      added : EntryIs f.s (slice at end head) (slice at end room) u y (line_said f.s (slice at end head))
      added =
          subst (λ (w : List ℕ). EntryIs f.s (slice at end head) w u y (line_said f.s (slice at end head))) (sym (slice_is at end room))
          (subst (λ (l : List ℕ). EntryIs f.s l beside u y (line_said f.s l)) own-text (read.1 f.s f.kept.counted reads-so))

      pub turn-fits : Fits plan at y
      turn-fits = fits head room at end line-order line-ends line-wide u line-size names plan f.s f.kept f.named short y read.0 added

      pub turn_on : (names' plan' : List ℕ) → names' ≡ names_with plan at y names → plan' ≡ plan_with at y plan →
          Sofar head room₀ (put_back room at end u) names' plan' (end + 1) (n + 1)
      turn_on names' plan' is-names is-plan =
          let x = entering head room at end line-order line-ends line-wide u line-size names plan f.s f.kept f.named y read.0 added in
          let t = with f.s x.e in
          let ls = lines (drop (end + 1) head) in
          let to : at + length (slice at end head) + 1 ≡ end + 1 = omega (arith, length-slice at end head line-ends, line-order) in
          let p : plan' ≡ planned at (slice at end head) f.s x.e plan = is-plan ∙ x.planning in
          record {
            s = t;
            kept = subst (λ (p : List ℕ). Kept p t) (sym p) (kept_on f.s plan f.kept at (slice at end head) x.e x.admitted);
            named = subst (λ (m : List ℕ). Named head m t) (sym is-names) x.naming;
            rest = here ∙ ap (λ j. on_line n j (λ e. head_from (suc n) (with f.s e) ls)) x.said ∙ ap (λ (m : ℕ). head_from m t ls) (sym (add-one n));
            planning =
                f.planning
                ∙ ap (λ (l : List (List ℕ)). lines_make planned at f.s l plan) next
                ∙ ap (λ j. onward j plan (λ e. lines_make planned (at + length (slice at end head) + 1) (with f.s e) ls (planned at (slice at end head) f.s e plan))) x.said
                ∙ (λ i. lines_make planned (to i) t ls (sym p i));
            rooming =
                f.rooming
                ∙ ap (λ (l : List (List ℕ)). lines_make roomed at f.s l room) next
                ∙ ap (λ j. onward j room (λ e. lines_make roomed (at + length (slice at end head) + 1) (with f.s e) ls (roomed at (slice at end head) f.s e room))) x.said
                ∙ (λ i. lines_make roomed (to i) t ls (sym x.rooming i));
            inside = omega (arith, line-ends);
            small = omega (arith, f.small, line-order);
            wide = omega (arith, f.wide, same-room);
          }

-- ---- the end

module _ (head room : List ℕ) where
  pub lines-refused : (plan after : List ℕ) (n : ℕ) (x : Refusal) → head_of head ≡ refusal n x → LinesBy head room plan after (Err (record { line = n; refusal = x }))
  lines-refused plan after n x h = record {
    answer = ap (λ (a : Answer Style). on_accepted a (λ s. accepted tt)) (sym h);
    kept = λ s g. absurd (cc);
  }

  pub lines_end : (after names plan : List ℕ) (at n : ℕ) → Sofar head room after names plan at n → length head ≤ at → LinesBy head room plan after (Ok tt)
  lines_end after names plan at n f h =
      let none : lines (drop at head) ≡ [] = ap lines (drop_of_length-le head h) in
      let all : head_of head ≡ accepted f.s = f.rest ∙ ap (head_from n f.s) none in
      record {
        answer = ap (λ (a : Answer Style). on_accepted a (λ s. accepted tt)) (sym all);
        kept = λ s g. (
          sym (f.planning ∙ ap (λ (l : List (List ℕ)). lines_make planned at f.s l plan) none),
          sym (f.rooming ∙ ap (λ (l : List (List ℕ)). lines_make roomed at f.s l after) none),
        );
      }

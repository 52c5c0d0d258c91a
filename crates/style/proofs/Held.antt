-- The plan and the room that an accepted head leaves hold its style: each expression has its row, and beside it lies its tree.
use mathlib.Core.Path.{◌≡◌, refl, sym, ◌∙◌, ap, subst}
use mathlib.Core.Bool.{Bool, true, false}
use mathlib.Core.List.{List, [], ◌∷◌}
use Prim.Native.Nat.{ℕ, suc, ◌+◌, ◌-◌, ◌*◌, ◌<◌, ◌≤◌}
use native.Mathlib.Omega.{arith}
use borrow.Author.Tests.{ltb-true, ltb-false}
use lib.Dec.{ltb}
use lib.ListN.{length, get_or, set, drop, length-set, drop_of_length-le}
use lib.Seq.{slice, length-slice, get_or-set_other}
use Rattle.plan.specs.Layout.{first_define, define_count, condition_count, set_place, from_place, to_place, root_place}
use Rattle.tree.specs.Tree.{place}
use Rattle.syntax.specs.Judge.{slots_after}
use Rattle.checker.specs.Name.{resolved_slots}
use Rattle.checker.specs.Property.{packed_of}
use Rattle.checker.specs.declared.name.Scope.TheVariants as scope
use Rattle.text.specs.Parts.{lines, end_from, fields, field, field_start, part_at}
use Rattle.text.proofs.Law.Parts.{lines_from, end-within, lies, start-next}
use Rattle.text.proofs.Slices.{slice-slice, put-left, put-there}
use Rattle.style.specs.Answer.{accepted}
use Rattle.style.specs.Style.{Declared, Expression, Define, Condition, Style, Entry, empty, with, admits_to, number_in}
use Rattle.style.specs.Style as entry
use Rattle.style.specs.Item.{Item, item_of, item_judged, line_said}
use Rattle.style.specs.Item as item
use Rattle.style.specs.Items.{may_stand}
use Rattle.style.specs.Head.{head_from, head_of, head_size, room_size}
use Rattle.style.specs.Compile.{with_set, with_row, planned, fresh_plan, laid, roomed, onward, lines_make, plan_of, room_of}
use Rattle.style.specs.Holds.{Each, Laid, Holds}
use Rattle.style.proofs.Law.Each.{each_map, each_more, each_none, each_at}
use Rattle.style.proofs.Law.Answers.{accepted_in}
use Rattle.style.proofs.Law.Ladder.{both}
use Rattle.style.proofs.Law.Plans.{Kept, fresh_kept, kept_on, word_of, row_other, row_is, row-length, property-first, define-next, show-once, colour-once, condition-few}
use Rattle.style.proofs.Law.Rooms.{tree-length, laid-length}
use Rattle.style.proofs.Law.Turns.{first_fine}
use Rattle.style.proofs.Items.{Adds, property, define, show, color, condition, item-adds, accepted-text}
use Rattle.style.proofs.Lines.{FieldsOf, item-stands, item-fields, said-item, said-fine}

-- ---- an expression is a field of its line

pub record IsField (line : List ℕ) (i : ℕ) (e : Expression) : Type 0 where
  pub own : e.text ≡ field line i
  pub there : i < length (fields line)

-- it lies in the line from where the field begins
module _ (line : List ℕ) (i : ℕ) (e : Expression) (f : IsField line i e) where
  field-inside : field_start line i + length e.text ≤ length line
  unfolding part_at
  field-inside =
      let l = lies 9 line i f.there in
      let n : length e.text ≡ (part_at 9 line i).end - (part_at 9 line i).start = ap length (f.own ∙ sym l.is) ∙ length-slice (part_at 9 line i).start (part_at 9 line i).end line l.inside in
      omega (arith, n, l.inside, l.order, l.begins)

  field_is : slice (field_start line i) (field_start line i + length e.text) line ≡ e.text
  field_is =
      let l = lies 9 line i f.there in
      let n : length e.text ≡ (part_at 9 line i).end - (part_at 9 line i).start = ap length (f.own ∙ sym l.is) ∙ length-slice (part_at 9 line i).start (part_at 9 line i).end line l.inside in
      let from : field_start line i ≡ (part_at 9 line i).start = sym l.begins in
      let to : field_start line i + length e.text ≡ (part_at 9 line i).end = omega (arith, n, l.order, l.begins) in
      (λ j. slice (from j) (to j) line) ∙ l.is ∙ sym f.own

-- what a line adds has its expressions from the line
abbrev pub FromLine : List ℕ → Entry → Type 0
FromLine line (entry.property d) = Unit {0}
FromLine line (entry.define d) = IsField line 2 d.expression
FromLine line (entry.show e) = IsField line 1 e
FromLine line (entry.colour e) = IsField line 1 e
FromLine line (entry.condition c) = IsField line 1 c.test × IsField line 2 c.colour

from-adds : (s : Style) (line : List ℕ) (i : Item) (e : Entry) → Adds s i e → FieldsOf line i → FromLine line e
from-adds s line _ _ (property d) f = tt
from-adds s line (item.define name text) _ (define e h) f = record { own = accepted-text _ _ text e h ∙ f.0; there = f.1 }
from-adds s line (item.show text) _ (show e h) f = record { own = accepted-text _ _ text e h ∙ f.0; there = f.1 }
from-adds s line (item.color text) _ (color e h) f = record { own = accepted-text _ _ text e h ∙ f.0; there = f.1 }
from-adds s line (item.condition test colour) _ (condition t e h k) f = (
  record { own = accepted-text _ _ test t h ∙ f.0; there = omega (arith, f.2) },
  record { own = accepted-text _ _ colour e k ∙ f.1; there = f.2 },
)

stands_word : (s : Style) (i : Item) (e : Entry) → Adds s i e → may_stand s i ≡ true → admits_to s (word_of e) ≡ true
stands_word s _ _ (property d) ok = (both _ _ ok).0
stands_word s _ _ (define e h) ok = (both _ _ ok).0
stands_word s _ _ (show e h) ok = (both _ _ ok).0
stands_word s _ _ (color e h) ok = (both _ _ ok).0
stands_word s _ _ (condition t e h k) ok = (both _ _ ok).0

-- ---- a line from `at` up to `end`

-- a row stays
record Same (p q : List ℕ) (row : ℕ) : Type 0 where
  starts : get_or q (from_place row) 0 ≡ get_or p (from_place row) 0
  ends : get_or q (to_place row) 0 ≡ get_or p (to_place row) 0
  rooted : get_or q (root_place row) 0 ≡ get_or p (root_place row) 0

-- counts and sets are no rows
same-before : (p q : List ℕ) → ((j : ℕ) → 53 ≤ j → get_or q j 0 ≡ get_or p j 0) → (row : ℕ) → Same p q row
same-before p q h row = record { starts = h (from_place row) (omega arith); ends = h (to_place row) (omega arith); rooted = h (root_place row) (omega arith) }

same_count : (p : List ℕ) (c m : ℕ) → c < 53 → (row : ℕ) → Same p (set p c m) row
same_count p c m h = same-before p (set p c m) (λ j b. get_or-set_other p c j m 0 (λ e. omega (arith, e, b, h)))

same_row : (p : List ℕ) (row from : ℕ) (e : Expression) (k : ℕ) → (k ≡ row → ⊥) → Same p (with_row row from e p) k
same_row p row from e k h = record {
  starts = row_other p row from e (from_place k) (λ q. h (omega (arith, q))) (λ q. omega (arith, q)) (λ q. omega (arith, q));
  ends = row_other p row from e (to_place k) (λ q. omega (arith, q)) (λ q. h (omega (arith, q))) (λ q. omega (arith, q));
  rooted = row_other p row from e (root_place k) (λ q. omega (arith, q)) (λ q. omega (arith, q)) (λ q. h (omega (arith, q)));
}

same-both : {p q r : List ℕ} {row : ℕ} → Same p q row → Same q r row → Same p r row
same-both a b = record { starts = b.starts ∙ a.starts; ends = b.ends ∙ a.ends; rooted = b.rooted ∙ a.rooted }

-- an expression by the numbers of its row
abbrev RowHeld : (List ℕ → ℕ) → List ℕ → List ℕ → List ℕ → ℕ → Expression → Type 0
RowHeld number head room plan row e = Laid number head room (get_or plan (from_place row) 0) (get_or plan (to_place row) 0) (get_or plan (root_place row) 0) e

laid_same : {number : List ℕ → ℕ} {text room : List ℕ} {a b c a' b' c' : ℕ} {e : Expression} → a' ≡ a → b' ≡ b → c' ≡ c → Laid number text room a b c e → Laid number text room a' b' c' e
laid_same {number} {text} {room} {a} {b} {c} {a'} {b'} {c'} {e} p q r l =
    subst (λ (x : ℕ). Laid number text room x b' c' e) (sym p)
    (subst (λ (y : ℕ). Laid number text room a y c' e) (sym q) (subst (λ (z : ℕ). Laid number text room a b z e) (sym r) l))

module _ (head room : List ℕ) (at end : ℕ) (order : at ≤ end) (inside : end ≤ length head) (wide : end ≤ length room) where
  abbrev line : List ℕ
  line = slice at end head

  line-length : length line ≡ end - at
  line-length = length-slice at end head inside

  module _ (i : ℕ) (e : Expression) (f : IsField line i e) where
    abbrev start : ℕ
    start = at + field_start line i

    abbrev stop : ℕ
    stop = at + field_start line i + length e.text

    stop-end : stop ≤ end
    stop-end = omega (arith, field-inside line i e f, line-length, order)

    stop-room : stop ≤ length room
    stop-room = omega (arith, stop-end, wide)

    pub laid-new : (number : List ℕ → ℕ) → Laid number head (laid number start e room) start stop (place e.tree) e
    unfolding laid
    laid-new number =
        let assoc : at + (field_start line i + length e.text) ≡ stop = omega arith in
        record {
          order = omega arith;
          inside = omega (arith, stop-end, inside);
          is =
              ap (λ (n : ℕ). slice start n head) (sym assoc)
              ∙ sym (slice-slice head at end (field_start line i) (field_start line i + length e.text) (omega (arith, stop-end)))
              ∙ field_is line i e f;
          rooted = refl;
          before = slice start stop room;
          size = length-slice start stop room stop-room ∙ omega arith;
          beside =
              put-there room start stop (resolved_slots number e.text (slots_after (slice start stop room) e.text)) stop-room (omega arith) (tree-length number start e room stop-room);
        }

    -- what ends before the line stays
    pub laid-old : (number other : List ℕ → ℕ) (a b c : ℕ) (x : Expression) → b ≤ start → Laid number head room a b c x → Laid number head (laid other start e room) a b c x
    unfolding laid
    laid-old number other a b c x h l = record {
      order = l.order;
      inside = l.inside;
      is = l.is;
      rooted = l.rooted;
      before = l.before;
      size = l.size;
      beside = put-left room start stop (resolved_slots other e.text (slots_after (slice start stop room) e.text)) stop-room (omega arith) a b h ∙ l.beside;
    }

-- ---- the rows of a style, which end before a place

abbrev RowTo : (List ℕ → ℕ) → List ℕ → List ℕ → List ℕ → ℕ → ℕ → Expression → Type 0
RowTo number head room plan at row e = RowHeld number head room plan row e × (get_or plan (to_place row) 0 ≤ at)

-- behind some defines
abbrev StyleTo : (List ℕ → ℕ) → List ℕ → List ℕ → List ℕ → ℕ → ℕ → ℕ → Expression → Type 0
StyleTo number head room plan n at row e = RowTo number head room plan at row e × ((i : ℕ) → i < n → get_or plan (to_place i) 0 ≤ get_or plan (from_place row) 0)

pub record Through (head room plan : List ℕ) (s : Style) (at : ℕ) : Type 0 where
  pub defines : Each (λ i (d : Define). RowTo (number_in scope.Define s) head room plan at i d.expression) 0 s.defines
  pub shows : Each (λ i (e : Expression). StyleTo (number_in scope.Style s) head room plan (length s.defines) at (16 + i) e) 0 s.shows
  pub colours : Each (λ i (e : Expression). StyleTo (number_in scope.Style s) head room plan (length s.defines) at (17 + i) e) 0 s.colours
  pub conditions :
      Each (λ i (c : Condition Expression). StyleTo (number_in scope.Style s) head room plan (length s.defines) at (18 + 2 * i) c.test × StyleTo (number_in scope.Style s) head room plan (length s.defines) at (19 + 2 * i) c.colour)
      0 s.conditions

-- ---- what stays when a line is added

module _ (head room room' plan plan' : List ℕ) (at to : ℕ) (later : at ≤ to)
    (old : (number : List ℕ → ℕ) (a b c : ℕ) (x : Expression) → b ≤ at → Laid number head room a b c x → Laid number head room' a b c x) where
  row_stays : (number : List ℕ → ℕ) (row : ℕ) (e : Expression) → Same plan plan' row → RowTo number head room plan at row e → RowTo number head room' plan' to row e
  row_stays number row e m x = (laid_same m.starts m.ends m.rooted (old number _ _ _ e x.1 x.0), omega (arith, m.ends, x.1, later))

  style-stays : (number : List ℕ → ℕ) (n row : ℕ) (e : Expression) → Same plan plan' row → ((i : ℕ) → i < n → Same plan plan' i) → StyleTo number head room plan n at row e →
      StyleTo number head room' plan' n to row e
  style-stays number n row e m ms x = (row_stays number row e m x.0, λ i h. omega (arith, x.1 i h, (ms i h).ends, m.starts))

  module _ (s : Style) (t : Through head room plan s at) where
    defines-stay : ((i : ℕ) → i < length s.defines → Same plan plan' i) → Each (λ i (d : Define). RowTo (number_in scope.Define s) head room' plan' to i d.expression) 0 s.defines
    defines-stay ms =
        each_map (λ i (d : Define). RowTo (number_in scope.Define s) head room plan at i d.expression) _ 0 s.defines
        (λ k d low high x. row_stays (number_in scope.Define s) k d.expression (ms k (omega (arith, high))) x) t.defines

    module _ (ms : (i : ℕ) → i < length s.defines → Same plan plan' i) where
      singles-stay : (row : ℕ) (es : List Expression) → ((i : ℕ) → i < length es → Same plan plan' (row + i)) →
          Each (λ i (e : Expression). StyleTo (number_in scope.Style s) head room plan (length s.defines) at (row + i) e) 0 es →
          Each (λ i (e : Expression). StyleTo (number_in scope.Style s) head room' plan' (length s.defines) to (row + i) e) 0 es
      singles-stay row es rs x =
          each_map (λ i (e : Expression). StyleTo (number_in scope.Style s) head room plan (length s.defines) at (row + i) e) _ 0 es
          (λ k e low high y. style-stays (number_in scope.Style s) (length s.defines) (row + k) e (rs k (omega (arith, high))) ms y) x

      conditions-stay : ((i : ℕ) → i < length s.conditions → Same plan plan' (18 + 2 * i) × Same plan plan' (19 + 2 * i)) →
          Each (λ i (c : Condition Expression). StyleTo (number_in scope.Style s) head room' plan' (length s.defines) to (18 + 2 * i) c.test × StyleTo (number_in scope.Style s) head room' plan' (length s.defines) to (19 + 2 * i) c.colour) 0 s.conditions
      conditions-stay rs =
          each_map (λ i (c : Condition Expression). StyleTo (number_in scope.Style s) head room plan (length s.defines) at (18 + 2 * i) c.test × StyleTo (number_in scope.Style s) head room plan (length s.defines) at (19 + 2 * i) c.colour) _ 0 s.conditions
          (λ k c low high y. (
            style-stays (number_in scope.Style s) (length s.defines) (18 + 2 * k) c.test (rs k (omega (arith, high))).0 ms y.0,
            style-stays (number_in scope.Style s) (length s.defines) (19 + 2 * k) c.colour (rs k (omega (arith, high))).1 ms y.1,
          )) t.conditions

-- ---- a line more

module _ (head room plan : List ℕ) (at end : ℕ) (order : at ≤ end) (inside : end ≤ length head) (wide : end ≤ length room) (s : Style) (k : Kept plan s) (t : Through head room plan s at) where
  abbrev own : List ℕ
  own = slice at end head

  -- the row that is written
  new_row : (number : List ℕ → ℕ) (q : List ℕ) (row i : ℕ) (e : Expression) (f : IsField own i e) → length q ≡ 203 → row < 50 →
      RowTo number head (laid number (at + field_start own i) e room) (with_row row (at + field_start own i) e q) (end + 1) row e
  new_row number q row i e f size small =
      let w = row_is q row (at + field_start own i) e size small in (
        laid_same w.starts w.ends w.rooted (laid-new head room at end order inside wide i e f number),
        omega (arith, w.ends, stop-end head room at end order inside wide i e f),
      )

  through-define : (d : Define) → admits_to s (word_of (entry.define d)) ≡ true → IsField own 2 d.expression →
      Through head (roomed at own s (entry.define d) room) (planned at own s (entry.define d) plan) (with s (entry.define d)) (end + 1)
  through-define d ok f =
      let n = length s.defines in
      let (few, z) = define-next s ok in
      let q = set plan define_count (n + 1) in
      let q₂ = with_set (first_define + n) d.expression.kinds q in
      let from = at + field_start own 2 in
      let p = with_row n from d.expression q₂ in
      let number = number_in scope.Define s in
      let size : length q₂ ≡ 203 = length-set q (set_place (first_define + n)) (packed_of d.expression.kinds) ∙ length-set plan define_count (n + 1) ∙ k.size in
      let same : (i : ℕ) → (i ≡ n → ⊥) → Same plan p i =
      λ i h. same-both (same-both (same_count plan define_count (n + 1) (omega arith) i) (same_count q (set_place (first_define + n)) (packed_of d.expression.kinds) (omega (arith, few)) i)) (same_row q₂ n from d.expression i h) in
      let old : (number : List ℕ → ℕ) (a b c : ℕ) (x : Expression) → b ≤ at → Laid number head room a b c x → Laid number head (laid (number_in scope.Define s) from d.expression room) a b c x =
      λ other a b c x h l. laid-old head room at end order inside wide 2 d.expression f other number a b c x (omega (arith, h)) l in
      record {
        defines =
            each_more (λ i (x : Define). RowTo number head (laid number from d.expression room) p (end + 1) i x.expression) 0 n s.defines d (omega arith)
            (defines-stay head room (laid number from d.expression room) plan p at (end + 1) (omega (arith, order)) old s t (λ i h. same i (λ e. omega (arith, e, h))))
            (new_row number q₂ n 2 d.expression f size (omega (arith, few)));
        shows = each_none _ 0 s.shows z.shows;
        colours = each_none _ 0 s.colours z.colours;
        conditions = each_none _ 0 s.conditions z.conditions;
      }

  -- `show` or `color`: the only one, in a row of its own
  module _ (row c m : ℕ) (few : row < 18) (behind : 16 ≤ row) (small : c < 5) (e : Expression) (f : IsField own 1 e) where
    abbrev first : ℕ
    first = at + field_start own 1

    abbrev number : List ℕ → ℕ
    number = number_in scope.Style s

    abbrev after : List ℕ
    after = laid number first e room

    abbrev next : List ℕ
    next = with_row row first e (set plan c m)

    single-same : (i : ℕ) → (i ≡ row → ⊥) → Same plan next i
    single-same i h = same-both (same_count plan c m (omega (arith, small)) i) (same_row (set plan c m) row first e i h)

    single-old : (other : List ℕ → ℕ) (a b d : ℕ) (x : Expression) → b ≤ at → Laid other head room a b d x → Laid other head after a b d x
    single-old other a b d x h l = laid-old head room at end order inside wide 1 e f other number a b d x (omega (arith, h)) l

    single-new : StyleTo number head after next (length s.defines) (end + 1) row e
    single-new =
        let w = row_is (set plan c m) row first e (length-set plan c m ∙ k.size) (omega (arith, few)) in (
          new_row number (set plan c m) row 1 e f (length-set plan c m ∙ k.size) (omega (arith, few)),
          λ i h.
              let x = each_at (λ i (d : Define). RowTo (number_in scope.Define s) head room plan at i d.expression) 0 s.defines t.defines i h in
              let z : 0 + i ≡ i = omega arith in
              let e : get_or plan (to_place i) 0 ≤ at = subst (λ (i : ℕ). get_or plan (to_place i) 0 ≤ at) z x.1.1 in
              omega (arith, e, (single-same i (λ e. omega (arith, e, h, k.few.defines, behind))).ends, w.starts),
        )

    -- the others
    single-defines : Each (λ i (d : Define). RowTo (number_in scope.Define s) head after next (end + 1) i d.expression) 0 s.defines
    single-defines = defines-stay head room after plan next at (end + 1) (omega (arith, order)) single-old s t (λ i h. single-same i (λ e. omega (arith, e, h, k.few.defines, behind)))

    single-others : (r : ℕ) (es : List Expression) → ((i : ℕ) → i < length es → r + i ≡ row → ⊥) →
        Each (λ i (e : Expression). StyleTo number head room plan (length s.defines) at (r + i) e) 0 es → Each (λ i (e : Expression). StyleTo number head after next (length s.defines) (end + 1) (r + i) e) 0 es
    single-others r es apart x =
        singles-stay head room after plan next at (end + 1) (omega (arith, order)) single-old s t (λ i h. single-same i (λ e. omega (arith, e, h, k.few.defines, behind))) r es
        (λ i h. single-same (r + i) (apart i h)) x

    single-conditions :
        Each (λ i (c : Condition Expression). StyleTo number head after next (length s.defines) (end + 1) (18 + 2 * i) c.test × StyleTo number head after next (length s.defines) (end + 1) (19 + 2 * i) c.colour) 0 s.conditions
    single-conditions =
        conditions-stay head room after plan next at (end + 1) (omega (arith, order)) single-old s t (λ i h. single-same i (λ e. omega (arith, e, h, k.few.defines, behind)))
        (λ i h. (single-same (18 + 2 * i) (λ e. omega (arith, e, few)), single-same (19 + 2 * i) (λ e. omega (arith, e, few))))

  through-show : (e : Expression) → admits_to s (word_of (entry.show e)) ≡ true → IsField own 1 e →
      Through head (roomed at own s (entry.show e) room) (planned at own s (entry.show e) plan) (with s (entry.show e)) (end + 1)
  through-show e ok f =
      let m = length s.shows + 1 in
      let zero : 0 ≡ length s.shows = omega (arith, show-once s ok) in
      let p = with_row 16 (at + field_start own 1) e (set plan 2 m) in
      let r = laid (number_in scope.Style s) (at + field_start own 1) e room in
      let P : ℕ → Expression → Type 0 = λ i x. StyleTo (number_in scope.Style s) head r p (length s.defines) (end + 1) (16 + i) x in
      record {
        defines = single-defines 16 2 m (omega arith) (omega arith) (omega arith) e f;
        shows = each_more P 0 (length s.shows) s.shows e (omega arith) (each_none P 0 s.shows (sym zero)) (subst (λ (i : ℕ). P i e) zero (single-new 16 2 m (omega arith) (omega arith) (omega arith) e f));
        colours = single-others 16 2 m (omega arith) (omega arith) (omega arith) e f 17 s.colours (λ i h q. omega (arith, q)) t.colours;
        conditions = single-conditions 16 2 m (omega arith) (omega arith) (omega arith) e f;
      }

  through-colour : (e : Expression) → admits_to s (word_of (entry.colour e)) ≡ true → IsField own 1 e →
      Through head (roomed at own s (entry.colour e) room) (planned at own s (entry.colour e) plan) (with s (entry.colour e)) (end + 1)
  through-colour e ok f =
      let m = length s.colours + 1 in
      let zero : 0 ≡ length s.colours = omega (arith, colour-once s ok) in
      let p = with_row 17 (at + field_start own 1) e (set plan 3 m) in
      let r = laid (number_in scope.Style s) (at + field_start own 1) e room in
      let P : ℕ → Expression → Type 0 = λ i x. StyleTo (number_in scope.Style s) head r p (length s.defines) (end + 1) (17 + i) x in
      record {
        defines = single-defines 17 3 m (omega arith) (omega arith) (omega arith) e f;
        shows = single-others 17 3 m (omega arith) (omega arith) (omega arith) e f 16 s.shows (λ i h q. omega (arith, q, h, k.few.shows)) t.shows;
        colours = each_more P 0 (length s.colours) s.colours e (omega arith) (each_none P 0 s.colours (sym zero)) (subst (λ (i : ℕ). P i e) zero (single-new 17 3 m (omega arith) (omega arith) (omega arith) e f));
        conditions = single-conditions 17 3 m (omega arith) (omega arith) (omega arith) e f;
      }

  -- `cond`: a test, and behind it its colour
  module _ (c : Condition Expression) (f : IsField own 1 c.test) (g : IsField own 2 c.colour) (few : length s.conditions < 16) where
    abbrev n : ℕ
    n = length s.conditions

    abbrev by : List ℕ → ℕ
    by = number_in scope.Style s

    abbrev test_at : ℕ
    test_at = at + field_start own 1

    abbrev colour-at : ℕ
    colour-at = at + field_start own 2

    abbrev between : List ℕ
    between = laid by test_at c.test room

    abbrev both-laid : List ℕ
    both-laid = laid by colour-at c.colour between

    abbrev counted : List ℕ
    counted = set plan condition_count (n + 1)

    abbrev tested : List ℕ
    tested = with_row (18 + 2 * n) test_at c.test counted

    abbrev written : List ℕ
    written = with_row (19 + 2 * n) colour-at c.colour tested

    -- the colour begins behind the test
    apart : test_at + length c.test.text ≤ colour-at
    apart = omega (arith, start-next (fields own) 1 (omega (arith, g.there)), ap length f.own)

    still-wide : end ≤ length between
    still-wide = omega (arith, wide, laid-length by test_at c.test room (stop-room head room at end order inside wide 1 c.test f))

    condition-old : (other : List ℕ → ℕ) (a b d : ℕ) (x : Expression) → b ≤ at → Laid other head room a b d x → Laid other head both-laid a b d x
    condition-old other a b d x h l =
        laid-old head between at end order inside still-wide 2 c.colour g other by a b d x (omega (arith, h))
        (laid-old head room at end order inside wide 1 c.test f other by a b d x (omega (arith, h)) l)

    condition-same : (i : ℕ) → (i ≡ 18 + 2 * n → ⊥) → (i ≡ 19 + 2 * n → ⊥) → Same plan written i
    condition-same i h k =
        same-both (same-both (same_count plan condition_count (n + 1) (omega arith) i) (same_row counted (18 + 2 * n) test_at c.test i h)) (same_row tested (19 + 2 * n) colour-at c.colour i k)

    sized : length counted ≡ 203
    sized = length-set plan condition_count (n + 1) ∙ k.size

    defines-before : (i : ℕ) → i < length s.defines → get_or written (to_place i) 0 ≤ at
    defines-before i h =
        let x = each_at (λ i (d : Define). RowTo (number_in scope.Define s) head room plan at i d.expression) 0 s.defines t.defines i h in
        let z : 0 + i ≡ i = omega arith in
        let e : get_or plan (to_place i) 0 ≤ at = subst (λ (i : ℕ). get_or plan (to_place i) 0 ≤ at) z x.1.1 in
        omega (arith, e, (condition-same i (λ e. omega (arith, e, h, k.few.defines)) (λ e. omega (arith, e, h, k.few.defines))).ends)

    test-new : StyleTo by head both-laid written (length s.defines) (end + 1) (18 + 2 * n) c.test
    test-new =
        let w = row_is counted (18 + 2 * n) test_at c.test sized (omega (arith, few)) in
        let m = same_row tested (19 + 2 * n) colour-at c.colour (18 + 2 * n) (λ e. omega (arith, e)) in
        let l = laid-old head between at end order inside still-wide 2 c.colour g by by _ _ _ c.test apart (laid-new head room at end order inside wide 1 c.test f by) in (
          (laid_same (m.starts ∙ w.starts) (m.ends ∙ w.ends) (m.rooted ∙ w.rooted) l, omega (arith, m.ends, w.ends, stop-end head room at end order inside wide 1 c.test f)),
          λ i h. omega (arith, defines-before i h, m.starts, w.starts),
        )

    colour-new : StyleTo by head both-laid written (length s.defines) (end + 1) (19 + 2 * n) c.colour
    colour-new =
        let w = row_is tested (19 + 2 * n) colour-at c.colour (row-length counted (18 + 2 * n) test_at c.test ∙ sized) (omega (arith, few)) in (
          (laid_same w.starts w.ends w.rooted (laid-new head between at end order inside still-wide 2 c.colour g by), omega (arith, w.ends, stop-end head between at end order inside still-wide 2 c.colour g)),
          λ i h. omega (arith, defines-before i h, w.starts),
        )

    through-condition : Through head both-laid written (with s (entry.condition c)) (end + 1)
    through-condition =
        let ms : (i : ℕ) → i < length s.defines → Same plan written i = λ i h. condition-same i (λ e. omega (arith, e, h, k.few.defines)) (λ e. omega (arith, e, h, k.few.defines)) in
        let later : at ≤ end + 1 = omega (arith, order) in
        record {
          defines = defines-stay head room both-laid plan written at (end + 1) later condition-old s t ms;
          shows = singles-stay head room both-laid plan written at (end + 1) later condition-old s t ms 16 s.shows (λ i h. condition-same (16 + i) (λ e. omega (arith, e, h, k.few.shows)) (λ e. omega (arith, e, h, k.few.shows))) t.shows;
          colours = singles-stay head room both-laid plan written at (end + 1) later condition-old s t ms 17 s.colours (λ i h. condition-same (17 + i) (λ e. omega (arith, e, h, k.few.colours)) (λ e. omega (arith, e, h, k.few.colours))) t.colours;
          conditions =
              each_more (λ i (c : Condition Expression). StyleTo by head both-laid written (length s.defines) (end + 1) (18 + 2 * i) c.test × StyleTo by head both-laid written (length s.defines) (end + 1) (19 + 2 * i) c.colour)
              0 n s.conditions c (omega arith)
              (conditions-stay head room both-laid plan written at (end + 1) later condition-old s t ms
              (λ i h. (condition-same (18 + 2 * i) (λ e. omega (arith, e, h)) (λ e. omega (arith, e, h)), condition-same (19 + 2 * i) (λ e. omega (arith, e, h)) (λ e. omega (arith, e, h)))))
              (test-new, colour-new);
        }

  through-on : (e : Entry) → admits_to s (word_of e) ≡ true → FromLine own e → Through head (roomed at own s e room) (planned at own s e plan) (with s e) (end + 1)
  through-on (entry.property d) ok f =
      let (few, none, z) = property-first s ok in
      record {
        defines = each_none _ 0 s.defines none;
        shows = each_none _ 0 s.shows z.shows;
        colours = each_none _ 0 s.colours z.colours;
        conditions = each_none _ 0 s.conditions z.conditions;
      }
  through-on (entry.define d) ok f = through-define d ok f
  through-on (entry.show e) ok f = through-show e ok f
  through-on (entry.colour e) ok f = through-colour e ok f
  through-on (entry.condition c) ok f = through-condition c f.0 f.1 (condition-few s ok)

  room-on : (e : Entry) → FromLine own e → length (roomed at own s e room) ≡ length room
  room-on (entry.property d) f = refl
  room-on (entry.define d) f = laid-length (number_in scope.Define s) (at + field_start own 2) d.expression room (stop-room head room at end order inside wide 2 d.expression f)
  room-on (entry.show e) f = laid-length (number_in scope.Style s) (at + field_start own 1) e room (stop-room head room at end order inside wide 1 e f)
  room-on (entry.colour e) f = laid-length (number_in scope.Style s) (at + field_start own 1) e room (stop-room head room at end order inside wide 1 e f)
  room-on (entry.condition c) f =
      let first = laid-length (number_in scope.Style s) (at + field_start own 1) c.test room (stop-room head room at end order inside wide 1 c.test f.0) in
      laid-length (number_in scope.Style s) (at + field_start own 2) c.colour (laid (number_in scope.Style s) (at + field_start own 1) c.test room)
      (omega (arith, first, stop-room head room at end order inside wide 2 c.colour f.1))
      ∙ first

-- ---- lines in turn

-- a place further on
through-later : (head room plan : List ℕ) (s : Style) (at to : ℕ) → at ≤ to → Through head room plan s at → Through head room plan s to
through-later head room plan s at to later t =
    let same : (row : ℕ) → Same plan plan row = λ row. record { starts = refl; ends = refl; rooted = refl } in
    let old : (number : List ℕ → ℕ) (a b c : ℕ) (x : Expression) → b ≤ at → Laid number head room a b c x → Laid number head room a b c x = λ number a b c x h l. l in
    record {
      defines = defines-stay head room room plan plan at to later old s t (λ i h. same i);
      shows = singles-stay head room room plan plan at to later old s t (λ i h. same i) 16 s.shows (λ i h. same (16 + i)) t.shows;
      colours = singles-stay head room room plan plan at to later old s t (λ i h. same i) 17 s.colours (λ i h. same (17 + i)) t.colours;
      conditions = conditions-stay head room room plan plan at to later old s t (λ i h. same i) (λ i h. (same (18 + 2 * i), same (19 + 2 * i)));
    }

-- what lines leave that are accepted
pub record Left (head room : List ℕ) (s : Style) (plan room' : List ℕ) : Type 0 where
  pub kept : Kept plan s
  pub through : Through head room' plan s (length head + 1)
  pub size : length room' ≡ length room

abbrev first_of : List (List ℕ) → List ℕ
first_of [] = []
first_of (l ∷ ls) = l

lines-leave : (head : List ℕ) → length head ≤ 32768 → (ls : List (List ℕ)) (at n : ℕ) (s t : Style) (plan room : List ℕ) → lines (drop at head) ≡ ls → at ≤ length head + 1 → 32768 ≤ length room →
    head_from n s ls ≡ accepted t → Kept plan s → Through head room plan s at → Left head room t (lines_make planned at s ls plan) (lines_make roomed at s ls room)
lines-leave head short [] at n s t plan room is inside wide h k x =
    let e : s ≡ t = ap (accepted_in t) h in
    subst (λ (t : Style). Left head room t plan room) e (record { kept = k; through = through-later head room plan s at (length head + 1) inside x; size = refl })
lines-leave head short (l ∷ ls) at n s t plan room is inside wide h k x =
    let (e, said, rest) = first_fine line_said head_from (λ n s. refl) (λ n s x xs. refl) n s t l ls h in
    let more : at < length head = some at is in
    let end = end_from 10 head at in
    let ends : end ≤ length head = end-within 10 head at (omega (arith, more)) in
    let order : at ≤ end = omega arith in
    let cut = sym is ∙ lines_from head at more in
    let own : l ≡ slice at end head = ap first_of cut in
    let left : lines (drop (end + 1) head) ≡ ls = sym (ap (drop 1) cut) in
    let (i, item) = said-fine s l e said in
    let adds = item-adds s i e (sym (said-item s l i item) ∙ said) in
    let ok = stands_word s i e adds (item-stands s l i item).1 in
    let f : FromLine (slice at end head) e = subst (λ (l : List ℕ). FromLine l e) own (from-adds s l i e adds (item-fields s l i item)) in
    let room-wide : end ≤ length room = omega (arith, wide, ends, short) in
    let to : at + length l + 1 ≡ end + 1 = omega (arith, ap length own, length-slice at end head ends, order) in
    let k' = kept_on s plan k at (slice at end head) e ok in
    let x' = through-on head room plan at end order ends room-wide s k x e ok f in
    let size : length (roomed at (slice at end head) s e room) ≡ length room = room-on head room plan at end order ends room-wide s k x e f in
    let r = lines-leave head short ls (end + 1) (suc n) (with s e) t (planned at (slice at end head) s e plan) (roomed at (slice at end head) s e room) left (omega (arith, ends)) (omega (arith, size, wide)) rest k' x' in
    let p : lines_make planned at s (l ∷ ls) plan ≡ lines_make planned (end + 1) (with s e) ls (planned at (slice at end head) s e plan) =
    ap (λ j. onward j plan (λ e. lines_make planned (at + length l + 1) (with s e) ls (planned at l s e plan))) said ∙ (λ j. lines_make planned (to j) (with s e) ls (planned at (own j) s e plan)) in
    let q : lines_make roomed at s (l ∷ ls) room ≡ lines_make roomed (end + 1) (with s e) ls (roomed at (slice at end head) s e room) =
    ap (λ j. onward j room (λ e. lines_make roomed (at + length l + 1) (with s e) ls (roomed at l s e room))) said ∙ (λ j. lines_make roomed (to j) (with s e) ls (roomed at (own j) s e room)) in
    let r' : Left head room t (lines_make planned (end + 1) (with s e) ls (planned at (slice at end head) s e plan)) (lines_make roomed (end + 1) (with s e) ls (roomed at (slice at end head) s e room)) =
    record { kept = r.kept; through = r.through; size = r.size ∙ size } in
    subst (λ (y : List ℕ). Left head room t y (lines_make roomed at s (l ∷ ls) room)) (sym p)
    (subst (λ (z : List ℕ). Left head room t (lines_make planned (end + 1) (with s e) ls (planned at (slice at end head) s e plan)) z) (sym q) r')
  where
    no_line : ◌≡◌ {A = List (List ℕ)} [] (l ∷ ls) → ⊥
    no_line e = omega (arith, ap length e)

    tested : (at : ℕ) (b : Bool) → ltb at (length head) ≡ b → lines (drop at head) ≡ l ∷ ls → at < length head
    tested at true e is = ltb-true at (length head) e
    tested at false e is = absurd (no_line (sym (ap lines (drop_of_length-le head (ltb-false at (length head) e))) ∙ is))

    some : (at : ℕ) → lines (drop at head) ≡ l ∷ ls → at < length head
    some at is = tested at (ltb at (length head)) refl is

-- ---- an accepted head

module _ (head room : List ℕ) (s : Style) (is : head_of head ≡ accepted s) (short : length head ≤ head_size) (wide : room_size ≤ length room) where
  left : Left head room s (plan_of head) (room_of head room)
  unfolding head_of plan_of room_of
  left =
      lines-leave head short (lines head) 0 1 empty s fresh_plan room refl (omega arith) wide is fresh_kept
      (record { defines = tt; shows = tt; colours = tt; conditions = tt })

  pub compiled-length : length (room_of head room) ≡ length room
  compiled-length = left.size

  pub compiled-holds : Holds head (room_of head room) (plan_of head) s
  compiled-holds =
      let x = left.through in
      let number = number_in scope.Style s in
      record {
        size = left.kept.size;
        few = left.kept.few;
        counted = left.kept.counted;
        sets = left.kept.sets;
        expressed = record {
          defines = each_map (λ i (d : Define). RowTo (number_in scope.Define s) head (room_of head room) (plan_of head) (length head + 1) i d.expression) _ 0 s.defines (λ k d low high y. y.0) x.defines;
          shows = each_map (λ i (e : Expression). StyleTo number head (room_of head room) (plan_of head) (length s.defines) (length head + 1) (16 + i) e) _ 0 s.shows (λ k e low high y. (y.0.0, y.1)) x.shows;
          colours = each_map (λ i (e : Expression). StyleTo number head (room_of head room) (plan_of head) (length s.defines) (length head + 1) (17 + i) e) _ 0 s.colours (λ k e low high y. (y.0.0, y.1)) x.colours;
          conditions =
              each_map
              (λ i (c : Condition Expression). StyleTo number head (room_of head room) (plan_of head) (length s.defines) (length head + 1) (18 + 2 * i) c.test × StyleTo number head (room_of head room) (plan_of head) (length s.defines) (length head + 1) (19 + 2 * i) c.colour)
              _ 0 s.conditions (λ k c low high y. ((y.0.0.0, y.0.1), (y.1.0.0, y.1.1))) x.conditions;
        };
      }

-- The item of a line: what a return of its word's function says.
use Rattle.std.specs.Prelude.{Option, Some, None, Result, Ok, Err}
use mathlib.Core.Path.{◌≡◌, refl, sym, ◌∙◌, ap, subst}
use mathlib.Core.Bool.{Bool, true, false, cond}
use mathlib.Core.List.{List, map}
use Prim.Native.Nat.{ℕ, ◌-◌, ◌<◌}
use native.Mathlib.Omega.{arith}
use borrow.Author.Tests.{eq-eqb, ne_eqb}
use lib.ListN.{length, take, drop}
use lib.Seq.{slice}
use Rattle.lexer.specs.Refusal.{refused, refusal_at}
use Rattle.lexer.specs.declared.refusal.Refusal.{Refusal}
use Rattle.lexer.specs.declared.refusal.Reason.TheVariants as reason
use Rattle.lexer.proofs.Law.Spelling.{slice_is}
use Rattle.kind.specs.declared.kind.Kind.{Kind}
use Rattle.checker.specs.Property.{declared, property_kinds, packed_of}
use Rattle.text.specs.Parts.{fields, field, field_start, part_at, end_from}
use Rattle.text.specs.Name.{is_name}
use Rattle.text.specs.Word.{line_of, type_of, flags_of}
use Rattle.text.specs.declared.part.Part.{Part}
use Rattle.text.specs.declared.word.Flags.{Flags}
use Rattle.text.specs.declared.word.Line.{Line}
use Rattle.text.specs.declared.word.Line.TheVariants as word
use Rattle.text.proofs.Law.Parts.{from_first, here, Lies, lies}
use Rattle.style.specs.Style.{Style, admits, admits_to, name_of, define_name}
use Rattle.style.specs.Item.{is_new, on_flags, on_type, property_item, define_item, eight_at, item_by, on_word, item_of}
use Rattle.style.specs.Holds.{Counted}
use Rattle.style.specs.Inner.{is_new_property, is_new_define, Says, admits_by, eight, FieldLies, ItemIs, WordBy, FlagsBy, SingleBy, ItemBy}
use Rattle.style.specs.declared.item.Before.{Before}
use Rattle.style.specs.declared.item.Item.{Item}
use Rattle.style.specs.declared.item.Item.TheVariants as read
use Rattle.style.proofs.Law.Ladder.{taken, passed, both}

-- ---- a part of a line

pub field-lies : (line : List ℕ) (i : ℕ) → i < length (fields line) → (p : Part) → p ≡ part_at 9 line i → FieldLies line i p
field-lies line i there p is =
    let l = subst (Lies 9 line i) (sym is) (lies 9 line i there) in
    record { order = l.order; inside = l.inside; is = l.is; begins = l.begins }

-- as the code has it
pub field-text : (line : List ℕ) (i : ℕ) (p : Part) → FieldLies line i p → take (p.end - p.start) (drop p.start line) ≡ field line i
field-text line i p l = sym (slice_is p.start p.end line) ∙ l.is

eight-starts : (line : List ℕ) (i : ℕ) (p : Part) → FieldLies line i p → eight_at (field_start line i) ≡ refused (refusal_at reason.Line p.start)
eight-starts line i p l = ap eight_at (sym l.begins)

-- ---- `prop`

-- its flags
module _ (line : List ℕ) (name : Part) (t : Kind) (four : length (fields line) ≡ 4) (p : Part) (is : p ≡ part_at 9 line 3) (f : Option Flags)
    (read_as : f ≡ flags_of (take (p.end - p.start) (drop p.start line))) where
  there : FieldLies line 3 p
  there = field-lies line 3 (omega arith) p is

  flags-are : flags_of (field line 3) ≡ f
  flags-are = sym (read_as ∙ ap flags_of (field-text line 3 p there))

  pub flags-unknown : f ≡ None → (r : Refusal) → r ≡ eight p.start → FlagsBy line name t (Err r)
  flags-unknown e r q =
      ap (λ f. on_flags f (field_start line 3) (field line 1) t) (flags-are ∙ e) ∙ eight-starts line 3 p there ∙ ap refused (sym q)

  pub flags-known : (x : Flags) (byte : ℕ) → f ≡ Some x → byte ≡ packed_of (property_kinds (declared t x.absent x.null)) → FlagsBy line name t (Ok (read.Property name byte))
  flags-known x byte e b = (
    refl,
    λ l. l,
    λ ok.
        (record { name = field line 1; property = declared t x.absent x.null }, ap (λ f. on_flags f (field_start line 3) (field line 1) t) (flags-are ∙ e), refl, ok, b),
  )

module _ (b : Before) (line : List ℕ) where
  pub property-count : (length (fields line) ≡ 4 → ⊥) → (r : Refusal) → r ≡ eight (length line) → WordBy word.Prop b line (Err r)
  unfolding property_item
  property-count h r q = λ s says. passed _ (ne_eqb _ _ h) (ap refused (sym q))

  module _ (four : length (fields line) ≡ 4) (p : Part) (is : p ≡ part_at 9 line 1) (new : Bool)
      (asked : new ≡ is_new_property b.head.now b.names.now (take (p.end - p.start) (drop p.start line))) where
    name-lies : FieldLies line 1 p
    name-lies = field-lies line 1 (omega arith) p is

    name_new : (s : Style) → Says b s → is_new (map name_of s.properties) (field line 1) ≡ new
    name_new s says = sym (asked ∙ ap (is_new_property b.head.now b.names.now) (field-text line 1 p name-lies) ∙ says.new-property (field line 1))

    pub property-name : new ≡ false → (r : Refusal) → r ≡ eight p.start → WordBy word.Prop b line (Err r)
    unfolding property_item
    property-name e r q =
        λ s says. taken _ (eq-eqb _ _ four) (passed _ (name_new s says ∙ e) (eight-starts line 1 p name-lies)) ∙ ap refused (sym q)

    module _ (fresh : new ≡ true) (q : Part) (is-q : q ≡ part_at 9 line 2) (f : Option Kind) (read_as : f ≡ type_of (take (q.end - q.start) (drop q.start line))) where
      type-lies : FieldLies line 2 q
      type-lies = field-lies line 2 (omega arith) q is-q

      type-is : type_of (field line 2) ≡ f
      type-is = sym (read_as ∙ ap type_of (field-text line 2 q type-lies))

      on-type : (s : Style) → Says b s →
          item_by word.Prop s line ≡ on_type f (field_start line 2) (λ t. on_flags (flags_of (field line 3)) (field_start line 3) (field line 1) t)
      unfolding property_item
      on-type s says =
          taken _ (eq-eqb _ _ four)
          (taken _ (name_new s says ∙ fresh) (ap (λ f. on_type f (field_start line 2) (λ t. on_flags (flags_of (field line 3)) (field_start line 3) (field line 1) t)) type-is))

      pub property-type : f ≡ None → (r : Refusal) → r ≡ eight q.start → WordBy word.Prop b line (Err r)
      property-type e r i =
          λ s says.
          on-type s says
          ∙ ap (λ f. on_type f (field_start line 2) (λ t. on_flags (flags_of (field line 3)) (field_start line 3) (field line 1) t)) e
          ∙ eight-starts line 2 q type-lies
          ∙ ap refused (sym i)

      pub property-flags : (t : Kind) → f ≡ Some t → (r : Result Item Refusal) → FlagsBy line p t r → WordBy word.Prop b line r
      property-flags t e r by = go r by
        where
          typed : (s : Style) → Says b s → item_by word.Prop s line ≡ on_flags (flags_of (field line 3)) (field_start line 3) (field line 1) t
          typed s says = on-type s says ∙ ap (λ f. on_type f (field_start line 2) (λ t. on_flags (flags_of (field line 3)) (field_start line 3) (field line 1) t)) e

          go : (r : Result Item Refusal) → FlagsBy line p t r → WordBy word.Prop b line r
          go (Err x) by = λ s says. typed s says ∙ by
          go (Ok i) by = (
            by.0,
            by.1 name-lies,
            λ s says. subst (ItemIs line i) (sym (typed s says)) (by.2 (both (is_name (field line 1)) _ (name_new s says ∙ fresh)).0),
          )

  -- ---- `define`

  pub define-count : (length (fields line) ≡ 3 → ⊥) → (r : Refusal) → r ≡ eight (length line) → WordBy word.Define b line (Err r)
  unfolding define_item
  define-count h r q = λ s says. passed _ (ne_eqb _ _ h) (ap refused (sym q))

  module _ (three : length (fields line) ≡ 3) (p : Part) (is : p ≡ part_at 9 line 1) (new : Bool)
      (asked : new ≡ is_new_define b.head.now b.names.now (take (p.end - p.start) (drop p.start line))) where
    define-lies : FieldLies line 1 p
    define-lies = field-lies line 1 (omega arith) p is

    define-new : (s : Style) → Says b s → is_new (map define_name s.defines) (field line 1) ≡ new
    define-new s says = sym (asked ∙ ap (is_new_define b.head.now b.names.now) (field-text line 1 p define-lies) ∙ says.new-define (field line 1))

    pub define-name : new ≡ false → (r : Refusal) → r ≡ eight p.start → WordBy word.Define b line (Err r)
    unfolding define_item
    define-name e r q =
        λ s says. taken _ (eq-eqb _ _ three) (passed _ (define-new s says ∙ e) (eight-starts line 1 p define-lies)) ∙ ap refused (sym q)

    pub define-is : new ≡ true → (q : Part) → q ≡ part_at 9 line 2 → WordBy word.Define b line (Ok (read.Define p q))
    unfolding define_item
    define-is fresh q is-q = (
      refl,
      (define-lies, field-lies line 2 (omega arith) q is-q),
      λ s says. (
        taken _ (eq-eqb _ _ three) (taken _ (define-new s says ∙ fresh) refl),
        (both (is_name (field line 1)) _ (define-new s says ∙ fresh)).0,
      ),
    )

  -- ---- `cond`

  pub condition-count : (length (fields line) ≡ 3 → ⊥) → (r : Refusal) → r ≡ eight (length line) → WordBy word.Cond b line (Err r)
  condition-count h r q = λ s says. passed _ (ne_eqb _ _ h) (ap refused (sym q))

  pub condition-is : length (fields line) ≡ 3 → (p q : Part) → p ≡ part_at 9 line 1 → q ≡ part_at 9 line 2 → WordBy word.Cond b line (Ok (read.Condition p q))
  condition-is three p q is is-q = (
    refl,
    (field-lies line 1 (omega arith) p is, field-lies line 2 (omega arith) q is-q),
    λ s says. taken _ (eq-eqb _ _ three) refl,
  )

-- ---- `show` and `color`

pub single-count : (line : List ℕ) → (length (fields line) ≡ 2 → ⊥) → (r : Refusal) → r ≡ eight (length line) → SingleBy line (Err r)
single-count line h r q = λ j. passed _ (ne_eqb _ _ h) (ap refused (sym q))

pub single-is : (line : List ℕ) → length (fields line) ≡ 2 → (p : Part) → p ≡ part_at 9 line 1 → SingleBy line (Ok p)
single-is line two p is = (field-lies line 1 (omega arith) p is, λ j. taken _ (eq-eqb _ _ two) refl)

-- ---- any line, by its word

module _ (b : Before) (line : List ℕ) (end : ℕ) (is : end ≡ end_from 9 line 0) (o : Option Line) (read_as : o ≡ line_of (take end line)) where
  word-is : line_of (field line 0) ≡ o
  word-is =
      sym (read_as ∙ ap line_of (ap (λ (n : ℕ). slice 0 n line) is ∙ sym (here 9 line 0 0 (from_first 9 line))))

  -- no word of a line
  pub item-none : o ≡ None → (r : Refusal) → r ≡ eight 0 → ItemBy b line (Err r)
  unfolding item_of
  item-none e r q = λ s n says. ap (λ o. on_word o s line) (word-is ∙ e) ∙ ap refused (sym q)

  module _ (l : Line) (some : o ≡ Some l) (a : Bool) (asked : a ≡ admits_by b.plan.now l) where
    admits-is : (s : Style) → Counted b.plan.now s → admits_to s l ≡ a
    admits-is s n = sym (asked ∙ (λ i. admits l (n.properties i) (n.defines i) (n.shows i) (n.colours i) (n.conditions i)))

    of-word : (s : Style) → item_of s line ≡ cond (admits_to s l) (item_by l s line) (eight_at 0)
    unfolding item_of
    of-word s = ap (λ o. on_word o s line) (word-is ∙ some)

    pub item_out : a ≡ false → (r : Refusal) → r ≡ eight 0 → ItemBy b line (Err r)
    item_out e r q = λ s n says. of-word s ∙ passed _ (admits-is s n ∙ e) (ap refused (sym q))

    module _ (fit : a ≡ true) where
      by-word : (s : Style) → Counted b.plan.now s → item_of s line ≡ item_by l s line
      by-word s n = of-word s ∙ taken _ (admits-is s n ∙ fit) refl

      pub item-as : (w : Line) → l ≡ w → (r : Result Item Refusal) → WordBy w b line r → ItemBy b line r
      item-as w h (Err x) by = λ s n says. by-word s n ∙ ap (λ l. item_by l s line) h ∙ by s says
      item-as w h (Ok i) by = (
        ap (admits_by b.plan.now) (by.0 ∙ sym h) ∙ sym asked ∙ fit,
        by.1,
        λ s n says. subst (ItemIs line i) (sym (by-word s n ∙ ap (λ l. item_by l s line) h)) (by.2 s says),
      )

      pub item-feature : l ≡ word.Feat → (r : Refusal) → r ≡ eight 0 → ItemBy b line (Err r)
      item-feature h r q = item-as word.Feat h (Err r) (λ s says. ap refused (sym q))

      pub show-out : l ≡ word.Show → (r : Refusal) → SingleBy line (Err r) → ItemBy b line (Err r)
      show-out h r by = item-as word.Show h (Err r) (λ s says. by _)

      pub colour-out : l ≡ word.Color → (r : Refusal) → SingleBy line (Err r) → ItemBy b line (Err r)
      colour-out h r by = item-as word.Color h (Err r) (λ s says. by _)

      pub item-show : l ≡ word.Show → (p : Part) → SingleBy line (Ok p) → ItemBy b line (Ok (read.Show p))
      item-show h p by = item-as word.Show h (Ok (read.Show p)) (refl, by.0, λ s says. by.1 _)

      pub item-colour : l ≡ word.Color → (p : Part) → SingleBy line (Ok p) → ItemBy b line (Ok (read.Colour p))
      item-colour h p by = item-as word.Color h (Ok (read.Colour p)) (refl, by.0, λ s says. by.1 _)

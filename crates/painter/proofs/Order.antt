-- The order of the table: 10 and the head's size stand before everything else, then the head's lines in turn, and a feature's 1 and 9 behind
-- it. What an answer of `check` or `paint` says of the head's lines and of the feature.
use mathlib.Core.Path.{◌≡◌, refl, sym, ◌∙◌, ap, subst}
use mathlib.Core.Bool.{Bool, true, false, cond, false≢true}
use mathlib.Core.List.{List}
use mathlib.Core.Logic.{◌↔◌, ◌⊎◌, inl, inr}
use Prim.Native.Nat.{ℕ, ◌≤◌}
use native.Mathlib.Omega.{arith}
use borrow.Author.Tests.{lt-ltb, le-ltb, ltb-true, ltb-false}
use lib.Dec.{ltb}
use lib.ListN.{length, length-take}
use Rattle.lexer.specs.Refusal.{reason_number, Judged, refused, fine, refusal_at, on_fine}
use Rattle.lexer.specs.declared.refusal.Refusal.{Refusal}
use Rattle.lexer.specs.declared.refusal.Reason.TheVariants as reason
use Rattle.lexer.proofs.Law.Runs.{by-test}
use Rattle.kind.specs.declared.set.Kinds.{Kinds}
use Rattle.value.specs.declared.value.Value.{Value}
use Rattle.text.specs.Parts.{lines, bytes_of}
use Rattle.style.specs.Answer.{Answer, refusal, accepted, on_accepted}
use Rattle.style.specs.Style.{Style}
use Rattle.style.specs.Head.{head_of, head_size, room_size, short_room, long_head, style_of, checked_of}
use Rattle.style.specs.Items.{NoItem, LineOrigin}
use Rattle.style.specs.Schema.{property_lines, schema_text, properties_of}
use Rattle.style.proofs.Lines.{refused-line, refused-origin, given-schema}
use Rattle.style.proofs.Law.Ladder.{taken, passed}
use Rattle.style.proofs.Law.Answers.{is_fine, refusal_in, is_accepted}
use Rattle.feature.specs.Feature.{Values, complete, broken, entered_of, all_conform, feature_size, most_features}
use Rattle.feature.proofs.Conforming.{by-line}
use Rattle.painter.specs.Paint.{on_values, schema_of, written_for, featured, least_bytes, short_buffer, painted_of}
use Rattle.painter.specs.Meaning.{given_of}
use Rattle.painter.specs.Demand.{HeadRefused, CallRefused, CheckRefused, PaintRefused, Answered, Neither, ConformsTo, ReadsAs, Reading, Conforming}
use Rattle.painter.specs.Demand as table
use Rattle.painter.specs.declared.answer.Painted.{Painted}

-- ---- what is accepted

pub accepted-first : {A B : Type 0} (next : A → Answer B) (b : B) (x : Answer A) → on_accepted x next ≡ accepted b →
    (a : A) × (x ≡ accepted a) × (next a ≡ accepted b)
accepted-first next b (refusal m q) e = absurd (false≢true (ap is_accepted e))
accepted-first next b (accepted a) e = (a, refl, e)

-- ---- a head, by the table

module _ (slots : ℕ) (head : List ℕ) where
  -- an answer that is a refusal is one of the table
  abbrev HeadTable : {A : Type 0} → Answer A → Type 0
  HeadTable (refusal n r) = HeadRefused slots head n r
  HeadTable (accepted a) = Unit {0}

  lines-table : room_size ≤ slots → length head ≤ head_size → (a : Answer Style) → head_of head ≡ a → HeadTable a
  lines-table enough small (refusal n r) e = go ((refused-origin head n r).0 ((refused-line head n r).0 e))
    where
      go : NoItem head n r ⊎ LineOrigin head n r → HeadRefused slots head n r
      go (inl x) = table.by-line enough small x
      go (inr o) = table.by-expression enough small o
  lines-table enough small (accepted s) e = tt

  style-table : HeadTable (style_of slots head)
  unfolding style_of
  style-table =
      by-test HeadTable (ltb slots room_size) (λ t. table.by-room (ltb-true slots room_size t)) (λ t.
      by-test HeadTable (ltb head_size (length head))
      (λ u. table.by-size (ltb-false slots room_size t) (ltb-true head_size (length head) u))
      (λ u. lines-table (ltb-false slots room_size t) (ltb-false head_size (length head) u) (head_of head) refl))

  check-table : HeadTable (checked_of slots head)
  check-table = go (style_of slots head) style-table
    where
      go : (a : Answer Style) → HeadTable a → HeadTable {A = Unit {0}} (on_accepted a (λ s. accepted tt))
      go (refusal n r) t = t
      go (accepted s) t = t

  -- where there is room and the head is within its size
  pub style-head : room_size ≤ slots → length head ≤ head_size → style_of slots head ≡ head_of head
  unfolding style_of
  style-head enough small = passed _ (le-ltb slots room_size enough) (passed _ (le-ltb head_size (length head) small) refl)

  -- what the table refuses is refused
  pub style-refused : {n : ℕ} {r : Refusal} → HeadRefused slots head n r → style_of slots head ≡ refusal n r
  unfolding style_of
  style-refused (table.by-room h) = taken _ (lt-ltb slots room_size h) refl
  style-refused (table.by-size enough h) = passed _ (le-ltb slots room_size enough) (taken _ (lt-ltb head_size (length head) h) refl)
  style-refused {n = n} {r = r} (table.by-line enough small x) =
      style-head enough small ∙ (refused-line head n r).1 ((refused-origin head n r).1 (inl x))
  style-refused {n = n} {r = r} (table.by-expression enough small o) =
      style-head enough small ∙ (refused-line head n r).1 ((refused-origin head n r).1 (inr o))

  -- what is accepted gives a style, behind 10 and the head's size
  pub style-given : (s : Style) → style_of slots head ≡ accepted s → (room_size ≤ slots) × (length head ≤ head_size) × (head_of head ≡ accepted s)
  unfolding style_of
  style-given s = go (ltb slots room_size) refl (ltb head_size (length head)) refl
    where
      go : (t : Bool) → ltb slots room_size ≡ t → (u : Bool) → ltb head_size (length head) ≡ u →
          ◌≡◌ {A = Answer Style} (cond t short_room (cond u long_head (head_of head))) (accepted s) →
          (room_size ≤ slots) × (length head ≤ head_size) × (head_of head ≡ accepted s)
      go true f u g e = absurd (false≢true (ap is_accepted e))
      go false f true g e = absurd (false≢true (ap is_accepted e))
      go false f false g e = (ltb-false slots room_size f, ltb-false head_size (length head) g, e)

-- ---- a call, by the table

module _ (bytes slots : ℕ) (head : List ℕ) (number : ℕ) (feature : List ℕ) where
  abbrev Table : Answer Painted → Type 0
  Table (refusal n r) = CallRefused bytes slots head number feature n r
  Table (accepted w) = Unit {0}

  module _ (enough : least_bytes ≤ bytes) (s : Style) (is : style_of slots head ≡ accepted s) where
    feature-table : (j : Judged Values) → entered_of (schema_of s) number feature ≡ j →
        Table (on_accepted (on_values number j (given_of s feature)) (λ given. accepted (written_for number given)))
    feature-table (refused r) e = table.by-feature s enough is (ap (λ j. on_fine j all_conform) e)
    feature-table (fine (broken vs p)) e = table.by-feature s enough is (ap (λ j. on_fine j all_conform) e)
    feature-table (fine (complete vs)) e = tt

  paint-table : Table (painted_of bytes slots head number feature)
  unfolding painted_of
  paint-table =
      by-test Table (ltb bytes least_bytes) (λ t. table.by-buffer (ltb-true bytes least_bytes t))
      (λ t. go (ltb-false bytes least_bytes t) (style_of slots head) refl (style-table slots head))
    where
      go : least_bytes ≤ bytes → (a : Answer Style) → style_of slots head ≡ a → HeadTable slots head a →
          Table (on_accepted a (λ s. featured s number feature))
      go enough (refusal n r) e t = table.by-head enough t
      go enough (accepted s) e t = feature-table enough s e (entered_of (schema_of s) number feature) refl

  -- behind the buffer's 10
  pub paint-style : least_bytes ≤ bytes → painted_of bytes slots head number feature ≡ on_accepted (style_of slots head) (λ s. featured s number feature)
  unfolding painted_of
  paint-style enough = passed _ (le-ltb bytes least_bytes enough) refl

  -- what the table refuses is refused
  call-refused : {n : ℕ} {r : Refusal} → CallRefused bytes slots head number feature n r → painted_of bytes slots head number feature ≡ refusal n r
  unfolding painted_of
  call-refused (table.by-buffer h) = taken _ (lt-ltb bytes least_bytes h) refl
  call-refused (table.by-head enough t) = paint-style enough ∙ ap (λ x. on_accepted x (λ s. featured s number feature)) (style-refused slots head t)
  call-refused {r = r} (table.by-feature s enough is f) =
      paint-style enough ∙ ap (λ x. on_accepted x (λ s. featured s number feature)) is ∙ go (entered_of (schema_of s) number feature) f
    where
      go : (j : Judged Values) → on_fine j all_conform ≡ refused r →
          on_accepted (on_values number j (given_of s feature)) (λ given. accepted (written_for number given)) ≡ refusal number r
      go (refused q) f = ap (λ j. refusal number (refusal_in q j)) f
      go (fine (broken vs p)) f = ap (λ j. refusal number (refusal_in (refusal_at reason.Feature p) j)) f
      go (fine (complete vs)) f = absurd (false≢true (sym (ap is_fine f)))

  -- what is painted reads as values under the style of the head
  pub paint-accepted : (w : Painted) → painted_of bytes slots head number feature ≡ accepted w → Reading slots head number feature
  unfolding painted_of
  paint-accepted w = by-buffer (ltb bytes least_bytes)
    where
      reads : (s : Style) (j : Judged Values) →
          on_accepted (on_values number j (given_of s feature)) (λ given. accepted (written_for number given)) ≡ accepted w →
          (vs : List Value) × (j ≡ fine (complete vs))
      reads s (refused r) e = absurd (false≢true (ap is_accepted e))
      reads s (fine (broken vs p)) e = absurd (false≢true (ap is_accepted e))
      reads s (fine (complete vs)) e = (vs, refl)

      by-buffer : (t : Bool) → ◌≡◌ {A = Answer Painted} (cond t short_buffer (on_accepted (style_of slots head) (λ s. featured s number feature))) (accepted w) →
          Reading slots head number feature
      by-buffer true e = absurd (false≢true (ap is_accepted e))
      by-buffer false e =
          let (s, is, f) = accepted-first (λ s. featured s number feature) w (style_of slots head) e in
          let (vs, are) = reads s (entered_of (schema_of s) number feature) f in
          record { style = s; values = vs; gives = is; reads = are }

-- ---- refused exactly by the table

pub check-refused : CheckRefused
check-refused slots head n r = (
  (λ e. subst (HeadTable slots head) e (check-table slots head)),
  (λ t. ap (λ (x : Answer Style). on_accepted x (λ s. accepted tt)) (style-refused slots head t)),
)

pub paint-refused : PaintRefused
paint-refused bytes slots head number feature n r = (
  (λ e. subst (Table bytes slots head number feature) e (paint-table bytes slots head number feature)),
  (λ t. call-refused bytes slots head number feature t),
)

pub answered : Answered
answered bytes slots head number feature = go (painted_of bytes slots head number feature) refl
  where
    go : (a : Answer Painted) → painted_of bytes slots head number feature ≡ a →
        ((n : ℕ) × (r : Refusal) × CallRefused bytes slots head number feature n r)
        ⊎ ((w : Painted) × (painted_of bytes slots head number feature ≡ accepted w))
    go (refusal n r) e = inl (n, r, (paint-refused bytes slots head number feature n r).0 e)
    go (accepted w) e = inr (w, e)

-- a refusal of another number than 10, 1 and 8 is one of an expression, behind 10 and the head's size
pub of-expression : (slots : ℕ) (head : List ℕ) (n : ℕ) (r : Refusal) → (reason_number r.reason ≡ 10 → ⊥) → (reason_number r.reason ≡ 1 → ⊥) → (reason_number r.reason ≡ 8 → ⊥) →
    checked_of slots head ≡ refusal n r → (room_size ≤ slots) × (length head ≤ head_size) × LineOrigin head n r
of-expression slots head n r a b c e = go a b c ((check-refused slots head n r).0 e)
  where
    go : {n : ℕ} {r : Refusal} → (reason_number r.reason ≡ 10 → ⊥) → (reason_number r.reason ≡ 1 → ⊥) → (reason_number r.reason ≡ 8 → ⊥) → HeadRefused slots head n r →
        (room_size ≤ slots) × (length head ≤ head_size) × LineOrigin head n r
    go a b c (table.by-room h) = absurd (a refl)
    go a b c (table.by-size enough h) = absurd (b refl)
    go a b c (table.by-line enough small x) = absurd (c x.eight)
    go a b c (table.by-expression enough small o) = (enough, small, o)

-- ---- a feature conforms exactly if it reads as values under the schema

-- the numbers of its refusals
data OneOrNine : Judged Values → Type 0 where
  one : (p : ℕ) → OneOrNine (refused (refusal_at reason.Size p))
  nine : (p : ℕ) → OneOrNine (refused (refusal_at reason.Feature p))
  neither : (vs : Values) → OneOrNine (fine vs)

refused-numbers : (sets : List Kinds) (number : ℕ) (text : List ℕ) → OneOrNine (entered_of sets number text)
refused-numbers sets number text =
    by-line sets number text OneOrNine (one feature_size) (one most_features) (nine 0) (nine (length text)) (λ h k n. neither _)

abbrev is_complete : Judged Values → Bool
is_complete (refused r) = false
is_complete (fine (broken vs p)) = false
is_complete (fine (complete vs)) = true

module _ {A B : Type 0} (number : ℕ) (make : List Value → A) (next : A → B) where
  abbrev made : Judged Values → Answer B
  made x = on_accepted (on_values number x make) (λ a. accepted (next a))

  by-reading : (x : Judged Values) → OneOrNine x → Neither (made x) ↔ ((vs : List Value) × (x ≡ fine (complete vs)))
  by-reading (refused r) (one q) = ((λ k. absurd (k.0 refl)), (λ w. absurd (false≢true (ap is_complete w.1))))
  by-reading (refused r) (nine q) = ((λ k. absurd (k.1 refl)), (λ w. absurd (false≢true (ap is_complete w.1))))
  by-reading (fine (broken vs p)) o = ((λ k. absurd (k.1 refl)), (λ w. absurd (false≢true (ap is_complete w.1))))
  by-reading (fine (complete vs)) o = ((λ k. (vs, refl)), (λ w. ((λ e. omega arith), (λ e. omega arith))))

module _ (head : List ℕ) (small : length head ≤ head_size) (s : Style) (is : head_of (schema_text head) ≡ accepted (properties_of s)) (number : ℕ) (feature : List ℕ) where
  short : length (schema_text head) ≤ head_size
  short = omega (arith, small, length-take (bytes_of (property_lines (lines head))) head)

  pub conforms-reads : ConformsTo (schema_text head) number feature ↔ ((vs : List Value) × ReadsAs s number feature vs)
  conforms-reads =
      rw (paint-style least_bytes room_size (schema_text head) number feature (omega arith), style-head room_size (schema_text head) (omega arith) short, is)
      (by-reading number (given_of (properties_of s) feature) _ (entered_of (schema_of s) number feature) (refused-numbers (schema_of s) number feature))

-- ---- an accepted head and a strip that conforms

module _ (slots : ℕ) (head : List ℕ) (number : ℕ) (feature : List ℕ) where
  pub reading : checked_of slots head ≡ accepted tt → ConformsTo (schema_text head) number feature → Reading slots head number feature
  reading e conforms =
      let (s, is, _) = accepted-first (λ s. accepted tt) tt (style_of slots head) e in
      let (enough, small, given) = style-given slots head s is in
      let (vs, are) = (conforms-reads head small s (given-schema head s given) number feature).0 conforms in
      record { style = s; values = vs; gives = is; reads = are }

  -- and the other way
  pub read-conforms : Reading slots head number feature → (checked_of slots head ≡ accepted tt) × ConformsTo (schema_text head) number feature
  read-conforms x =
      let (enough, small, given) = style-given slots head x.style x.gives in (
        ap (λ (a : Answer Style). on_accepted a (λ s. accepted tt)) x.gives,
        (conforms-reads head small x.style (given-schema head x.style given) number feature).1 (x.values, x.reads),
      )

-- what is painted then
pub reading-painted : (slots : ℕ) (head : List ℕ) (number : ℕ) (feature : List ℕ) (x : Reading slots head number feature) (bytes : ℕ) → least_bytes ≤ bytes →
    painted_of bytes slots head number feature ≡ accepted (written_for number (given_of x.style feature x.values))
reading-painted slots head number feature x bytes enough =
    paint-style bytes slots head number feature enough
    ∙ ap (λ a. on_accepted a (λ s. featured s number feature)) x.gives
    ∙ ap (λ j. on_accepted (on_values number j (given_of x.style feature)) (λ given. accepted (written_for number given))) x.reads

-- what is true of every style and values that head and strip read as
pub conforming : (P : (slots : ℕ) (head : List ℕ) (number : ℕ) (feature : List ℕ) → Style → List Value → Type 0) →
    ((slots : ℕ) (head : List ℕ) (number : ℕ) (feature : List ℕ) (x : Reading slots head number feature) → P slots head number feature x.style x.values) →
    Conforming P
conforming P f slots head e number feature conforms =
    let x = reading slots head number feature e conforms in
    (x, f slots head number feature x)

-- The plan with what a line adds: what it holds besides the rows of expressions.
use mathlib.Core.Path.{◌≡◌, refl, sym, ◌∙◌, ap, subst}
use mathlib.Core.Bool.{true, cond, ◌&&◌}
use mathlib.Core.List.{List}
use Prim.Native.Nat.{ℕ, ◌+◌, ◌<◌, ◌≤◌}
use native.Mathlib.Omega.{arith}
use borrow.Author.Tests.{lt-ltb, ltb-true, eqb-true}
use lib.Dec.{eqb, ltb}
use lib.ListN.{length, get_or, set, replicate, length-set, get_or-replicate}
use lib.Seq.{get_or-set_same, get_or-set_other, get_or-append-add}
use Rattle.kind.specs.Set.{set_of, single_of}
use Rattle.kind.specs.declared.kind.Kind.TheVariants.{Undefined}
use Rattle.kind.specs.declared.set.Kinds.{Kinds}
use Rattle.plan.specs.Layout.{property_count, define_count, show_count, colour_count, condition_count, set_place, from_place, to_place, root_place, show_row, colour_row, test_row, result_row, first_define}
use Rattle.tree.specs.Tree.{place}
use Rattle.checker.specs.Property.{property_kinds, set_at, packed_of, unpacked_of}
use Rattle.checker.proofs.Packed.{unpacked-packed}
use Rattle.text.specs.Parts.{field_start}
use Rattle.text.specs.declared.word.Line.{Line}
use Rattle.text.specs.declared.word.Line.TheVariants as word
use Rattle.style.specs.Style.{Declared, Expression, Define, Condition, Style, Entry, property, define, show, colour, condition, empty, with, admits, admits_to}
use Rattle.style.specs.Compile.{with_set, with_row, planned, fresh_plan}
use Rattle.style.specs.Holds.{Each, Counted, Sets, Few}
use Rattle.style.proofs.Law.Each.{each_map, each_more, each_none, length_more}
use Rattle.style.proofs.Law.Ladder.{both}

-- ---- places that are written, and others

module _ (plan : List ℕ) (row from : ℕ) (e : Expression) where
  abbrev to : ℕ
  to = from + length e.text

  abbrev begun : List ℕ
  begun = set plan (from_place row) from

  abbrev ended : List ℕ
  ended = set begun (to_place row) to

  pub row_other : (j : ℕ) → (j ≡ from_place row → ⊥) → (j ≡ to_place row → ⊥) → (j ≡ root_place row → ⊥) → get_or (with_row row from e plan) j 0 ≡ get_or plan j 0
  row_other j a b c = get_or-set_other ended (root_place row) j (place e.tree) 0 c ∙ get_or-set_other begun (to_place row) j to 0 b ∙ get_or-set_other plan (from_place row) j from 0 a

  -- counts and sets stand before the rows
  pub row_before : (j : ℕ) → j < 53 → get_or (with_row row from e plan) j 0 ≡ get_or plan j 0
  row_before j h = row_other j (λ e. omega (arith, e, h)) (λ e. omega (arith, e, h)) (λ e. omega (arith, e, h))

  pub row-length : length (with_row row from e plan) ≡ length plan
  row-length = length-set ended (root_place row) (place e.tree) ∙ length-set begun (to_place row) to ∙ length-set plan (from_place row) from

  -- what is written there
  pub record RowIs (r : List ℕ) : Type 0 where
    pub starts : get_or r (from_place row) 0 ≡ from
    pub ends : get_or r (to_place row) 0 ≡ to
    pub rooted : get_or r (root_place row) 0 ≡ place e.tree

  pub row_is : length plan ≡ 203 → row < 50 → RowIs (with_row row from e plan)
  row_is size small =
      let n : length begun ≡ 203 = length-set plan (from_place row) from ∙ size in
      let m : length ended ≡ 203 = length-set begun (to_place row) to ∙ n in
      record {
        starts =
            get_or-set_other ended (root_place row) (from_place row) (place e.tree) 0 (λ e. omega (arith, e))
            ∙ get_or-set_other begun (to_place row) (from_place row) to 0 (λ e. omega (arith, e))
            ∙ get_or-set_same plan (from_place row) from 0 (omega (arith, size, small));
        ends =
            get_or-set_other ended (root_place row) (to_place row) (place e.tree) 0 (λ e. omega (arith, e))
            ∙ get_or-set_same begun (to_place row) to 0 (omega (arith, n, small));
        rooted = get_or-set_same ended (root_place row) (place e.tree) 0 (omega (arith, m, small));
      }

pub set-alike : (p q : List ℕ) (n : ℕ) → get_or p (set_place n) 0 ≡ get_or q (set_place n) 0 → set_at p n ≡ set_at q n
unfolding set_at
set-alike p q n e = ap (λ (b : ℕ). cond (ltb n 48) (unpacked_of b) (single_of Undefined)) e

pub set_there : (p : List ℕ) (n : ℕ) (k : Kinds) → length p ≡ 203 → n < 48 → set_at (with_set n k p) n ≡ k
unfolding set_at
set_there p n k size h =
    rw (lt-ltb n 48 h) (ap unpacked_of (get_or-set_same p (set_place n) (packed_of k) 0 (omega (arith, size, h))) ∙ unpacked-packed k)

-- ---- what a plan holds besides

pub record Kept (plan : List ℕ) (s : Style) : Type 0 where
  pub size : length plan ≡ 203
  pub few : Few s
  pub counted : Counted plan s
  pub sets : Sets plan s

-- sets over lists, so that what else a style has doesn't matter
abbrev SetsOver : List ℕ → List Declared → List Define → Type 0
SetsOver plan ps ds =
    Each (λ i (d : Declared). set_at plan i ≡ property_kinds d.property) 0 ps
    × ((i : ℕ) → length ps ≤ i → i < 32 → set_at plan i ≡ single_of Undefined)
    × Each (λ i (d : Define). set_at plan (32 + i) ≡ d.expression.kinds) 0 ds
    × ((i : ℕ) → length ds ≤ i → i < 16 → set_at plan (32 + i) ≡ single_of Undefined)

sets_over : (p q : List ℕ) (s : Style) → Few s → ((n : ℕ) → n < 48 → set_at q n ≡ set_at p n) → Sets p s → SetsOver q s.properties s.defines
sets_over p q s few same x = (
  each_map (λ i (d : Declared). set_at p i ≡ property_kinds d.property) _ 0 s.properties (λ k d low high e. same k (omega (arith, high, few.properties)) ∙ e) x.properties,
  λ i low high. same i (omega (arith, high)) ∙ x.no-properties i low high,
  each_map (λ i (d : Define). set_at p (32 + i) ≡ d.expression.kinds) _ 0 s.defines (λ k d low high e. same (32 + k) (omega (arith, high, few.defines)) ∙ e) x.defines,
  λ i low high. same (32 + i) (omega (arith, high)) ∙ x.no-defines i low high,
)

-- before any line
pub fresh_kept : Kept fresh_plan empty
unfolding fresh_plan set_at unpacked_of single_of set_of
fresh_kept = record {
  size = refl;
  few = record { properties = omega arith; defines = omega arith; shows = omega arith; colours = omega arith; conditions = omega arith };
  counted = record { properties = refl; defines = refl; shows = refl; colours = refl; conditions = refl };
  sets = record { properties = tt; no-properties = λ i low high. free i (omega (arith, high)); defines = tt; no-defines = λ i low high. free (32 + i) (omega (arith, high)) };
}
  where
    none : ℕ
    none = packed_of (single_of Undefined)

    free : (i : ℕ) → i < 48 → set_at fresh_plan i ≡ single_of Undefined
    free i h =
        rw (lt-ltb i 48 h)
        (ap unpacked_of (get_or-append-add (replicate {A = ℕ} 5 0) (replicate 198 none) i 0 ∙ get_or-replicate {A = ℕ} 198 i none 0 (omega (arith, h)))
        ∙ unpacked-packed (single_of Undefined))

-- the word of the line that adds an entry
abbrev pub word_of : Entry → Line
word_of (property d) = word.Prop
word_of (define d) = word.Define
word_of (show e) = word.Show
word_of (colour e) = word.Color
word_of (condition c) = word.Cond

-- what a line's admission says of the lines before it
pub record Bare (s : Style) : Type 0 where
  pub shows : length s.shows ≡ 0
  pub colours : length s.colours ≡ 0
  pub conditions : length s.conditions ≡ 0

pub bare : (s : Style) → (eqb (length s.shows) 0 && (eqb (length s.colours) 0 && eqb (length s.conditions) 0)) ≡ true → Bare s
bare s h =
    let a = both (eqb (length s.shows) 0) _ h in
    let b = both (eqb (length s.colours) 0) _ a.1 in
    record { shows = eqb-true _ _ a.0; colours = eqb-true _ _ b.0; conditions = eqb-true _ _ b.1 }

module _ (s : Style) where
  pub property-first : admits_to s word.Prop ≡ true → (length s.properties < 32) × (length s.defines ≡ 0) × Bare s
  unfolding admits
  property-first ok =
      let x = both (ltb (length s.properties) 32) _ ok in
      let y = both (eqb (length s.defines) 0) _ x.1 in
      (ltb-true _ _ x.0, eqb-true _ _ y.0, bare s y.1)

  pub define-next : admits_to s word.Define ≡ true → (length s.defines < 16) × Bare s
  unfolding admits
  define-next ok =
      let x = both (ltb (length s.defines) 16) _ ok in
      (ltb-true _ _ x.0, bare s x.1)

  pub show-once : admits_to s word.Show ≡ true → length s.shows < 1
  unfolding admits
  show-once ok = ltb-true _ _ ok

  pub colour-once : admits_to s word.Color ≡ true → length s.colours < 1
  unfolding admits
  colour-once ok = ltb-true _ _ (both (ltb (length s.colours) 1) _ ok).0

  pub condition-few : admits_to s word.Cond ≡ true → length s.conditions < 16
  unfolding admits
  condition-few ok = ltb-true _ _ (both (ltb (length s.conditions) 16) _ ok).0

-- ---- what is written

-- A plan with a count written, and maybe the set of a name's number (48 is none); the other counts and sets stay.
record Over (plan r : List ℕ) (c m x : ℕ) (k : Kinds) : Type 0 where
  size : length r ≡ 203
  count : get_or r c 0 ≡ m
  counts : (j : ℕ) → j < 5 → (j ≡ c → ⊥) → get_or r j 0 ≡ get_or plan j 0
  one : x < 48 → set_at r x ≡ k
  sets : (n : ℕ) → n < 48 → (n ≡ x → ⊥) → set_at r n ≡ set_at plan n

module _ (plan : List ℕ) (size : length plan ≡ 203) (c m : ℕ) (small : c < 5) (k : Kinds) where
  count-there : get_or (set plan c m) c 0 ≡ m
  count-there = get_or-set_same plan c m 0 (omega (arith, size, small))

  count-sets : (n : ℕ) → set_at (set plan c m) n ≡ set_at plan n
  count-sets n = set-alike (set plan c m) plan n (get_or-set_other plan c (set_place n) m 0 (λ e. omega (arith, e, small)))

  over-count : Over plan (set plan c m) c m 48 k
  over-count = record {
    size = length-set plan c m ∙ size;
    count = count-there;
    counts = λ j b h. get_or-set_other plan c j m 0 h;
    one = λ h. absurd (omega (arith, h));
    sets = λ n h o. count-sets n;
  }

  over-set : (x : ℕ) → x < 48 → Over plan (with_set x k (set plan c m)) c m x k
  over-set x low =
      let q = set plan c m in
      let sized : length q ≡ 203 = length-set plan c m ∙ size in
      record {
        size = length-set q (set_place x) (packed_of k) ∙ sized;
        count = get_or-set_other q (set_place x) c (packed_of k) 0 (λ e. omega (arith, e, small)) ∙ count-there;
        counts = λ j b h. get_or-set_other q (set_place x) j (packed_of k) 0 (λ e. omega (arith, e, b)) ∙ get_or-set_other plan c j m 0 h;
        one = λ h. set_there q x k sized h;
        sets = λ n h o. set-alike (with_set x k q) q n (get_or-set_other q (set_place x) (set_place n) (packed_of k) 0 (λ e. o (omega (arith, e)))) ∙ count-sets n;
      }

-- an expression's row changes neither counts nor sets
over-row : {plan r : List ℕ} {c m x : ℕ} {k : Kinds} (row from : ℕ) (e : Expression) → c < 5 → Over plan r c m x k → Over plan (with_row row from e r) c m x k
over-row {plan} {r} {c} {m} {x} {k} row from e small o = record {
  size = row-length r row from e ∙ o.size;
  count = row_before r row from e c (omega (arith, small)) ∙ o.count;
  counts = λ j b h. row_before r row from e j (omega (arith, b)) ∙ o.counts j b h;
  one = λ h. set-alike (with_row row from e r) r x (row_before r row from e (set_place x) (omega (arith, h))) ∙ o.one h;
  sets = λ n h p. set-alike (with_row row from e r) r n (row_before r row from e (set_place n) (omega (arith, h))) ∙ o.sets n h p;
}

-- ---- what a line adds

module _ (s : Style) (plan : List ℕ) (k : Kept plan s) where
  abbrev few : Few s
  few = k.few

  abbrev counts : Counted plan s
  counts = k.counted

  -- sets that no line of another word changes
  same-sets : (r : List ℕ) {c m : ℕ} {x : Kinds} → Over plan r c m 48 x → SetsOver r s.properties s.defines
  same-sets r o = sets_over plan r s few (λ n h. o.sets n h (λ e. omega (arith, e, h))) k.sets

  kept-property : (r : List ℕ) (d : Declared) → admits_to s word.Prop ≡ true → Over plan r property_count (length s.properties + 1) (length s.properties) (property_kinds d.property) →
      Kept r (with s (property d))
  kept-property r d ok o =
      let (room, none, z) = property-first s ok in
      let n = length s.properties in
      let l = length_more s.properties d in
      record {
        size = o.size;
        few = record { properties = omega (arith, l, room); defines = few.defines; shows = few.shows; colours = few.colours; conditions = few.conditions };
        counted = record {
          properties = o.count ∙ sym l;
          defines = o.counts 1 (omega arith) (λ e. omega (arith, e)) ∙ counts.defines;
          shows = o.counts 2 (omega arith) (λ e. omega (arith, e)) ∙ counts.shows;
          colours = o.counts 3 (omega arith) (λ e. omega (arith, e)) ∙ counts.colours;
          conditions = o.counts 4 (omega arith) (λ e. omega (arith, e)) ∙ counts.conditions;
        };
        sets = record {
          properties =
              each_more (λ i (d : Declared). set_at r i ≡ property_kinds d.property) 0 n s.properties d (omega arith)
              (each_map (λ i (d : Declared). set_at plan i ≡ property_kinds d.property) _ 0 s.properties
              (λ i d low high e. o.sets i (omega (arith, high, room)) (λ e. omega (arith, e, high)) ∙ e) k.sets.properties)
              (o.one (omega (arith, room)));
          no-properties = λ i low high. o.sets i (omega (arith, high)) (λ e. omega (arith, e, low, l)) ∙ k.sets.no-properties i (omega (arith, low, l)) high;
          defines = each_none _ 0 s.defines none;
          no-defines = λ i low high. o.sets (32 + i) (omega (arith, high)) (λ e. omega (arith, e, room)) ∙ k.sets.no-defines i low high;
        };
      }

  kept-define : (r : List ℕ) (d : Define) → admits_to s word.Define ≡ true → Over plan r define_count (length s.defines + 1) (first_define + length s.defines) d.expression.kinds →
      Kept r (with s (define d))
  kept-define r d ok o =
      let (room, z) = define-next s ok in
      let n = length s.defines in
      let l = length_more s.defines d in
      record {
        size = o.size;
        few = record { properties = few.properties; defines = omega (arith, l, room); shows = few.shows; colours = few.colours; conditions = few.conditions };
        counted = record {
          properties = o.counts 0 (omega arith) (λ e. omega (arith, e)) ∙ counts.properties;
          defines = o.count ∙ sym l;
          shows = o.counts 2 (omega arith) (λ e. omega (arith, e)) ∙ counts.shows;
          colours = o.counts 3 (omega arith) (λ e. omega (arith, e)) ∙ counts.colours;
          conditions = o.counts 4 (omega arith) (λ e. omega (arith, e)) ∙ counts.conditions;
        };
        sets = record {
          properties =
              each_map (λ i (d : Declared). set_at plan i ≡ property_kinds d.property) _ 0 s.properties
              (λ i d low high e. o.sets i (omega (arith, high, few.properties)) (λ e. omega (arith, e, high, few.properties)) ∙ e) k.sets.properties;
          no-properties = λ i low high. o.sets i (omega (arith, high)) (λ e. omega (arith, e, high)) ∙ k.sets.no-properties i low high;
          defines =
              each_more (λ i (d : Define). set_at r (32 + i) ≡ d.expression.kinds) 0 n s.defines d (omega arith)
              (each_map (λ i (d : Define). set_at plan (32 + i) ≡ d.expression.kinds) _ 0 s.defines
              (λ i d low high e. o.sets (32 + i) (omega (arith, high, room)) (λ e. omega (arith, e, high)) ∙ e) k.sets.defines)
              (o.one (omega (arith, room)));
          no-defines = λ i low high. o.sets (32 + i) (omega (arith, high)) (λ e. omega (arith, e, low, l)) ∙ k.sets.no-defines i (omega (arith, low, l)) high;
        };
      }

  -- a line of another word, by its count
  kept-other : (r : List ℕ) (t : Style) (c m : ℕ) {x : Kinds} → Over plan r c m 48 x → Few t → Counted r t → s.properties ≡ t.properties → s.defines ≡ t.defines → Kept r t
  kept-other r t c m o f n p d =
      let x : SetsOver r t.properties t.defines = subst (λ (ps : List Declared). SetsOver r ps t.defines) p (subst (SetsOver r s.properties) d (same-sets r o)) in
      record { size = o.size; few = f; counted = n; sets = record { properties = x.0; no-properties = x.1; defines = x.2; no-defines = x.3 } }

  kept-show : (r : List ℕ) (e : Expression) {x : Kinds} → admits_to s word.Show ≡ true → Over plan r show_count (length s.shows + 1) 48 x → Kept r (with s (show e))
  kept-show r e ok o =
      let l = length_more s.shows e in
      kept-other r (with s (show e)) show_count (length s.shows + 1) o
      (record { properties = few.properties; defines = few.defines; shows = omega (arith, l, show-once s ok); colours = few.colours; conditions = few.conditions })
      (record {
        properties = o.counts 0 (omega arith) (λ e. omega (arith, e)) ∙ counts.properties;
        defines = o.counts 1 (omega arith) (λ e. omega (arith, e)) ∙ counts.defines;
        shows = o.count ∙ sym l;
        colours = o.counts 3 (omega arith) (λ e. omega (arith, e)) ∙ counts.colours;
        conditions = o.counts 4 (omega arith) (λ e. omega (arith, e)) ∙ counts.conditions;
      }) refl refl

  kept-colour : (r : List ℕ) (e : Expression) {x : Kinds} → admits_to s word.Color ≡ true → Over plan r colour_count (length s.colours + 1) 48 x → Kept r (with s (colour e))
  kept-colour r e ok o =
      let l = length_more s.colours e in
      kept-other r (with s (colour e)) colour_count (length s.colours + 1) o
      (record { properties = few.properties; defines = few.defines; shows = few.shows; colours = omega (arith, l, colour-once s ok); conditions = few.conditions })
      (record {
        properties = o.counts 0 (omega arith) (λ e. omega (arith, e)) ∙ counts.properties;
        defines = o.counts 1 (omega arith) (λ e. omega (arith, e)) ∙ counts.defines;
        shows = o.counts 2 (omega arith) (λ e. omega (arith, e)) ∙ counts.shows;
        colours = o.count ∙ sym l;
        conditions = o.counts 4 (omega arith) (λ e. omega (arith, e)) ∙ counts.conditions;
      }) refl refl

  kept-condition : (r : List ℕ) (c : Condition Expression) {x : Kinds} → admits_to s word.Cond ≡ true → Over plan r condition_count (length s.conditions + 1) 48 x → Kept r (with s (condition c))
  kept-condition r c ok o =
      let l = length_more s.conditions c in
      kept-other r (with s (condition c)) condition_count (length s.conditions + 1) o
      (record { properties = few.properties; defines = few.defines; shows = few.shows; colours = few.colours; conditions = omega (arith, l, condition-few s ok) })
      (record {
        properties = o.counts 0 (omega arith) (λ e. omega (arith, e)) ∙ counts.properties;
        defines = o.counts 1 (omega arith) (λ e. omega (arith, e)) ∙ counts.defines;
        shows = o.counts 2 (omega arith) (λ e. omega (arith, e)) ∙ counts.shows;
        colours = o.counts 3 (omega arith) (λ e. omega (arith, e)) ∙ counts.colours;
        conditions = o.count ∙ sym l;
      }) refl refl

  -- what each line adds
  pub kept_on : (at : ℕ) (line : List ℕ) (e : Entry) → admits_to s (word_of e) ≡ true → Kept (planned at line s e plan) (with s e)
  kept_on at line (property d) ok =
      kept-property _ d ok (over-set plan k.size property_count (length s.properties + 1) (omega arith) (property_kinds d.property) (length s.properties) (omega (arith, (property-first s ok).0)))
  kept_on at line (define d) ok =
      kept-define _ d ok
      (over-row (length s.defines) (at + field_start line 2) d.expression (omega arith)
      (over-set plan k.size define_count (length s.defines + 1) (omega arith) d.expression.kinds (first_define + length s.defines) (omega (arith, (define-next s ok).0))))
  kept_on at line (show e) ok =
      kept-show _ e ok
      (over-row show_row (at + field_start line 1) e (omega arith) (over-count plan k.size show_count (length s.shows + 1) (omega arith) (single_of Undefined)))
  kept_on at line (colour e) ok =
      kept-colour _ e ok
      (over-row colour_row (at + field_start line 1) e (omega arith) (over-count plan k.size colour_count (length s.colours + 1) (omega arith) (single_of Undefined)))
  kept_on at line (condition c) ok =
      kept-condition _ c ok
      (over-row (result_row (length s.conditions)) (at + field_start line 2) c.colour (omega arith)
      (over-row (test_row (length s.conditions)) (at + field_start line 1) c.test (omega arith)
      (over-count plan k.size condition_count (length s.conditions + 1) (omega arith) (single_of Undefined))))

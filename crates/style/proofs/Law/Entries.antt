-- An item is judged: what a return of each function says.
use Rattle.std.specs.Prelude.{Result, Ok, Err}
use mathlib.Core.Path.{◌≡◌, refl, sym, ◌∙◌, ap, subst}
use mathlib.Core.Bool.{true}
use mathlib.Core.List.{List}
use Prim.Native.Nat.{ℕ}
use Rattle.lexer.specs.Refusal.{Judged, fine, on_fine}
use Rattle.lexer.specs.declared.refusal.Refusal.{Refusal}
use Rattle.checker.specs.declared.name.Scope.TheVariants as scope
use Rattle.text.specs.Parts.{field, field_start}
use Rattle.text.specs.Name.{is_name}
use Rattle.text.specs.declared.part.Part.{Part}
use Rattle.style.specs.Style.{Style, number_in}
use Rattle.style.specs.Item.{item_of, item_judged, expression, line_said}
use Rattle.style.specs.Item as item
use Rattle.style.specs.Compile.{laid}
use Rattle.style.specs.Inner.{FieldLies, ItemLies, ItemBy, FieldBy, JudgedBy, ReadBy, admits_by}
use Rattle.style.specs.declared.item.Before.{Before}
use Rattle.style.specs.declared.item.Item.{Item}
use Rattle.style.specs.declared.item.Item.TheVariants as read
use Rattle.style.specs.declared.expression.Purpose.TheVariants as purpose
use Rattle.style.specs.declared.entry.Expression as code
use Rattle.style.specs.declared.entry.Entry as entries
use Rattle.style.specs.declared.entry.Entry.TheVariants as entry

-- an expression that is judged decides what is made of it
on : {A B : Type 0} {j : Judged A} (k : A → Judged B) {x : Judged A} → j ≡ x → on_fine j k ≡ on_fine x k
on k e = ap (λ j. on_fine j k) e

module _ (b : Before) (line w v : List ℕ) where
  abbrev Judges : Item → Result entries.Entry Refusal → Type 0
  Judges i r = JudgedBy i b line w v r

  -- the item decides what is judged
  by-item : (s : Style) {j : Judged item.Item} {x : item.Item} {y : Judged _} → j ≡ fine x → item_judged s x ≡ y → on_fine j (item_judged s) ≡ y
  by-item s h e = on (item_judged s) h ∙ e

  -- ---- `prop`

  pub judged-property : (name : Part) (k : ℕ) → ItemLies line (read.Property name k) → v ≡ w → Judges (read.Property name k) (Ok (entry.Property name k))
  unfolding item_judged
  judged-property name k lies same = (
    refl,
    λ s says j h. (h.0, by-item s h.1 refl, (lies, h.2, subst (λ (x : List ℕ). is_name x ≡ true) (sym h.2) h.3), h.4, same),
  )

  -- ---- `define`

  module _ (name text : Part) (lies : ItemLies line (read.Define name text)) where
    pub define-refused : (x : Refusal) → FieldBy purpose.Define text b line w v (Err x) → Judges (read.Define name text) (Err x)
    unfolding item_judged
    define-refused x by = λ s says j h. by-item s h.0 (on _ (by 2 lies.1 s says))

    pub define-accepted : (x : code.Expression) → FieldBy purpose.Define text b line w v (Ok x) → Judges (read.Define name text) (Ok (entry.Define name x))
    unfolding item_judged
    define-accepted x by = (
      refl,
      λ s says j h.
          let a = by 2 lies.1 s says in
          (record { name = field line 1; expression = a.0 }, by-item s h.0 (on _ a.1), (lies.0, refl, h.1), a.2, a.3),
    )

  -- ---- `show` and `color`

  module _ (text : Part) (lies : FieldLies line 1 text) where
    pub show-refused : (x : Refusal) → FieldBy purpose.Test text b line w v (Err x) → Judges (read.Show text) (Err x)
    unfolding item_judged
    show-refused x by = λ s says j h. by-item s h (on _ (by 1 lies s says))

    pub show-accepted : (x : code.Expression) → FieldBy purpose.Test text b line w v (Ok x) → Judges (read.Show text) (Ok (entry.Show x))
    unfolding item_judged
    show-accepted x by = (refl, λ s says j h. let a = by 1 lies s says in (a.0, by-item s h (on _ a.1), a.2, a.3))

    pub colour-refused : (x : Refusal) → FieldBy purpose.Colour text b line w v (Err x) → Judges (read.Colour text) (Err x)
    unfolding item_judged
    colour-refused x by = λ s says j h. by-item s h (on _ (by 1 lies s says))

    pub colour-accepted : (x : code.Expression) → FieldBy purpose.Colour text b line w v (Ok x) → Judges (read.Colour text) (Ok (entry.Colour x))
    unfolding item_judged
    colour-accepted x by = (refl, λ s says j h. let a = by 1 lies s says in (a.0, by-item s h (on _ a.1), a.2, a.3))

  -- ---- `cond`

  module _ (test text : Part) (lies : ItemLies line (read.Condition test text)) where
    pub test-refused : (x : Refusal) → FieldBy purpose.Test test b line w v (Err x) → Judges (read.Condition test text) (Err x)
    unfolding item_judged
    test-refused x by = λ s says j h. by-item s h (on _ (by 1 lies.0 s says))

    -- its colour; u are the slots between the two
    module _ (u : List ℕ) (x : code.Expression) (by : FieldBy purpose.Test test b line w u (Ok x)) where
      pub result-refused : (y : Refusal) → FieldBy purpose.Colour text b line u v (Err y) → Judges (read.Condition test text) (Err y)
      unfolding item_judged
      result-refused y more = λ s says j h. by-item s h (on _ (by 1 lies.0 s says).1 ∙ on _ (more 2 lies.1 s says))

      pub result-accepted : (y : code.Expression) → FieldBy purpose.Colour text b line u v (Ok y) → Judges (read.Condition test text) (Ok (entry.Condition x y))
      unfolding item_judged
      result-accepted y more = (
        refl,
        λ s says j h.
            let a = by 1 lies.0 s says in
            let c = more 2 lies.1 s says in (
              record { test = a.0; colour = c.0 },
              by-item s h (on _ a.1 ∙ on _ c.1),
              a.2,
              c.2,
              c.3 ∙ ap (laid (number_in scope.Style s) (field_start line 2) c.0) a.3,
            ),
      )

  -- ---- a line

  pub read-eight : (x : Refusal) → ItemBy b line (Err x) → ReadBy b line w v (Err x)
  unfolding line_said
  read-eight x by = λ s n says. on (item_judged s) (by s n says)

  pub read_is : (i : Item) → ItemBy b line (Ok i) → (r : Result entries.Entry Refusal) → JudgedBy i b line w v r → ReadBy b line w v r
  unfolding line_said
  read_is i a (Err x) by = λ s n says. by s says (item_of s line) (a.2 s n says)
  read_is i a (Ok e) by = (
    ap (admits_by b.plan.now) by.0 ∙ a.0,
    λ s n says. by.1 s says (item_of s line) (a.2 s n says),
  )

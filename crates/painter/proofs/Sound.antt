-- What is worked out for a feature by an accepted style meets no fault and ends in a kind that its line takes.
use Rattle.std.specs.Prelude.{Option, Some}
use mathlib.Core.Path.{◌≡◌, refl, sym, ◌∙◌, ap, subst}
use mathlib.Core.Bool.{Bool, true, false, cond}
use mathlib.Core.List.{List, [], ◌∷◌, ◌++◌, map}
use Prim.Native.Nat.{ℕ, suc, ◌+◌}
use lib.Dec.{T}
use lib.Ieee.Bits.{is_true}
use lib.ListN.{length}
use Rattle.lexer.specs.Bytes.{same}
use Rattle.lexer.proofs.Law.Runs.{by-test}
use Rattle.kind.specs.Set.{has}
use Rattle.kind.specs.declared.kind.Kind.TheVariants as kind
use Rattle.kind.proofs.Law.Sets.{in-single}
use Rattle.value.specs.Value.{kind_of, truth}
use Rattle.value.specs.declared.value.Span.{Span}
use Rattle.value.specs.declared.value.Value.{Value}
use Rattle.value.specs.declared.value.Value.TheVariants.{Undefined, Null, Boolean, Number, String, Vec2, Vec3, Vec4}
use Rattle.checker.specs.Name.{name_at}
use Rattle.checker.specs.Property.{property_kinds}
use Rattle.checker.specs.Kinds.{taken_by}
use Rattle.checker.specs.Check.{answer_of}
use Rattle.checker.specs.declared.name.Scope.{Scope}
use Rattle.checker.specs.declared.name.Scope.TheVariants as scope
use Rattle.checker.specs.declared.check.Wanted.{Wanted}
use Rattle.checker.specs.declared.check.Wanted.TheVariants as wanted
use Rattle.evaluator.specs.Literal.{literal_at, moved_value}
use Rattle.evaluator.specs.Eval.{is_fault}
use Rattle.evaluator.specs.Entries.{entries_of, NoneFaults}
use Rattle.evaluator.specs.Demand.{Conforms, fails}
use Rattle.evaluator.proofs.Literals.{literal-kind}
use Rattle.evaluator.proofs.Law.Variables.{every-variable}
use Rattle.evaluator.proofs.Sound.{accepted-result}
use Rattle.evaluator.proofs.Entries.{none-joined, none-faults}
use Rattle.style.specs.Style.{Declared, Expression, Define, Condition, Style, property_in, defined_in, kinds_in}
use Rattle.style.specs.Holds.{Each}
use Rattle.style.specs.Accepted.{Stands, AllStand}
use Rattle.style.proofs.Accepted.{accepted-stand}
use Rattle.feature.specs.Feature.{AllOf}
use Rattle.feature.proofs.Conforming.{entered-conform}
use Rattle.painter.specs.Given.{Asked, asked, until_true}
use Rattle.painter.specs.Meaning.{property_value, property_outcome, context_at, expression_at, by_define, defined_outcome, strings_of, name_outcome, own_base, outcome_of, value_of}
use Rattle.painter.specs.Paint.{declared_kinds, schema_of}
use Rattle.painter.specs.Entries.{worked_out_of, named_entries, entries_in, entries_in_all, entries_for}
use Rattle.painter.specs.Demand.{Reading, NoneFails}
use Rattle.painter.proofs.Order.{style-given}

-- ---- names

-- a property's value conforms to its kinds, and an undeclared name is Undefined
pub values-conform : (ds : List Declared) (vs : List Value) → AllOf (map declared_kinds ds) vs → (x : List ℕ) → T (has (property_kinds (property_in ds x)) (kind_of (property_value ds vs x)))
values-conform [] [] a x = in-single kind.Undefined
values-conform [] (v ∷ vs) a x = absurd a
values-conform (d ∷ ds) [] a x = absurd a
values-conform (d ∷ ds) (v ∷ vs) a x = go (same x d.name) (values-conform ds vs a.1 x)
  where
    go : (b : Bool) → T (has (property_kinds (property_in ds x)) (kind_of (property_value ds vs x))) →
        T (has (property_kinds (cond b d.property (property_in ds x))) (kind_of (cond b v (property_value ds vs x))))
    go true h = a.0
    go false h = h

-- ---- expressions that stand in a style

moved-kind : (base : ℕ) (v : Value) → kind_of (moved_value base v) ≡ kind_of v
moved-kind base Undefined = refl
moved-kind base Null = refl
moved-kind base (Boolean b) = refl
moved-kind base (Number x) = refl
moved-kind base (String s) = refl
moved-kind base (Vec2 x y) = refl
moved-kind base (Vec3 x y z) = refl
moved-kind base (Vec4 x y z w) = refl

module _ (s : Style) where
  -- Each comes to a value of its kinds that is wanted, if the names of its scope come to values of theirs, wherever its text lies.
  pub stands-sound : (c : Scope) (want : Wanted) (e : Expression) → Stands c want s e → (strings : Span → List ℕ) (base : ℕ) (names : List ℕ → Option Value) →
      ((x : List ℕ) → Conforms (kinds_in c s x) (names x)) →
      (v : Value) × (expression_at strings base names e ≡ Some v) × T (has e.kinds (kind_of v)) × T (has (taken_by want) (kind_of v))
  stands-sound c want e st strings base names h =
      accepted-result (context_at strings base names e)
      (λ p n. kinds_in c s (name_at e.text p)) (λ p k. moved-kind base (literal_at e.text p k) ∙ literal-kind e.text p k) e.tree
      (every-variable (λ p n. h (name_at e.text p)) e.tree) want (length e.text) e.kinds (ap answer_of st.checked)

  module _ (vs : List Value) (conform : AllOf (schema_of s) vs) where
    pub property-conforms : (x : List ℕ) → Conforms (kinds_in scope.Define s x) (property_outcome s vs x)
    property-conforms x = values-conform s.properties vs conform x

    defined-conforms : (strings : Span → List ℕ) (base i : ℕ) (ds : List Define) → Each (λ i (d : Define). Stands scope.Define wanted.Any s d.expression) i ds →
        (x : List ℕ) → Conforms (defined_in ds x (property_kinds (property_in s.properties x))) (defined_outcome strings base ds (property_outcome s vs) x)
    defined-conforms strings base i [] st x = property-conforms x
    defined-conforms strings base i (d ∷ ds) st x = go (same x d.name) (defined-conforms strings (base + length d.expression.text) (suc i) ds st.1 x)
      where
        go : (b : Bool) →
            Conforms (defined_in ds x (property_kinds (property_in s.properties x))) (defined_outcome strings (base + length d.expression.text) ds (property_outcome s vs) x) →
            Conforms (cond b d.expression.kinds (defined_in ds x (property_kinds (property_in s.properties x))))
            (cond b (expression_at strings base (property_outcome s vs) d.expression) (defined_outcome strings (base + length d.expression.text) ds (property_outcome s vs) x))
        go true h =
            let r = stands-sound scope.Define wanted.Any d.expression st.0 strings base (property_outcome s vs) property-conforms in
            subst (Conforms d.expression.kinds) (sym r.1) r.2
        go false h = h

    module _ (all : AllStand s) (feature : List ℕ) where
      -- ---- an expression

      -- a name comes to a value of its kinds
      pub named-conforms : (e : Expression) (x : List ℕ) → Conforms (kinds_in scope.Style s x) (name_outcome s feature vs e x)
      named-conforms e x = defined-conforms (strings_of s feature e) 0 0 s.defines all.defines x

      pub outcome-sound : (want : Wanted) (e : Expression) → Stands scope.Style want s e →
          (v : Value) × (outcome_of s feature vs e ≡ Some v) × T (has e.kinds (kind_of v)) × T (has (taken_by want) (kind_of v))
      unfolding outcome_of
      outcome-sound want e st =
          stands-sound scope.Style want e st (strings_of s feature e) (own_base s) (name_outcome s feature vs e) (named-conforms e)

      never-fails : (want : Wanted) (e : Expression) → Stands scope.Style want s e → fails want (outcome_of s feature vs e) ≡ false
      never-fails want e st =
          let r = outcome-sound want e st in
          rw (r.1, is_true (has (taken_by want) (kind_of r.0)) r.3)

      -- ---- the nodes that are entered in it

      defined-entries : (strings : Span → List ℕ) (base i : ℕ) (ds : List Define) →
          Each (λ i (d : Define). Stands scope.Define wanted.Any s d.expression) i ds → (x : List ℕ) →
          NoneFaults (by_define (λ base d. entries_of (context_at strings base (property_outcome s vs) d) (λ p n. []) d.tree) base ds [] x)
      defined-entries strings base i [] st x = tt
      defined-entries strings base i (d ∷ ds) st x =
          by-test NoneFaults (same x d.name)
          (λ _.
          let r = stands-sound scope.Define wanted.Any d.expression st.0 strings base (property_outcome s vs) property-conforms in
          none-faults (context_at strings base (property_outcome s vs) d.expression) (λ p n. []) (λ p n h. tt) d.expression.tree (ap is_fault r.1))
          (λ _. defined-entries strings (base + length d.expression.text) (suc i) ds st.1 x)

      never-faults : (want : Wanted) (e : Expression) → Stands scope.Style want s e → NoneFaults (entries_in s feature vs e)
      unfolding outcome_of
      never-faults want e st =
          none-faults (context_at (strings_of s feature e) (own_base s) (name_outcome s feature vs e) e) (λ p n. named_entries s feature vs e (name_at e.text p))
          (λ p n h. defined-entries (strings_of s feature e) 0 0 s.defines all.defines (name_at e.text p)) e.tree
          (ap is_fault (outcome-sound want e st).1)

      -- ---- all that is worked out

      -- each expression stands in the style
      abbrev Stood : List (Asked Expression) → Type 0
      Stood [] = Unit {0}
      Stood (x ∷ xs) = Stands scope.Style x.want s x.expression × Stood xs

      joined : (xs ys : List (Asked Expression)) → Stood xs → Stood ys → Stood (xs ++ ys)
      joined [] ys f g = g
      joined (x ∷ xs) ys f g = (f.0, joined xs ys f.1 g)

      all-stood : (want : Wanted) (i : ℕ) (es : List Expression) → Each (λ i (e : Expression). Stands scope.Style want s e) i es → Stood (map (asked want) es)
      all-stood want i [] st = tt
      all-stood want i (e ∷ es) st = (st.0, all-stood want (suc i) es st.1)

      abbrev until : List (Condition Expression) → List (Asked Expression)
      until = until_true (value_of s feature vs)

      until-stood : (i : ℕ) (cs : List (Condition Expression)) →
          Each (λ i (c : Condition Expression). Stands scope.Style wanted.Boolean s c.test × Stands scope.Style wanted.Vec4 s c.colour) i cs → Stood (until cs)
      until-stood i [] st = tt
      until-stood i (c ∷ cs) st = (
        st.0.0,
        by-test Stood (truth (value_of s feature vs c.test)) (λ _. (st.0.1, tt)) (λ _. until-stood (suc i) cs st.1),
      )

      worked-stood : Stood (worked_out_of s feature vs)
      worked-stood =
          joined (map (asked wanted.Boolean) s.shows) (until s.conditions ++ map (asked wanted.Vec4) s.colours)
          (all-stood wanted.Boolean 0 s.shows all.shows)
          (joined (until s.conditions) (map (asked wanted.Vec4) s.colours) (until-stood 0 s.conditions all.conditions)
          (all-stood wanted.Vec4 0 s.colours all.colours))

      fails-none : (xs : List (Asked Expression)) → Stood xs → NoneFails (outcome_of s feature vs) xs
      fails-none [] st = tt
      fails-none (x ∷ xs) st = (never-fails x.want x.expression st.0, fails-none xs st.1)

      faults-none : (xs : List (Asked Expression)) → Stood xs → NoneFaults (entries_in_all s feature vs xs)
      faults-none [] st = tt
      faults-none (x ∷ xs) st =
          none-joined (entries_in s feature vs x.expression) (entries_in_all s feature vs xs) (never-faults x.want x.expression st.0) (faults-none xs st.1)

      pub none-fails : NoneFaults (entries_for s feature vs) × NoneFails (outcome_of s feature vs) (worked_out_of s feature vs)
      none-fails = (faults-none (worked_out_of s feature vs) worked-stood, fails-none (worked_out_of s feature vs) worked-stood)

-- of a style that a head gives and values that a strip reads as
pub reading-sound : (slots : ℕ) (head : List ℕ) (number : ℕ) (feature : List ℕ) (x : Reading slots head number feature) →
    NoneFaults (entries_for x.style feature x.values)
    × NoneFails (outcome_of x.style feature x.values) (worked_out_of x.style feature x.values)
reading-sound slots head number feature x =
    let (_, _, is) = style-given slots head x.style x.gives in
    none-fails x.style x.values (entered-conform (schema_of x.style) number feature x.values x.reads) (accepted-stand head x.style is) feature

-- The rows of expressions, as the plan and the room of a head hold them, come to what the style's expressions come to.
use Rattle.std.specs.Prelude.{Option, Some, None}
use mathlib.Core.Path.{◌≡◌, refl, sym, ◌∙◌, ap, subst}
use mathlib.Core.Bool.{Bool, true, false, cond}
use mathlib.Core.List.{List, [], ◌∷◌, ◌++◌, append_assoc}
use Prim.Native.Nat.{ℕ, suc, ◌+◌, ◌<◌, ◌≤◌}
use native.Mathlib.Omega.{arith}
use borrow.Author.Tests.{lt-leb, lt-ltb, le-ltb}
use lib.ListN.{length, get_or, take, drop}
use lib.Seq.{slice, drop-drop, take-length, take-append_seam, drop-append_seam}
use Rattle.lexer.specs.Bytes.{same}
use Rattle.value.specs.Value.{text_in, truth, colour_in}
use Rattle.value.specs.declared.value.Span.{Span}
use Rattle.value.specs.declared.value.Value.{Value}
use Rattle.value.specs.declared.value.Value.TheVariants.{Undefined}
use Rattle.lexer.specs.Refusal.{fine}
use Rattle.syntax.specs.Judge.{judged_of}
use Rattle.checker.specs.Name.{name_at}
use Rattle.checker.specs.declared.name.Scope.{Scope}
use Rattle.checker.specs.declared.name.Scope.TheVariants as scope
use Rattle.checker.specs.declared.check.Wanted.TheVariants as wanted
use Rattle.evaluator.specs.Literal.{literal_at, moved_value}
use Rattle.evaluator.specs.Values.{value_at, stored}
use Rattle.evaluator.specs.Eval.{value_in, eval_of}
use Rattle.evaluator.specs.Arrays.{eval_at}
use Rattle.evaluator.specs.Alike.{AlikeOutcomes}
use Rattle.evaluator.proofs.Alike.{alike-truth, alike-colour}
use Rattle.evaluator.proofs.Answers.{evaluated-named}
use Rattle.evaluator.proofs.Stored.{stored_back, stored-others, stored-length}
use Rattle.plan.specs.Layout.{most_defines, first_define, expressions, from_place, to_place, root_place, undeclared, plan_size, number_at}
use Rattle.style.specs.Style.{Expression, Define, Style, number_in}
use Rattle.style.specs.Holds.{Each, Held, StyleHeld, Holds}
use Rattle.style.specs.Accepted.{Stands, AllStand}
use Rattle.style.proofs.Law.Ladder.{taken, passed}
use Rattle.feature.specs.Feature.{AllOf}
use Rattle.painter.specs.Meaning.{property_value, property_outcome, expression_at, defined_outcome, defines_text, name_outcome, outcome_of, value_of}
use Rattle.painter.specs.Paint.{schema_of}
use Rattle.painter.specs.Applied.{source, placed_value, row_value, defined_from}
use Rattle.painter.proofs.Sound.{stands-sound, property-conforms}
use Rattle.feature.proofs.Own.{AllOwn}
use Rattle.painter.proofs.Law.Own.{own_value}
use Rattle.painter.proofs.Law.Values.{Filled, few-numbers, define-names, defined_value}
use Rattle.painter.proofs.Law.Places.{Lies, Together, own-alike, later, expression-alike}

-- ---- outcomes

worked-back : (o : Option Value) (v : Value) → o ≡ Some v → o ≡ Some (value_in o)
worked-back o v e = e ∙ ap (λ (o : Option Value). Some (value_in o)) (sym e)

module _ (R : Span → Span → Type 0) where
  outcome-truth : (o p : Option Value) → AlikeOutcomes R o p → truth (value_in o) ≡ truth (value_in p)
  outcome-truth None None a = refl
  outcome-truth None (Some w) a = absurd a
  outcome-truth (Some v) None a = absurd a
  outcome-truth (Some v) (Some w) a = alike-truth a

  outcome-colour : (o p : Option Value) → AlikeOutcomes R o p → colour_in (value_in o) ≡ colour_in (value_in p)
  outcome-colour None None a = refl
  outcome-colour None (Some w) a = absurd a
  outcome-colour (Some v) None a = absurd a
  outcome-colour (Some v) (Some w) a = alike-colour a

module _ (head feature room plan : List ℕ) (fits : length head ≤ length room) (s : Style) (holds : Holds head room plan s) where
  -- ---- a row

  abbrev pub from_of : ℕ → ℕ
  from_of row = get_or plan (from_place row) 0

  abbrev pub to_of : ℕ → ℕ
  to_of row = get_or plan (to_place row) 0

  abbrev root_of : ℕ → ℕ
  root_of row = get_or plan (root_place row) 0

  -- what it comes to at its places in the head
  abbrev pub own_outcome : (List ℕ → Option Value) → ℕ → Expression → Option Value
  own_outcome names row e = expression_at (text_in (take (to_of row) head) feature) (from_of row) names e

  module _ (c : Scope) (row : ℕ) (e : Expression) (small : row < expressions) (laid : Held c head room plan s row e) (judged : judged_of e.text ≡ fine e.tree) (values : List Value)
      (names : List ℕ → Value) (named : (x : List ℕ) → value_at values (number_in c s x) ≡ names x) where
    row-worked : eval_at (take (to_of row) head) feature (slice (from_of row) (to_of row) room) values (from_of row) (root_of row) ≡ own_outcome (λ x. Some (names x)) row e
    row-worked =
        (λ i. eval_at (take (to_of row) head) feature (laid.beside i) values (from_of row) (laid.rooted i))
        ∙ evaluated-named (number_in c s) (λ x. omega (arith, few-numbers c s holds.few x)) e.text laid.before e.tree judged (omega (arith, laid.size)) (take (to_of row) head) feature values (from_of row)
        laid.is
        ∙ (λ i.
        eval_of
        (record {
          text = text_in (take (to_of row) head) feature;
          literals = λ p k. moved_value (from_of row) (literal_at e.text p k);
          variables = λ p n. Some (named (name_at e.text p) i);
        })
        e.tree)

    -- its numbers lie in the plan
    number-there : (place : ℕ) → place < plan_size → number_at plan place ≡ get_or plan place 0
    number-there place h = taken 0 (lt-ltb place plan_size h) refl

    row_is : row_value (source head feature room plan) values row ≡ value_in (own_outcome (λ x. Some (names x)) row e)
    unfolding row_value
    row_is =
        let x = source head feature room plan in
        let from = number-there (from_place row) (omega arith) in
        let to = number-there (to_place row) (omega arith) in
        let root = number-there (root_place row) (omega arith) in
        passed Undefined (lt-leb expressions row small)
        ((λ i. placed_value x values (from i) (to i) (root i))
        ∙ passed Undefined (le-ltb (to_of row) (from_of row) laid.order)
        (passed Undefined (le-ltb (length head) (to_of row) laid.inside)
        (passed Undefined (le-ltb (length room) (to_of row) (omega (arith, laid.inside, fits))) (ap value_in row-worked))))

  module _ (stand : AllStand s) (vs : List Value) (conform : AllOf (schema_of s) vs) (owned : AllOwn vs) (size : length s.properties ≡ length vs) where
    -- ---- defines

    -- the value of a define
    abbrev pub own : ℕ → Define → Value
    own i d = value_in (own_outcome (property_outcome s vs) i d.expression)

    abbrev pub AllHeld : ℕ → List Define → Type 0
    AllHeld i ds = Each (λ i (d : Define). Held scope.Define head room plan s i d.expression) i ds

    abbrev pub AllFine : ℕ → List Define → Type 0
    AllFine i ds = Each (λ i (d : Define). Stands scope.Define wanted.Any s d.expression) i ds

    -- after some from i on are stored: those have their values, and what is before them stays
    pub record Defined (a after : List Value) (i : ℕ) (ds : List Define) : Type 0 where
      pub below : (m : ℕ) → m < first_define + i → value_at after m ≡ value_at a m
      pub each : Each (λ k (d : Define). value_at after (first_define + k) ≡ own k d) i ds

    kept : (values : List Value) (i : ℕ) (v : Value) → Filled values vs → Filled (stored values (first_define + i) v) vs
    kept values i v f k h = stored-others values (first_define + i) v k (λ e. omega (arith, size, holds.few.properties)) ∙ f k h

    pub defined : (i : ℕ) (ds : List Define) (values : List Value) → length values ≡ undeclared → i + length ds ≤ most_defines → Filled values vs → AllHeld i ds → AllFine i ds →
        Defined values (defined_from (source head feature room plan) (length ds) i values) i ds
    defined i [] values long few filled held st = record { below = λ m h. refl; each = tt }
    defined i (d ∷ ds) values long few filled held st =
        let v = row_value (source head feature room plan) values i in
        let n = first_define + i in
        let is : v ≡ own i d =
        row_is scope.Define i d.expression (omega arith) held.0 st.0.judged values (property_value s.properties vs)
        (define-names s values long vs size filled) in
        let rest = defined (suc i) ds (stored values n v) (stored-length values n v ∙ long) (omega arith) (kept values i v filled) held.1 st.1 in
        record {
          below = λ m h. rest.below m (omega arith) ∙ stored-others values n v m (λ e. omega arith);
          each = (rest.below n (omega arith) ∙ stored_back values n v (omega (arith, long)) ∙ is, rest.each);
        }

    -- ---- names

    -- what goes before a define's expression goes before the style's
    abbrev After : ℕ → ℕ → List Define → Type 0
    After to i ds = (k : ℕ) → i ≤ k → k < i + length ds → to_of k ≤ to

    -- A name of the style comes to the same at the places in the head and at those in the text of the defines with another behind it.
    module _ (to : ℕ) (whole rest : List ℕ) where
      abbrev Same : Option Value → Option Value → Type 0
      Same = AlikeOutcomes (Together head feature to whole)

      property-alike : (to : ℕ) (x : List ℕ) → AlikeOutcomes (Together head feature to whole) (property_outcome s vs x) (property_outcome s vs x)
      property-alike to x = own-alike head feature to whole (property_value s.properties vs x) (own_value s.properties vs owned x)

      define-alike : (i base : ℕ) (d : Define) → to_of i ≤ to → Lies base d.expression.text whole → Held scope.Define head room plan s i d.expression → Stands scope.Define wanted.Any s d.expression →
          Same (Some (own i d)) (expression_at (text_in whole feature) base (property_outcome s vs) d.expression)
      define-alike i base d before lies held st =
          let r = stands-sound s scope.Define wanted.Any d.expression st (text_in (take (to_of i) head) feature) (from_of i) (property_outcome s vs) (property-conforms s vs conform) in
          let o = own_outcome (property_outcome s vs) i d.expression in
          let p = expression_at (text_in whole feature) base (property_outcome s vs) d.expression in
          later head feature (to_of i) to whole before (Some (own i d)) p
          (subst (λ (o : Option Value). AlikeOutcomes (Together head feature (to_of i) whole) o p) (worked-back o r.0 r.1)
          (expression-alike head feature (from_of i) (to_of i) d.expression base whole held.is held.inside lies (property_outcome s vs) (property_outcome s vs) (property-alike (to_of i))))

      -- the text of some defines, and then the rest, lies from a base on
      front : (base : ℕ) (d : Define) (ds : List Define) → drop base whole ≡ defines_text (d ∷ ds) ++ rest → drop base whole ≡ d.expression.text ++ (defines_text ds ++ rest)
      front base d ds e = e ∙ append_assoc d.expression.text (defines_text ds) rest

      lies-first : (base : ℕ) (d : Define) (ds : List Define) → drop base whole ≡ defines_text (d ∷ ds) ++ rest → Lies base d.expression.text whole
      lies-first base d ds e = ap (take (length d.expression.text)) (front base d ds e) ∙ take-append_seam d.expression.text (defines_text ds ++ rest)

      lies-next : (base : ℕ) (d : Define) (ds : List Define) → drop base whole ≡ defines_text (d ∷ ds) ++ rest → drop (base + length d.expression.text) whole ≡ defines_text ds ++ rest
      lies-next base d ds e =
          sym (drop-drop (length d.expression.text) base whole)
          ∙ ap (drop (length d.expression.text)) (front base d ds e)
          ∙ drop-append_seam d.expression.text (defines_text ds ++ rest)

      name-alike : (x : List ℕ) (i base : ℕ) (ds : List Define) → drop base whole ≡ defines_text ds ++ rest → After to i ds → AllHeld i ds → AllFine i ds →
          Same (Some (defined_value own x (property_value s.properties vs x) i ds)) (defined_outcome (text_in whole feature) base ds (property_outcome s vs) x)
      name-alike x i base [] lies before held st = property-alike to x
      name-alike x i base (d ∷ ds) lies before held st =
          go (same x d.name) _ _ _ _
          (define-alike i base d (before i (omega arith) (omega arith)) (lies-first base d ds lies) held.0 st.0)
          (name-alike x (suc i) (base + length d.expression.text) ds (lies-next base d ds lies) (λ k l h. before k (omega arith) (omega arith)) held.1 st.1)
        where
          go : (b : Bool) (v w : Value) (o p : Option Value) → Same (Some v) o → Same (Some w) p → Same (Some (cond b v w)) (cond b o p)
          go true v w o p a c = a
          go false v w o p a c = c

    -- ---- expressions of the style

    module _ (values : List Value) (names : (x : List ℕ) → value_at values (number_in scope.Style s x) ≡ defined_value own x (property_value s.properties vs x) 0 s.defines)
        (row : ℕ) (e : Expression) (small : row < expressions) (held : StyleHeld head room plan s row e) (judged : judged_of e.text ≡ fine e.tree) where
      abbrev style_names : List ℕ → Value
      style_names x = defined_value own x (property_value s.properties vs x) 0 s.defines

      -- what it comes to at its places in the head
      abbrev style_outcome : Option Value
      style_outcome = own_outcome (λ x. Some (style_names x)) row e

      abbrev whole : List ℕ
      whole = defines_text s.defines ++ e.text

      lies-behind : Lies (length (defines_text s.defines)) e.text whole
      lies-behind = ap (take (length e.text)) (drop-append_seam (defines_text s.defines) e.text) ∙ take-length e.text

      style-alike : AlikeOutcomes (Together head feature (to_of row) whole) style_outcome (outcome_of s feature vs e)
      unfolding outcome_of
      style-alike =
          expression-alike head feature (from_of row) (to_of row) e (length (defines_text s.defines)) whole held.0.is held.0.inside lies-behind (λ x. Some (style_names x)) (name_outcome s feature vs e)
          (λ x. name-alike (to_of row) whole e.text x 0 0 s.defines refl (λ k l h. omega (arith, held.1 k (omega arith), held.0.order)) holds.expressed.defines stand.defines)

      row-alike : row_value (source head feature room plan) values row ≡ value_in style_outcome
      row-alike = row_is scope.Style row e small held.0 judged values style_names names

      pub row-truth : truth (row_value (source head feature room plan) values row) ≡ truth (value_of s feature vs e)
      row-truth = ap truth row-alike ∙ outcome-truth (Together head feature (to_of row) whole) style_outcome (outcome_of s feature vs e) style-alike

      pub row-colour : colour_in (row_value (source head feature room plan) values row) ≡ colour_in (value_of s feature vs e)
      row-colour = ap colour_in row-alike ∙ outcome-colour (Together head feature (to_of row) whole) style_outcome (outcome_of s feature vs e) style-alike

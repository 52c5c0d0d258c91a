-- Values by names: what there is for a name's number is what the style has for the name.
use mathlib.Core.Path.{◌≡◌, refl, sym, ◌∙◌, ap}
use mathlib.Core.Bool.{Bool, true, false, cond}
use mathlib.Core.List.{List, [], ◌∷◌, map}
use Prim.Native.Nat.{ℕ, suc, ◌+◌, ◌<◌, ◌≤◌}
use native.Mathlib.Omega.{arith}
use Rattle.std.proofs.lemmas.List.{get_or_past}
use lib.ListN.{length, get_or}
use Rattle.lexer.specs.Bytes.{same}
use Rattle.lexer.proofs.Law.Runs.{by-test}
use Rattle.value.specs.declared.value.Value.{Value}
use Rattle.value.specs.declared.value.Value.TheVariants.{Undefined}
use Rattle.plan.specs.Layout.{first_define, undeclared}
use Rattle.checker.specs.declared.name.Scope.{Scope}
use Rattle.checker.specs.declared.name.Scope.TheVariants as scope
use Rattle.evaluator.specs.Values.{value_at}
use Rattle.style.specs.Style.{Declared, Define, Style, name_of, define_name, number_from, number_in}
use Rattle.style.specs.Holds.{Each, Few}
use Rattle.painter.specs.Meaning.{property_value}

-- ---- numbers

number-below : (n : ℕ) (names : List (List ℕ)) (other : ℕ) (x : List ℕ) (most : ℕ) → n + length names ≤ most → other ≤ most → number_from n names other x ≤ most
number-below n [] other x most h o = o
number-below n (y ∷ ys) other x most h o = by-test (λ (k : ℕ). k ≤ most) (same x y) (λ _. omega arith) (λ _. number-below (suc n) ys other x most (omega arith) o)

map-length : {A B : Type 0} (f : A → B) (xs : List A) → length (map f xs) ≡ length xs
map-length f [] = refl
map-length f (x ∷ xs) = ap suc (map-length f xs)

property-below : (s : Style) → Few s → (x : List ℕ) → number_in scope.Define s x ≤ undeclared
property-below s few x =
    number-below 0 (map name_of s.properties) undeclared x undeclared (omega (arith, map-length name_of s.properties, few.properties)) (omega arith)

-- none is behind that of an undeclared name
pub few-numbers : (c : Scope) (s : Style) → Few s → (x : List ℕ) → number_in c s x ≤ undeclared
few-numbers scope.Define s few x = property-below s few x
few-numbers scope.Style s few x =
    number-below first_define (map define_name s.defines) _ x undeclared (omega (arith, map-length define_name s.defines, few.defines)) (property-below s few x)

-- ---- values

-- there is a value for each property
abbrev pub Filled : List Value → List Value → Type 0
Filled values vs = (i : ℕ) → i < length vs → value_at values i ≡ get_or vs i Undefined

-- the value of the first define from i on that has a name, or another
abbrev pub defined_value : (ℕ → Define → Value) → List ℕ → Value → ℕ → List Define → Value
defined_value own x other i [] = other
defined_value own x other i (d ∷ ds) = cond (same x d.name) (own i d) (defined_value own x other (suc i) ds)

module _ (values : List Value) (room : length values ≡ undeclared) (x : List ℕ) where
  -- what stands for a number stands for its value
  through : (b : Bool) (n m : ℕ) (v w : Value) → value_at values n ≡ v → value_at values m ≡ w → value_at values (cond b n m) ≡ cond b v w
  through true n m v w h k = h
  through false n m v w h k = k

  none : value_at values undeclared ≡ Undefined
  none = get_or_past values undeclared Undefined (omega (arith, room))

  properties-from : (n : ℕ) (ds : List Declared) (vs : List Value) → length ds ≡ length vs → ((i : ℕ) → i < length vs → value_at values (n + i) ≡ get_or vs i Undefined) →
      value_at values (number_from n (map name_of ds) undeclared x) ≡ property_value ds vs x
  properties-from n [] vs size f = none
  properties-from n (d ∷ ds) [] size f = absurd (omega arith)
  properties-from n (d ∷ ds) (v ∷ vs) size f =
      let here : n + 0 ≡ n = omega arith in
      through (same x d.name) n _ v _ (rw here at (f 0 (omega arith)))
      (properties-from (suc n) ds vs (omega arith) (λ i h. let e : n + suc i ≡ suc n + i = omega arith in rw e at (f (suc i) (omega arith))))

  defines-from : (own : ℕ → Define → Value) (m : ℕ) (other : Value) → value_at values m ≡ other → (i : ℕ) (ds : List Define) →
      Each (λ i (d : Define). value_at values (first_define + i) ≡ own i d) i ds → value_at values (number_from (first_define + i) (map define_name ds) m x) ≡ defined_value own x other i ds
  defines-from own m other o i [] hs = o
  defines-from own m other o i (d ∷ ds) hs =
      let next : suc (first_define + i) ≡ first_define + suc i = omega arith in
      through (same x d.name) (first_define + i) _ (own i d) _ hs.0
      (ap (λ (n : ℕ). value_at values (number_from n (map define_name ds) m x)) next ∙ defines-from own m other o (suc i) ds hs.1)

-- ---- the names of a style

module _ (s : Style) (values : List Value) (room : length values ≡ undeclared) (vs : List Value) (size : length s.properties ≡ length vs) (filled : Filled values vs) (x : List ℕ) where
  -- inside a define every name is a property
  pub define-names : value_at values (number_in scope.Define s x) ≡ property_value s.properties vs x
  define-names =
      properties-from values room x 0 s.properties vs size (λ i h. let e : i ≡ 0 + i = omega arith in ap (value_at values) (sym e) ∙ filled i h)

  -- "In `show`, `color` and `cond` a define hides a property of its name"
  pub style-names : (own : ℕ → Define → Value) → Each (λ i (d : Define). value_at values (first_define + i) ≡ own i d) 0 s.defines →
      value_at values (number_in scope.Style s x) ≡ defined_value own x (property_value s.properties vs x) 0 s.defines
  style-names own held = defines-from values room x own (number_in scope.Define s x) _ define-names 0 s.defines held

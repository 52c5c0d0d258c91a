-- Expressions of the same truth and the same colour, one by one, give the same.
use Rattle.std.specs.Prelude.{Some}
use mathlib.Core.Path.{◌≡◌, refl, ap}
use mathlib.Core.Bool.{cond}
use mathlib.Core.List.{List, [], ◌∷◌}
use Rattle.colour.specs.Colour.{clamped_of}
use Rattle.value.specs.Value.{truth, colour_in}
use Rattle.value.specs.declared.value.Value.{Value}
use Rattle.style.specs.Style.{Condition}
use Rattle.painter.specs.Given.{shown_by, colour_by, conditioned_by, coloured_by, given_by}

-- two lists, one element after another
abbrev pub Both : {A B : Type 0} → (A → B → Type 0) → List A → List B → Type 0
Both R [] [] = Unit {0}
Both R [] (b ∷ bs) = ⊥
Both R (a ∷ rest) [] = ⊥
Both R (a ∷ rest) (b ∷ bs) = R a b × Both R rest bs

module _ {D E : Type 0} (value : D → Value) (value' : E → Value) where
  abbrev pub SameTruth : D → E → Type 0
  SameTruth d e = truth (value d) ≡ truth (value' e)

  abbrev pub SameColour : D → E → Type 0
  SameColour d e = colour_in (value d) ≡ colour_in (value' e)

  abbrev pub SameCondition : Condition D → Condition E → Type 0
  SameCondition c k = SameTruth c.test k.test × SameColour c.colour k.colour

  same-shown : (ds : List D) (es : List E) → Both SameTruth ds es → shown_by value ds ≡ shown_by value' es
  same-shown [] [] s = refl
  same-shown [] (e ∷ es) s = absurd s
  same-shown (d ∷ ds) [] s = absurd s
  same-shown (d ∷ ds) (e ∷ es) s = s.0

  same-colour : (d : D) (e : E) → SameColour d e → colour_by value d ≡ colour_by value' e
  same-colour d e s = ap (λ c. Some (clamped_of c)) s

  same-conditioned : (cs : List (Condition D)) (ks : List (Condition E)) → Both SameCondition cs ks → conditioned_by value cs ≡ conditioned_by value' ks
  same-conditioned [] [] s = refl
  same-conditioned [] (k ∷ ks) s = absurd s
  same-conditioned (c ∷ cs) [] s = absurd s
  same-conditioned (c ∷ cs) (k ∷ ks) s =
      λ i. cond (s.0.0 i) (same-colour c.colour k.colour s.0.1 i) (same-conditioned cs ks s.1 i)

  same-coloured : (ds : List D) (es : List E) (cs : List (Condition D)) (ks : List (Condition E)) →
      Both SameColour ds es → Both SameCondition cs ks → coloured_by value ds cs ≡ coloured_by value' es ks
  same-coloured (d ∷ ds) (e ∷ es) cs ks s t = same-colour d e s.0
  same-coloured (d ∷ ds) [] cs ks s t = absurd s
  same-coloured [] (e ∷ es) cs ks s t = absurd s
  same-coloured [] [] [] [] s t = refl
  same-coloured [] [] [] (k ∷ ks) s t = absurd t
  same-coloured [] [] (c ∷ cs) [] s t = absurd t
  same-coloured [] [] (c ∷ cs) (k ∷ ks) s t = same-conditioned (c ∷ cs) (k ∷ ks) t

  pub same-given : (shows : List D) (colours : List D) (conditions : List (Condition D)) (shows' : List E) (colours' : List E)
      (conditions' : List (Condition E)) → Both SameTruth shows shows' → Both SameColour colours colours' →
      Both SameCondition conditions conditions' → given_by value shows colours conditions ≡ given_by value' shows' colours' conditions'
  same-given shows colours conditions shows' colours' conditions' s c k =
      λ i. record { show = same-shown shows shows' s i; colouring = same-coloured colours colours' conditions conditions' c k i }

-- The turns of the loops, and what the functions answer by their tests.
use Rattle.std.specs.Prelude.{Option, Some, None}
use mathlib.Core.Path.{◌≡◌, refl, sym, ◌∙◌, ap}
use mathlib.Core.Bool.{Bool, true, false, cond}
use mathlib.Core.List.{List, []}
use mathlib.Core.Logic.{◌⊎◌, inl, inr}
use Prim.Native.Nat.{ℕ, zero, suc, ◌+◌, ◌-◌, ◌<◌, ◌≤◌, min}
use native.Mathlib.Omega.{arith}
use borrow.Author.Tests.{eq-eqb, lt-leb, le-leb, lt-ltb, le-ltb}
use lib.Dec.{ltb}
use lib.ListN.{length, take, drop}
use Rattle.lexer.proofs.Law.Spelling.{slice_is}
use Rattle.value.specs.Value.{truth}
use Rattle.value.specs.Meaning.{white}
use Rattle.value.specs.declared.value.Value.{Value}
use Rattle.value.specs.declared.value.Value.TheVariants.{Undefined}
use Rattle.plan.specs.Layout.{most_conditions, first_define, test_row, result_row, expressions, colour_count, condition_count, from_place, to_place, root_place, number_at}
use Rattle.evaluator.specs.Values.{stored}
use Rattle.evaluator.specs.Eval.{value_in}
use Rattle.evaluator.specs.Arrays.{eval_at}
use Rattle.style.proofs.Law.Ladder.{taken, passed}
use Rattle.painter.specs.Given.{colour_by, conditioned_by, coloured_by}
use Rattle.painter.specs.Applied.{Source, placed_value, row_value, defined_from, colour_rows, conditions_from, condition_rows}
use Rattle.colour.specs.declared.colour.Colour.{Colour}

-- ---- a row

module _ (x : Source) (a : List Value) (row : ℕ) where
  pub row-none : expressions ≤ row → Undefined ≡ row_value x a row
  unfolding row_value
  row-none h = sym (taken _ (le-leb expressions row h) refl)

  module _ (small : row < expressions) (from to : ℕ) (begins : from ≡ number_at x.plan (from_place row)) (ends : to ≡ number_at x.plan (to_place row)) where
    row-placed : (root : ℕ) → root ≡ number_at x.plan (root_place row) → placed_value x a from to root ≡ row_value x a row
    unfolding row_value
    row-placed root r = (λ i. placed_value x a (begins i) (ends i) (r i)) ∙ sym (passed Undefined (lt-leb expressions row small) refl)

    -- outside head or room
    outside : (t : Bool) {v : Value} → v ≡ Undefined → cond t Undefined v ≡ Undefined
    outside true e = refl
    outside false e = e

    pub row-no_head : (to < 0) ⊎ (length x.head < to) → Undefined ≡ row_value x a row
    row-no_head (inl h) = absurd (omega arith)
    row-no_head (inr h) = sym (outside (ltb to from) (taken _ (lt-ltb (length x.head) to h) refl)) ∙ row-placed _ refl

    pub row-no_slots : (to < from) ⊎ (length x.room < to) → Undefined ≡ row_value x a row
    row-no_slots (inl h) = sym (taken _ (lt-ltb to from h) refl) ∙ row-placed _ refl
    row-no_slots (inr h) =
        sym (outside (ltb to from) (outside (ltb (length x.head) to) (taken _ (lt-ltb (length x.room) to h) refl))) ∙ row-placed _ refl

    pub row_inside : from ≤ to → to ≤ length x.head → to ≤ length x.room → (root : ℕ) → root ≡ number_at x.plan (root_place row) → (style slots : List ℕ) → style ≡ take (to - 0) x.head →
        slots ≡ take (to - from) (drop from x.room) → value_in (eval_at style x.feature slots a from root) ≡ row_value x a row
    row_inside order inside room root r style slots s t =
        let all : to - 0 ≡ to = omega arith in
        (λ i. value_in (eval_at ((s ∙ ap (λ (n : ℕ). take n x.head) all) i) x.feature ((t ∙ sym (slice_is from to x.room)) i) a from root))
        ∙ sym (passed Undefined (le-ltb to from order) (passed Undefined (le-ltb (length x.head) to inside) (passed Undefined (le-ltb (length x.room) to room) refl)))
        ∙ row-placed root r

-- ---- defines that are stored

pub record Storing (x : Source) (count : ℕ) (first a : List Value) (i : ℕ) : Type 0 where
  pub left : ℕ
  pub all : i + left ≡ count
  pub whole : defined_from x count 0 first ≡ defined_from x left i a

module _ (x : Source) (count : ℕ) (first : List Value) where
  pub storing-start : Storing x count first first 0
  storing-start = record { left = count; all = omega arith; whole = refl }

  module _ (a : List Value) (i : ℕ) (sofar : Storing x count first a i) where
    -- one is left at least, and after it one less
    next : (left : ℕ) → i + left ≡ count → i < count → defined_from x count 0 first ≡ defined_from x left i a → (after : List Value) →
        after ≡ stored a (first_define + i) (row_value x a i) → Storing x count first after (i + 1)
    next zero n h w after s = absurd (omega arith)
    next (suc left) n h w after s =
        let e : suc i ≡ i + 1 = omega arith in
        record { left = left; all = omega arith; whole = w ∙ (λ j. defined_from x left (e j) (sym s j)) }

    pub storing-turn : i < count → (value : Value) → value ≡ row_value x a i → (after : List Value) → after ≡ stored a (first_define + i) value → Storing x count first after (i + 1)
    storing-turn h value v after s = next sofar.left sofar.all h sofar.whole after (s ∙ ap (stored a (first_define + i)) v)

    pub storing-end : count ≤ i → a ≡ defined_from x count 0 first
    storing-end h =
        let e : sofar.left ≡ 0 = omega (arith, sofar.all) in
        sym (sofar.whole ∙ ap (λ (n : ℕ). defined_from x n i a) e)

-- ---- the first condition that is true

pub record Seeking (value : ℕ → Value) (count k : ℕ) : Type 0 where
  pub left : ℕ
  pub all : k + left ≡ count
  pub whole : conditioned_by value (conditions_from count 0) ≡ conditioned_by value (conditions_from left k)

module _ (value : ℕ → Value) (count : ℕ) where
  pub seeking-start : Seeking value count 0
  seeking-start = record { left = count; all = omega arith; whole = refl }

  module _ (k : ℕ) (sofar : Seeking value count k) where
    -- one is left at least
    record Next : Type 0 where
      left : ℕ
      all : k + suc left ≡ count
      whole : conditioned_by value (conditions_from count 0) ≡ conditioned_by value (conditions_from (suc left) k)

    next_one : k < count → Next
    next_one h = go sofar.left sofar.all sofar.whole
      where
        go : (left : ℕ) → k + left ≡ count → conditioned_by value (conditions_from count 0) ≡ conditioned_by value (conditions_from left k) → Next
        go zero a w = absurd (omega arith)
        go (suc left) a w = record { left = left; all = a; whole = w }

    pub seeking-found : k < count → truth (value (test_row k)) ≡ true → (c : Option Colour) → c ≡ colour_by value (test_row k + 1) → c ≡ conditioned_by value (conditions_from count 0)
    seeking-found h t c is =
        let n = next_one h in
        let e : test_row k + 1 ≡ result_row k = omega arith in
        is ∙ ap (colour_by value) e ∙ sym (n.whole ∙ taken _ t refl)

    pub seeking-turn : k < count → truth (value (test_row k)) ≡ false → Seeking value count (k + 1)
    seeking-turn h t =
        let n = next_one h in
        let e : suc k ≡ k + 1 = omega arith in
        record { left = n.left; all = omega (arith, n.all); whole = n.whole ∙ passed _ t refl ∙ ap (λ (k : ℕ). conditioned_by value (conditions_from n.left k)) e }

    pub seeking-end : count ≤ k → None ≡ conditioned_by value (conditions_from count 0)
    seeking-end h =
        let e : sofar.left ≡ 0 = omega (arith, sofar.all) in
        sym (sofar.whole ∙ ap (λ (n : ℕ). conditioned_by value (conditions_from n k)) e)

-- ---- without `color` and conditions

pub coloured-white : (value : ℕ → Value) (plan : List ℕ) (n m : ℕ) → n ≡ number_at plan colour_count → n ≤ 0 → m ≡ number_at plan condition_count → m ≤ 0 →
    Some white ≡ coloured_by value (colour_rows plan) (condition_rows plan)
coloured-white value plan n m colours h conditions none =
    rw (eq-eqb (number_at plan colour_count) 0 (omega (arith, colours))) (go (min (number_at plan condition_count) most_conditions) (omega (arith, conditions)))
  where
    go : (m : ℕ) → m ≤ 0 → Some white ≡ coloured_by value [] (conditions_from m 0)
    go zero h = refl
    go (suc m) h = absurd (omega arith)

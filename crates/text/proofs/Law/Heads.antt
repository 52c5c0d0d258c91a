-- The head of an input, line by line.
use mathlib.Core.Path.{◌≡◌, refl, sym, ◌∙◌, ap}
use mathlib.Core.Bool.{Bool, true, false}
use mathlib.Core.List.{List, [], ◌∷◌}
use Prim.Native.Nat.{ℕ, suc, ◌+◌, ◌-◌, ◌≤◌, ◌<◌, min}
use native.Mathlib.Omega.{arith}
use lib.ListN.{length, take, drop, drop_of_length-le}
use lib.Seq.{slice, length-slice}
use Rattle.lexer.proofs.Law.Spelling.{slice_is}
use Rattle.text.specs.Parts.{lines, field, end_from}
use Rattle.text.specs.Head.{is_feature, before_features, head_end}
use Rattle.text.proofs.Law.Parts.{lines_from, end-from, end-within, from_first, here}

-- the first field, by where it ends
module _ (line : List ℕ) (end : ℕ) (e : end ≡ end_from 9 line 0) where
  pub first_field : field line 0 ≡ take end line
  first_field = rw e (here 9 line 0 0 (from_first 9 line))

  pub first-inside : end ≤ length line
  first-inside = rw e (end-within 9 line 0 (omega arith))

-- the head ends where that of the lines from a place on does
pub record On (input : List ℕ) (at : ℕ) : Type 0 where
  pub inside : at ≤ length input
  pub left : head_end input ≡ min (at + before_features (lines (drop at input))) (length input)

pub on-first : (input : List ℕ) → On input 0
on-first input = record { inside = omega arith; left = omega arith }

feature-here : (l : List ℕ) (ls : List (List ℕ)) → is_feature l ≡ true → before_features (l ∷ ls) ≡ 0
unfolding before_features
feature-here l ls e = rw e

no-feature-here : (l : List ℕ) (ls : List (List ℕ)) → is_feature l ≡ false → before_features (l ∷ ls) ≡ suc (length l + before_features ls)
unfolding before_features
no-feature-here l ls e = rw e

module _ (input : List ℕ) (at : ℕ) (o : On input at) where
  none : before_features [] ≡ 0
  unfolding before_features
  none = refl

  -- no line is left
  pub at-end : length input ≤ at → at ≡ head_end input
  at-end h =
      let e : lines (drop at input) ≡ [] = ap lines (drop_of_length-le input {i = at} h) in
      omega (arith, o.left, o.inside, ap before_features e, none)

  module _ (end : ℕ) (h : at < length input) (e : end ≡ end_from 10 input at) (t : Bool) (f : t ≡ is_feature (take (end - at) (drop at input))) where
    line-is : is_feature (slice at end input) ≡ t
    line-is = rw (slice_is at end input) (sym f)

    split : lines (drop at input) ≡ slice at end input ∷ lines (drop (end + 1) input)
    split = rw e (lines_from input at h)

    pub at-feature : t ≡ true → at ≡ head_end input
    at-feature q = omega (arith, o.left, h, ap before_features split, feature-here (slice at end input) (lines (drop (end + 1) input)) (line-is ∙ q))

    module _ (q : t ≡ false) where
      past : (k : end ≤ length input) → at + before_features (lines (drop at input)) ≡ end + 1 + before_features (lines (drop (end + 1) input))
      past k =
          omega (arith, e, end-from 10 input at, length-slice at end input k, ap before_features split, no-feature-here (slice at end input) (lines (drop (end + 1) input)) (line-is ∙ q))

      pub at_last : end ≤ length input → length input ≤ end → end ≡ head_end input
      at_last k m = omega (arith, o.left, past k)

      pub on-next : end < length input → On input (end + 1)
      on-next k = record { inside = omega arith; left = o.left ∙ ap (λ (n : ℕ). min n (length input)) (past (omega arith)) }

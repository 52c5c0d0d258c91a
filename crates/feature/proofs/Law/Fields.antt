-- A field of a line by its bytes, from its first on.
use Rattle.std.specs.Prelude.{Option, Some}
use Rattle.std.specs.List.{starts_with}
use Rattle.std.specs.Cmp.Lexicographic.{pointwise}
use mathlib.Core.Path.{◌≡◌, refl, sym, ◌∙◌, ap}
use mathlib.Core.Bool.{Bool, true, false, ◌&&◌, false≢true}
use mathlib.Core.List.{List, [], ◌∷◌}
use Prim.Native.Nat.{ℕ, ◌+◌, ◌-◌, ◌≤◌}
use native.Mathlib.Omega.{arith}
use borrow.Author.Tests.{eq-eqb, ne_eqb, eqb-true, eqb-false}
use lib.Dec.{eqb}
use lib.ListN.{length, take, drop}
use lib.Seq.{length-slice}
use Rattle.lexer.specs.Bytes.{begins, same, ascii}
use Rattle.lexer.proofs.Law.Spelling.{slice_is}
use Rattle.lexer.proofs.Law.Texts.{pointwise-same}
use Rattle.value.specs.declared.value.Value.TheVariants.{Null, Boolean}
use Rattle.feature.specs.Field.{numbers_of, string_of, filled_of, field_of}
use Rattle.value.specs.declared.value.Value.{Value}

-- a text that starts with one byte
pub starts : (b : ℕ) (s : List ℕ) → starts_with eqb s (b ∷ []) ≡ begins (b ∷ []) s
starts b [] = refl
starts b (x ∷ xs) = ap (λ t. t && true) (go (eqb x b) refl)
  where
    go : (t : Bool) → eqb x b ≡ t → eqb b x ≡ eqb x b
    go true e = eq-eqb b x (sym (eqb-true x b e)) ∙ sym e
    go false e = ne_eqb b x (λ h. eqb-false x b e (sym h)) ∙ sym e

-- the length of a part of a line
pub ends : (line : List ℕ) (start end : ℕ) → start ≤ end → end ≤ length line → start + length (take (end - start) (drop start line)) ≡ end
ends line start end order inside = omega (arith, order, length-slice start end line inside, ap length (slice_is start end line))

module _ (start : ℕ) (text : List ℕ) where
  -- the text is compared with a word
  pub compared : (r t : Bool) (w v : List ℕ) → w ≡ v → r ≡ pointwise eqb text w → r ≡ t → same text v ≡ t
  compared r t w v e is h = ap (same text) (sym e) ∙ sym (pointwise-same text w) ∙ sym is ∙ h

  module _ (some : eqb (length text) 0 ≡ false) where
    is-filled : field_of start text ≡ filled_of start text
    is-filled = go text some
      where
        go : (text : List ℕ) → eqb (length text) 0 ≡ false → field_of start text ≡ filled_of start text
        go [] h = absurd (false≢true (sym h))
        go (b ∷ bs) h = refl

    pub says-null : same text (ascii "null") ≡ true → Some Null ≡ field_of start text
    unfolding filled_of
    says-null e = sym (is-filled ∙ rw e)

    module _ (n : same text (ascii "null") ≡ false) where
      pub says-true : same text (ascii "true") ≡ true → Some (Boolean true) ≡ field_of start text
      unfolding filled_of
      says-true e = sym (is-filled ∙ rw (n, e))

      module _ (t : same text (ascii "true") ≡ false) where
        pub says-false : same text (ascii "false") ≡ true → Some (Boolean false) ≡ field_of start text
        unfolding filled_of
        says-false e = sym (is-filled ∙ rw (n, t, e))

        module _ (f : same text (ascii "false") ≡ false) (r : Option Value) (p : Bool) (is : p ≡ starts_with eqb text (61 ∷ [])) where
          pub says-text : p ≡ true → (end : ℕ) → start + length text ≡ end → r ≡ string_of start end → r ≡ field_of start text
          unfolding filled_of
          says-text b end last e = e ∙ sym (is-filled ∙ rw (n, t, f, ← starts 61 text, ← is, b, last))

          pub says-numbers : p ≡ false → r ≡ numbers_of text → r ≡ field_of start text
          unfolding filled_of
          says-numbers b e = e ∙ sym (is-filled ∙ rw (n, t, f, ← starts 61 text, ← is, b))

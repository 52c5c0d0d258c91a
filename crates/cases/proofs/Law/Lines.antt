-- Digits, and forms and numbers of a line by the byte at a place.
use Rattle.std.proofs.Common.{◌≡◌, ℕ, suc, ◌+◌, ◌-◌, ◌%◌, ◌^◌, ◌<◌, ◌≤◌, false, ◌&&◌, List, [], ◌∷◌, length, get_or, drop, sym, refl, ap, add-one, arith, drop_of_length-le, drop-cons, le-leb}
use mathlib.Core.Bool.{and-false}
use borrow.Author.Tests.{lt-leb}
use Rattle.std.specs.List.{zip, list_all}
use Rattle.cases.specs.Line.{digit_of, fits_byte, fits_form, with_digit, with_digits}

-- ---- digits, by the bounds that a byte is between

module _ (b : ℕ) where
  pub digit-decimal : 48 ≤ b → b < 58 → b - 48 ≡ digit_of b
  digit-decimal h k = rw (le-leb 48 b h, le-leb b 57 (omega arith))

  pub digit-letter : 97 ≤ b → b < 103 → b - 97 + 10 ≡ digit_of b
  digit-letter h k = rw (le-leb 48 b (omega arith), lt-leb b 57 (omega arith), le-leb 97 b h, le-leb b 102 (omega arith))

  pub digit-below : b < 48 → 16 ≡ digit_of b
  digit-below h = rw (lt-leb 48 b h, lt-leb 97 b (omega arith))

  pub digit-between : 58 ≤ b → b < 97 → 16 ≡ digit_of b
  digit-between h k = rw (le-leb 48 b (omega arith), lt-leb b 57 h, lt-leb 97 b k)

  pub digit-above : 103 ≤ b → 16 ≡ digit_of b
  digit-above h = rw (le-leb 48 b (omega arith), lt-leb b 57 (omega arith), le-leb 97 b (omega arith), lt-leb b 102 h)

-- ---- forms

pub fits_along : (line form : List ℕ) → length line ≡ length form → list_all (λ p. fits_byte p.0 p.1) (zip line form) ≡ fits_form line form
fits_along [] [] h = refl
fits_along [] (f ∷ fs) h = absurd (omega arith)
fits_along (b ∷ bs) [] h = absurd (omega arith)
fits_along (b ∷ bs) (f ∷ fs) h = ap (λ t. fits_byte b f && t) (fits_along bs fs (omega arith))

pub other_length : (line form : List ℕ) → (length line ≡ length form → ⊥) → false ≡ fits_form line form
other_length [] [] h = absurd (h refl)
other_length [] (f ∷ fs) h = refl
other_length (b ∷ bs) [] h = refl
other_length (b ∷ bs) (f ∷ fs) h = rw (sym (other_length bs fs (λ e. h (ap suc e)))) (sym (and-false (fits_byte b f)))

-- ---- numbers

-- what a number's lowest bits are is settled by the lowest bits of what it begins with
same_bits : (m n : ℕ) (bs : List ℕ) → m % 2 ^ 64 ≡ n % 2 ^ 64 → with_digits m bs % 2 ^ 64 ≡ with_digits n bs % 2 ^ 64
unfolding with_digits
same_bits m n [] e = e
same_bits m n (b ∷ bs) e = same_bits (with_digit m b) (with_digit n b) bs (omega arith)

module _ (bs : List ℕ) (i value : ℕ) where
  pub number_more : i < length bs → with_digits (with_digit value (get_or bs i 0) % 2 ^ 64) (drop (i + 1) bs) % 2 ^ 64 ≡ with_digits value (drop i bs) % 2 ^ 64
  unfolding with_digits
  number_more h = rw (add-one i, drop-cons bs i 0 h) (same_bits _ _ (drop (suc i) bs) (omega arith))

  -- nothing is left of the digits
  pub number_past : value < 2 ^ 64 → length bs ≤ i → value ≡ with_digits value (drop i bs) % 2 ^ 64
  unfolding with_digits
  number_past small h = rw (drop_of_length-le bs {i = i} h) (omega arith)

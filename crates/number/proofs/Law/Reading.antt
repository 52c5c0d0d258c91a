-- What the functions that read decimal text lean on: the digits that they count and join are those of the definition.
use Rattle.std.proofs.Common.{◌≡◌, ℕ, zero, suc, ◌+◌, ◌-◌, ◌*◌, ◌^◌, ◌<◌, ◌≤◌, Bool, true, false, ◌&&◌, T, eqb, leb, List, [], ◌∷◌, ◌++◌, length, get_or, take, drop, sym, refl, ap, ◌∙◌, subst, lt_of_lt_of_le, add-zero, add-suc, pos_of_ne-zero, suc-add, pow-suc, zero-add, add-one, arith, lit<, length-drop, drop_of_length-le, drop-cons, drop-drop, le-ltb, lt-ltb, eq-eqb, ne_eqb, eqb-true, le-leb, leb-false, leb-true}
use native.Mathlib.Nat.{pow-le-pow_right}
use borrow.Author.Tests.{lt-leb, eqb-false}
use mathlib.Core.Bool.{false≢true}
use Rattle.std.specs.List.{starts_with}
use Rattle.number.specs.declared.decimal.Digits.{Digits}
use Rattle.number.specs.declared.decimal.Decimal.{Decimal}
use Rattle.number.specs.declared.decimal.Decimal.TheVariants.{Nothing, Number, TooLong}
use Rattle.number.specs.Decimal.{is_digit, digits, whole_part, fraction, joined, with_point, most_digits, read_at}
use Rattle.number.specs.Inner.{pushed, pushed_all, gathered}

first : (a b : Bool) → (a && b) ≡ true → a ≡ true
first true b e = refl
first false b e = e

last : (a b : Bool) → (a && b) ≡ true → b ≡ true
last true b e = e
last false b e = absurd (subst T (sym e) tt)

-- ---- one digit more

pub pushed_more : (n b : ℕ) → n < 10 ^ 14 → 48 ≤ b → 10 * n + (b - 48) ≡ pushed n b
unfolding pushed
pushed_more n b h k = rw (lt-ltb n 100000000000000 h, le-leb 48 b k)

pub pushed-other : (n b : ℕ) → n < 10 ^ 14 → b < 48 → n ≡ pushed n b
unfolding pushed
pushed-other n b h k = rw (lt-ltb n 100000000000000 h, lt-leb 48 b k)

pub pushed-full : (n b : ℕ) → 10 ^ 14 ≤ n → n ≡ pushed n b
unfolding pushed
pushed-full n b h = rw (le-ltb n 100000000000000 h)

-- ---- the digits at a place, by the first byte

pub digits_more : (b : ℕ) (bs : List ℕ) → is_digit b ≡ true → digits (b ∷ bs) ≡ b ∷ digits bs
unfolding digits
digits_more b bs e = rw (digits, e)

pub digits-none : (b : ℕ) (bs : List ℕ) → is_digit b ≡ false → digits (b ∷ bs) ≡ []
unfolding digits
digits-none b bs e = rw (digits, e)

-- ---- the same, of a place in a text

module _ (text : List ℕ) (i : ℕ) where
  pub digit-here : i < length text → is_digit (get_or text i 0) ≡ true → digits (drop i text) ≡ get_or text i 0 ∷ digits (drop (i + 1) text)
  digit-here h e = rw (add-one, drop-cons text i 0 h) (digits_more _ _ e)

  pub digit-stop : i < length text → is_digit (get_or text i 0) ≡ false → digits (drop i text) ≡ []
  digit-stop h e = rw (drop-cons text i 0 h) (digits-none _ _ e)

  pub digit-past : length text ≤ i → digits (drop i text) ≡ []
  unfolding digits
  digit-past h = rw (drop_of_length-le text h)

-- ---- what is gathered: the digits while there are at most 15

pub gathered-stop : (d : Digits) (n : ℕ) (left ds : List ℕ) → left ≡ [] → d.count + length left ≡ length ds → pushed_all d.value left ≡ pushed_all n ds → d ≡ gathered n ds
unfolding gathered pushed_all
gathered-stop d n left ds e k v = λ i.
    record {
      count = (sym (add-zero d.count) ∙ ap (λ (l : List ℕ). d.count + length l) (sym e) ∙ k) i;
      value = (ap (pushed_all d.value) (sym e) ∙ v) i;
    }

-- a digit is at most 9, so one more keeps n below the next power of ten
grown : (n b j : ℕ) → n < 10 ^ j → is_digit b ≡ true → 10 * n + (b - 48) < 10 ^ suc j
grown n b j h e = omega (arith, pow-suc 10 j, leb-true b 57 (last (leb 48 b) (leb b 57) e))

from-value : (bs : List ℕ) (n j : ℕ) → n < 10 ^ j → j + length (digits bs) ≤ most_digits → pushed_all n (digits bs) ≡ joined n (digits bs)
unfolding pushed_all digits joined
from-value [] n j h k = refl
from-value (b ∷ bs) n j h k = go (is_digit b) refl (λ m. from-value bs m (suc j))
  where
    go : (t : Bool) → is_digit b ≡ t → ((m : ℕ) → m < 10 ^ suc j → suc j + length (digits bs) ≤ most_digits → pushed_all m (digits bs) ≡ joined m (digits bs)) →
        pushed_all n (digits (b ∷ bs)) ≡ joined n (digits (b ∷ bs))
    go true e ih =
        let room : j + suc (length (digits bs)) ≤ most_digits = rw (digits_more b bs e) at k in
        let small : j ≤ 14 = omega arith in
        let below : n < 10 ^ 14 = lt_of_lt_of_le h (pow-le-pow_right (lit< tt) small) in
        ap (pushed_all n) (digits_more b bs e)
        ∙ ap (λ (m : ℕ). pushed_all m (digits bs)) (sym (pushed_more n b below (leb-true 48 b (first (leb 48 b) (leb b 57) e))))
        ∙ ih _ (grown n b j h e) (omega arith)
        ∙ sym (ap (joined n) (digits_more b bs e))
    go false e ih = rw (digits-none b bs e)

joined-lt : (bs : List ℕ) (n j : ℕ) → n < 10 ^ j → joined n (digits bs) < 10 ^ (j + length (digits bs))
unfolding digits joined
joined-lt [] n j h = rw (add-zero j) h
joined-lt (b ∷ bs) n j h = go (is_digit b) refl (joined-lt bs (10 * n + (b - 48)) (suc j))
  where
    go : (t : Bool) → is_digit b ≡ t → (10 * n + (b - 48) < 10 ^ suc j → joined (10 * n + (b - 48)) (digits bs) < 10 ^ (suc j + length (digits bs))) →
        joined n (digits (b ∷ bs)) < 10 ^ (j + length (digits (b ∷ bs)))
    go true e ih = rw (digits_more b bs e, add-suc j (length (digits bs)), ← suc-add j (length (digits bs))) (ih (grown n b j h e))
    go false e ih = rw (digits-none b bs e, add-zero j) h

-- ---- the whole part

-- a whole part is a 0, or digits
whole-cases : (P : List ℕ → Type 0) (bs : List ℕ) → P [] → P (48 ∷ []) → P (digits bs) → P (whole_part bs)
unfolding whole_part
whole-cases P [] p q r = p
whole-cases P (b ∷ bs) p q r = go (eqb b 48) refl
  where
    go : (t : Bool) → eqb b 48 ≡ t → P (whole_part (b ∷ bs))
    go true e = rw (whole_part, e, eqb-true b 48 e) q
    go false e = rw (whole_part, e) r

pub whole-nought : (bs : List ℕ) → starts_with eqb bs (48 ∷ []) ≡ true → record { count = 1; value = 0 } ≡ gathered 0 (whole_part bs)
unfolding whole_part gathered pushed_all pushed
whole-nought [] h = absurd (false≢true h)
whole-nought (b ∷ bs) h =
    subst (λ (x : ℕ). record { count = 1; value = 0 } ≡ gathered 0 (whole_part (x ∷ bs))) (eqb-true 48 b (first (eqb 48 b) true h)) refl

pub whole-digits : (bs : List ℕ) → starts_with eqb bs (48 ∷ []) ≡ false → digits bs ≡ whole_part bs
unfolding whole_part digits
whole-digits [] h = refl
whole-digits (b ∷ bs) h = rw (whole_part, ne_eqb b 48 (λ e. false≢true (sym h ∙ subst (λ (x : ℕ). (eqb 48 x && true) ≡ true) (sym e) refl)))

whole-value : (bs : List ℕ) → length (whole_part bs) ≤ most_digits → pushed_all 0 (whole_part bs) ≡ joined 0 (whole_part bs)
unfolding pushed_all joined
whole-value bs = whole-cases (λ w. length w ≤ most_digits → pushed_all 0 w ≡ joined 0 w) bs (λ h. refl) (λ h. refl) (λ h. from-value bs 0 0 (lit< tt) (omega arith))

pub whole-lt : (bs : List ℕ) → joined 0 (whole_part bs) < 10 ^ length (whole_part bs)
unfolding joined
whole-lt bs = whole-cases (λ w. joined 0 w < 10 ^ length w) bs (lit< tt) (lit< tt) (rw (zero-add (length (digits bs))) at (joined-lt bs 0 0 (lit< tt)))

-- ---- the fraction

-- there is no point, or there are digits after one, maybe none
fraction-cases : (P : List ℕ → Type 0) (bs : List ℕ) → P [] → ((cs : List ℕ) → P (digits cs)) → P (fraction bs)
unfolding fraction
fraction-cases P [] p q = p
fraction-cases P (b ∷ bs) p q = go (eqb b 46) refl
  where
    go : (t : Bool) → eqb b 46 ≡ t → P (fraction (b ∷ bs))
    go true e = rw (fraction, e) (q bs)
    go false e = rw (fraction, e) p

take_at_end : (bs : List ℕ) (n : ℕ) → length bs ≤ n → take n bs ≡ bs
take_at_end [] zero h = refl
take_at_end [] (suc n) h = refl
take_at_end (b ∷ bs) zero h = absurd (omega arith)
take_at_end (b ∷ bs) (suc n) h = ap (λ (l : List ℕ). b ∷ l) (take_at_end bs n (omega arith))

pub fraction-point : (bs : List ℕ) (n : ℕ) → get_or bs 0 0 ≡ 46 → length bs - 1 ≤ n → digits (take n (drop 1 bs)) ≡ fraction bs
unfolding fraction
fraction-point [] n h k = absurd (omega arith)
fraction-point (b ∷ bs) n h k = rw (fraction, h) (ap digits (take_at_end bs n (omega arith)))

pub fraction-none : (bs : List ℕ) (n : ℕ) → (get_or bs 0 0 ≡ 46 → ⊥) → record { count = 0; value = n } ≡ gathered n (fraction bs)
unfolding fraction gathered pushed_all
fraction-none [] n h = refl
fraction-none (b ∷ bs) n h = rw (fraction, ne_eqb b 46 h)

fraction-value : (bs : List ℕ) (n j : ℕ) → n < 10 ^ j → j + length (fraction bs) ≤ most_digits → pushed_all n (fraction bs) ≡ joined n (fraction bs)
unfolding pushed_all joined
fraction-value bs n j h = fraction-cases (λ f. j + length f ≤ most_digits → pushed_all n f ≡ joined n f) bs (λ k. refl) (λ cs. from-value cs n j h)

pub fraction-lt : (bs : List ℕ) (n j : ℕ) → n < 10 ^ j → joined n (fraction bs) < 10 ^ (j + length (fraction bs))
unfolding joined
fraction-lt bs n j h = fraction-cases (λ f. joined n f < 10 ^ (j + length f)) bs (rw (add-zero j) h) (λ cs. joined-lt cs n j h)

-- ---- what `read` returns

pub joined-append : (n : ℕ) (w f : List ℕ) → joined n (w ++ f) ≡ joined (joined n w) f
unfolding joined
joined-append n [] f = refl
joined-append n (d ∷ w) f = joined-append (10 * n + (d - 48)) w f

abbrev pub whole_at : List ℕ → ℕ → List ℕ
whole_at text at = whole_part (drop at text)

abbrev pub fraction_at : List ℕ → ℕ → List ℕ
fraction_at text at = fraction (drop (length (whole_at text at)) (drop at text))

pub with_some : (n : ℕ) → (n ≡ 0 → ⊥) → with_point n ≡ suc n
with_some zero h = absurd (h refl)
with_some (suc n) h = refl

pub with_none : (n : ℕ) → n ≡ 0 → with_point n ≡ 0
with_none zero h = refl
with_none (suc n) h = absurd (omega arith)

pub le-with_point : (n : ℕ) → n ≤ with_point n
le-with_point zero = omega arith
le-with_point (suc n) = omega arith

whole_count : (text : List ℕ) (at : ℕ) (whole : Digits) → whole ≡ gathered 0 (whole_at text at) → whole.count ≡ length (whole_at text at)
unfolding gathered
whole_count text at whole ew = ap (λ d. d.count) ew

pub read-nothing : (text : List ℕ) (at : ℕ) (whole : Digits) → whole ≡ gathered 0 (whole_at text at) → whole.count ≡ 0 → Nothing ≡ read_at text at
unfolding read_at
read-nothing text at whole ew e = rw (eq-eqb (length (whole_at text at)) 0 (sym (whole_count text at whole ew) ∙ e))

module _ (text : List ℕ) (at : ℕ) (whole all : Digits)
    (ew : whole ≡ gathered 0 (whole_at text at)) (ea : all ≡ gathered whole.value (fraction (drop (at + whole.count) text))) where
  whole-count : whole.count ≡ length (whole_at text at)
  whole-count = whole_count text at whole ew

  all-is : all ≡ gathered whole.value (fraction_at text at)
  all-is =
      ea ∙ ap (λ (bs : List ℕ). gathered whole.value (fraction bs)) (ap (λ (i : ℕ). drop (at + i) text) whole-count ∙ sym (drop-drop (length (whole_at text at)) at text))

  all-count : all.count ≡ length (fraction_at text at)
  unfolding gathered
  all-count = ap (λ d. d.count) all-is

  value-is : length (whole_at text at) + length (fraction_at text at) ≤ most_digits → all.value ≡ joined 0 (whole_at text at ++ fraction_at text at)
  unfolding gathered
  value-is h =
      let first : whole.value ≡ joined 0 (whole_at text at) = ap (λ d. d.value) ew ∙ whole-value (drop at text) (omega arith) in
      ap (λ d. d.value) all-is
      ∙ ap (λ (n : ℕ). pushed_all n (fraction_at text at)) first
      ∙ fraction-value _ (joined 0 (whole_at text at)) (length (whole_at text at)) (whole-lt (drop at text)) h
      ∙ sym (joined-append 0 (whole_at text at) (fraction_at text at))

  some : (whole.count ≡ 0 → ⊥) → length (whole_at text at) ≡ 0 → ⊥
  some h z = h (whole-count ∙ z)

  module _ (end : ℕ) (g : end ≡ at + whole.count + with_point all.count) where
    end-at : end ≡ at + length (whole_at text at) + with_point (length (fraction_at text at))
    end-at = g ∙ rw (whole-count, all-count)

    pub read_number : (whole.count ≡ 0 → ⊥) → whole.count + all.count ≤ most_digits → Number end all.value all.count ≡ read_at text at
    unfolding read_at
    read_number h k =
        let few : length (whole_at text at) + length (fraction_at text at) ≤ most_digits = rw (whole-count, all-count) at k in
        rw (ne_eqb (length (whole_at text at)) 0 (some h), le-leb (length (whole_at text at) + length (fraction_at text at)) most_digits few)
        (λ i. Number (end-at i) (value-is few i) (all-count i))

    pub read-long : (whole.count ≡ 0 → ⊥) → most_digits < whole.count + all.count → TooLong end ≡ read_at text at
    unfolding read_at
    read-long h k =
        let many : most_digits < length (whole_at text at) + length (fraction_at text at) = rw (whole-count, all-count) at k in
        rw (ne_eqb (length (whole_at text at)) 0 (some h), lt-leb (length (whole_at text at) + length (fraction_at text at)) most_digits many)
        (ap TooLong end-at)

-- what `read_at` gives, by its tests
pub read-cases : (P : Decimal → Type 0) (text : List ℕ) (at : ℕ) → (length (whole_at text at) ≡ 0 → P Nothing) →
    (0 < length (whole_at text at) → length (whole_at text at) + length (fraction_at text at) ≤ most_digits →
    P (Number (at + length (whole_at text at) + with_point (length (fraction_at text at))) (joined 0 (whole_at text at ++ fraction_at text at)) (length (fraction_at text at)))) →
    (0 < length (whole_at text at) → most_digits < length (whole_at text at) + length (fraction_at text at) → P (TooLong (at + length (whole_at text at) + with_point (length (fraction_at text at))))) →
    P (read_at text at)
unfolding read_at
read-cases P text at p q r = go (eqb (length (whole_at text at)) 0) (leb (length (whole_at text at) + length (fraction_at text at)) most_digits) refl refl
  where
    some : eqb (length (whole_at text at)) 0 ≡ false → 0 < length (whole_at text at)
    some e = pos_of_ne-zero (eqb-false _ 0 e)

    go : (t u : Bool) → eqb (length (whole_at text at)) 0 ≡ t → leb (length (whole_at text at) + length (fraction_at text at)) most_digits ≡ u → P (read_at text at)
    go true u e k = rw e (p (eqb-true _ 0 e))
    go false true e k = rw (e, k) (q (some e) (leb-true _ most_digits k))
    go false false e k = rw (e, k) (r (some e) (leb-false _ most_digits k))

-- ---- what `read_at` finds lies in the text

digits_le : (bs : List ℕ) → length (digits bs) ≤ length bs
unfolding digits
digits_le [] = omega arith
digits_le (b ∷ bs) = go (is_digit b) refl (digits_le bs)
  where
    go : (t : Bool) → is_digit b ≡ t → length (digits bs) ≤ length bs → length (digits (b ∷ bs)) ≤ length (b ∷ bs)
    go true e h = rw (digits_more b bs e) (omega arith)
    go false e h = rw (digits-none b bs e) (omega arith)

whole_le : (bs : List ℕ) → length (whole_part bs) ≤ length bs
unfolding whole_part
whole_le [] = omega arith
whole_le (b ∷ bs) = go (eqb b 48) refl
  where
    go : (t : Bool) → eqb b 48 ≡ t → length (whole_part (b ∷ bs)) ≤ length (b ∷ bs)
    go true e = rw (whole_part, e) (omega arith)
    go false e = rw (whole_part, e) (digits_le (b ∷ bs))

with-point-le : (k : ℕ) → with_point k ≤ suc k
with-point-le zero = omega arith
with-point-le (suc k) = omega arith

fraction-le : (bs : List ℕ) → with_point (length (fraction bs)) ≤ length bs
unfolding fraction
fraction-le [] = omega arith
fraction-le (b ∷ bs) = go (eqb b 46) refl
  where
    go : (t : Bool) → eqb b 46 ≡ t → with_point (length (fraction (b ∷ bs))) ≤ length (b ∷ bs)
    go true e = rw (fraction, e) (omega (arith, digits_le bs, with-point-le (length (digits bs))))
    go false e = rw (fraction, e) (omega arith)

-- a number has a byte at least, and ends within the text
abbrev pub EndsWithin : List ℕ → ℕ → Decimal → Type 0
EndsWithin text at Nothing = Unit {0}
EndsWithin text at (Number end n k) = (at < end) × (end ≤ length text)
EndsWithin text at (TooLong end) = (at < end) × (end ≤ length text)

pub end_within : (text : List ℕ) (at : ℕ) → 0 < length (whole_at text at) → at + length (whole_at text at) + with_point (length (fraction_at text at)) ≤ length text
end_within text at h =
    let rest = drop (length (whole_at text at)) (drop at text) in
    let w : length (whole_at text at) ≤ length text - at = rw (length-drop at text) at (whole_le (drop at text)) in
    let f : with_point (length (fraction_at text at)) ≤ length text - at - length (whole_at text at) = rw (length-drop (length (whole_at text at)) (drop at text), length-drop at text) at (fraction-le rest) in
    omega arith

pub read-within : (text : List ℕ) (at : ℕ) → EndsWithin text at (read_at text at)
read-within text at =
    read-cases (EndsWithin text at) text at (λ e. tt)
    (λ h k. (omega arith, end_within text at h))
    (λ h k. (omega arith, end_within text at h))

pub point-within : (text : List ℕ) (at : ℕ) (whole : Digits) → whole ≡ gathered 0 (whole_at text at) → (whole.count ≡ 0 → ⊥) → at + whole.count ≤ length text
point-within text at whole ew h =
    let e = whole_count text at whole ew in
    let g : at + length (whole_at text at) + with_point (length (fraction_at text at)) ≤ length text = end_within text at (omega arith) in
    omega arith

pub all-within : (text : List ℕ) (at : ℕ) (whole all : Digits) → (ew : whole ≡ gathered 0 (whole_at text at)) → (ea : all ≡ gathered whole.value (fraction (drop (at + whole.count) text))) →
    (whole.count ≡ 0 → ⊥) → at + whole.count + with_point all.count ≤ length text
all-within text at whole all ew ea h =
    let e = whole_count text at whole ew in
    rw (e, all-count text at whole all ew ea) (end_within text at (omega arith))

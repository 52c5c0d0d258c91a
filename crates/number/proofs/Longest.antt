-- `read_at` takes the longest number at a place: no number there is longer, and what it takes is one.
use Rattle.std.proofs.Common.{◌≡◌, ℕ, zero, suc, ◌+◌, ◌<◌, ◌≤◌, Bool, true, false, T, eqb, List, [], ◌∷◌, ◌++◌, length, take, drop, sym, refl, ap, ◌∙◌, subst, ap₂, append_assoc, append-nil, add-zero, arith, lit≤, length-append, take-append-drop, take-add, ne_eqb, eqb-true}
use mathlib.Core.List.{head-eq_of_cons-eq}
use borrow.Author.Tests.{eqb-false}
use lib.Seq.{drop-append_seam}
use lib.Ieee.Bits.{is_true}
use Rattle.number.specs.Decimal.{is_digit, digits, whole_part, fraction, joined, with_point, read_at, Digits⁺, IsWholePart, nought, counted, IsNumber, whole, pointed, LongestNumber, Longest}
use Rattle.number.proofs.Law.Reading.{digits_more, digits-none, read-cases}

-- ---- a number that a text begins with

-- digits are read to their end, and on
digits-over : (ds q : List ℕ) → Digits⁺ ds → digits (ds ++ q) ≡ ds ++ digits q
digits-over [] q h = absurd h
digits-over (b ∷ []) q h = digits_more b q (is_true _ h)
digits-over (b ∷ c ∷ ds) q h = digits_more b (c ∷ ds ++ q) (is_true _ h.0) ∙ ap (λ (l : List ℕ). b ∷ l) (digits-over (c ∷ ds) q h.1)

-- and so is a whole part, unless it is 0
whole-over : {w : List ℕ} → IsWholePart w → (q : List ℕ) → (t : List ℕ) × (whole_part (w ++ q) ≡ w ++ t) × (digits q ≡ [] → t ≡ [])
unfolding whole_part
whole-over nought q = ([], refl, λ e. refl)
whole-over (counted {b} {bs} n h) q = (digits q, rw (whole_part, ne_eqb b 48 n) (digits-over (b ∷ bs) q h), λ e. e)

digits-some : (ds : List ℕ) → Digits⁺ ds → 0 < length ds
digits-some [] h = absurd h
digits-some (b ∷ ds) h = omega arith

whole-some : {w : List ℕ} → IsWholePart w → 0 < length w
whole-some nought = lit≤ tt
whole-some (counted n h) = omega arith

with-point : (k : ℕ) → 0 < k → with_point k ≡ suc k
with-point zero h = omega arith
with-point (suc k) h = refl

-- how many bytes of a text `read_at` takes, where it begins with a digit
abbrev size : List ℕ → ℕ
size bs = length (whole_part bs) + with_point (length (fraction (drop (length (whole_part bs)) bs)))

number_fits : {p : List ℕ} {n k d : ℕ} → IsNumber p n k d → (q : List ℕ) → (0 < length (whole_part (p ++ q))) × (length p ≤ size (p ++ q))
unfolding fraction
number_fits (whole {w} h) q =
    let o = whole-over h q in
    let e : length (whole_part (w ++ q)) ≡ length w + length o.0 = ap length o.1 ∙ length-append w o.0 in
    (omega (arith, whole-some h), omega arith)
number_fits (pointed w f h d) q =
    rw (append_assoc w (46 ∷ f) q)
    (let o = whole-over h (46 ∷ (f ++ q)) in
    let e : whole_part (w ++ 46 ∷ (f ++ q)) ≡ w = o.1 ∙ ap (λ (t : List ℕ). w ++ t) (o.2 (digits-none 46 (f ++ q) refl)) ∙ append-nil w in
    let l : length (f ++ digits q) ≡ length f + length (digits q) = length-append f (digits q) in
    let m : with_point (length (f ++ digits q)) ≡ suc (length (f ++ digits q)) = with-point _ (omega (arith, digits-some f d)) in
    rw (e, drop-append_seam w (46 ∷ (f ++ q)), digits-over f q d) (whole-some h, omega (arith, length-append w (46 ∷ f))))

-- ---- what is taken of a text

cons⁺ : (b : ℕ) (ds : List ℕ) → T (is_digit b) → (0 < length ds → Digits⁺ ds) → Digits⁺ (b ∷ ds)
cons⁺ b [] h r = h
cons⁺ b (c ∷ ds) h r = (h, r (omega arith))

digits_are : (bs : List ℕ) → 0 < length (digits bs) → Digits⁺ (digits bs)
unfolding digits
digits_are [] h = omega arith
digits_are (b ∷ bs) h = go (is_digit b) refl (digits_are bs)
  where
    go : (t : Bool) → is_digit b ≡ t → (0 < length (digits bs) → Digits⁺ (digits bs)) → Digits⁺ (digits (b ∷ bs))
    go true e r = rw (digits_more b bs e) (cons⁺ b (digits bs) (subst T (sym e) tt) r)
    go false e r = absurd (omega (arith, ap length (digits-none b bs e)))

take-digits : (bs : List ℕ) → take (length (digits bs)) bs ≡ digits bs
unfolding digits
take-digits [] = refl
take-digits (b ∷ bs) = go (is_digit b) refl (take-digits bs)
  where
    go : (t : Bool) → is_digit b ≡ t → take (length (digits bs)) bs ≡ digits bs → take (length (digits (b ∷ bs))) (b ∷ bs) ≡ digits (b ∷ bs)
    go true e r = rw (digits_more b bs e) (ap (λ (l : List ℕ). b ∷ l) r)
    go false e r = rw (digits-none b bs e)

take_whole : (bs : List ℕ) → take (length (whole_part bs)) bs ≡ whole_part bs
unfolding whole_part
take_whole [] = refl
take_whole (b ∷ bs) = go (eqb b 48) refl
  where
    go : (t : Bool) → eqb b 48 ≡ t → take (length (whole_part (b ∷ bs))) (b ∷ bs) ≡ whole_part (b ∷ bs)
    go true e = rw (whole_part, e)
    go false e = rw (whole_part, e) (take-digits (b ∷ bs))

whole_is : (bs : List ℕ) → 0 < length (whole_part bs) → IsWholePart (whole_part bs)
unfolding whole_part
whole_is [] h = absurd (omega arith)
whole_is (b ∷ bs) h = go (eqb b 48) (is_digit b) refl refl
  where
    go : (t u : Bool) → eqb b 48 ≡ t → is_digit b ≡ u → IsWholePart (whole_part (b ∷ bs))
    go true u e k = rw (whole_part, e, eqb-true b 48 e) nought
    go false true e k = rw (whole_part, e, digits_more b bs k) (counted (eqb-false b 48 e) (rw (digits_more b bs k) at (digits_are (b ∷ bs) (rw (digits_more b bs k) (omega arith)))))
    go false false e k = absurd (omega (arith, ap length (digits-none b bs k), rw (whole_part, e) at h))

point-is : (bs : List ℕ) → 0 < length (fraction bs) → (take (suc (length (fraction bs))) bs ≡ 46 ∷ fraction bs) × Digits⁺ (fraction bs)
unfolding fraction
point-is [] h = absurd (omega arith)
point-is (b ∷ bs) h = go (eqb b 46) refl
  where
    go : (t : Bool) → eqb b 46 ≡ t → (take (suc (length (fraction (b ∷ bs)))) (b ∷ bs) ≡ 46 ∷ fraction (b ∷ bs)) × Digits⁺ (fraction (b ∷ bs))
    go true e = rw (fraction, e) (ap₂ (λ (c : ℕ) (l : List ℕ). c ∷ l) (eqb-true b 46 e) (take-digits bs), digits_are bs (rw (fraction, e) at h))
    go false e = absurd (omega (arith, rw (fraction, e) at h))

-- What is taken of a text is a whole part, or one with a point and digits after it: whatever holds of both holds of the text taken, its whole part and its digits after the point.
number-parts : (P : List ℕ → List ℕ → List ℕ → Type 0) (bs : List ℕ) → ((w : List ℕ) → IsWholePart w → P w w []) →
    ((w f : List ℕ) → IsWholePart w → Digits⁺ f → P (w ++ 46 ∷ f) w f) → 0 < length (whole_part bs) →
    P (take (size bs) bs) (whole_part bs) (fraction (drop (length (whole_part bs)) bs))
number-parts P bs p q h = go (fraction rest) refl
  where
    rest : List ℕ
    rest = drop (length (whole_part bs)) bs

    go : (f : List ℕ) → fraction rest ≡ f → P (take (size bs) bs) (whole_part bs) (fraction rest)
    go [] e = rw (e, add-zero, take_whole bs) (p (whole_part bs) (whole_is bs h))
    go (d ∷ ds) e =
        let l : length (fraction rest) ≡ suc (length ds) = ap length e in
        let i = point-is rest (omega arith) in
        rw (with-point (length (fraction rest)) (omega arith), take-add (length (whole_part bs)) _ bs, take_whole bs, i.0)
        (q (whole_part bs) (fraction rest) (whole_is bs h) i.1)

module _ (bs : List ℕ) (some : 0 < length (whole_part bs)) where
  abbrev after : List ℕ
  after = fraction (drop (length (whole_part bs)) bs)

  taken_is : IsNumber (take (size bs) bs) (joined 0 (whole_part bs ++ after)) (length after) (length (whole_part bs) + length after)
  taken_is =
      number-parts (λ s w f. IsNumber s (joined 0 (w ++ f)) (length f) (length w + length f)) bs
      (λ w h. rw (append-nil w, add-zero (length w)) (whole h)) (λ w f h d. pointed w f h d) some

  taken-size : length (take (size bs) bs) ≡ size bs
  taken-size =
      number-parts (λ s w f. length s ≡ length w + with_point (length f)) bs (λ w h. omega arith)
      (λ w f h d. omega (arith, length-append w (46 ∷ f), with-point (length f) (digits-some f d))) some

  taken-longest : LongestNumber bs (take (size bs) bs) (joined 0 (whole_part bs ++ after)) (length after) (length (whole_part bs) + length after)
  taken-longest =
      record {
        is_number = taken_is;
        rest = drop (size bs) bs;
        begins = take-append-drop (size bs) bs;
        none-longer = λ p q m j c e h. rw (taken-size, ← e) (number_fits h q).1;
      }

-- ---- the longest number

pub longest : (text : List ℕ) (at : ℕ) → Longest text at (read_at text at)
longest text at =
    let bs = drop at text in
    read-cases (Longest text at) text at
    (λ none p q n k d e h. omega (arith, none, rw e at (number_fits h q).0))
    (λ some few. (take (size bs) bs, _, taken-longest bs some, omega (arith, taken-size bs some), few))
    (λ some many. (take (size bs) bs, _, _, _, taken-longest bs some, omega (arith, taken-size bs some), many))

-- ---- a number begins with a digit

digits-first : (b : ℕ) (bs : List ℕ) → Digits⁺ (b ∷ bs) → is_digit b ≡ true
digits-first b [] h = is_true _ h
digits-first b (c ∷ bs) h = is_true _ h.0

whole-first : {w : List ℕ} → IsWholePart w → (q : List ℕ) (c : ℕ) (cs : List ℕ) → w ++ q ≡ c ∷ cs → is_digit c ≡ true
whole-first nought q c cs e = ap is_digit (sym (head-eq_of_cons-eq e))
whole-first (counted {b} {bs} n h) q c cs e = ap is_digit (sym (head-eq_of_cons-eq e)) ∙ digits-first b bs h

pub number-first : {p : List ℕ} {n k d : ℕ} → IsNumber p n k d → (q : List ℕ) (b : ℕ) (bs : List ℕ) → p ++ q ≡ b ∷ bs → is_digit b ≡ true
number-first (whole h) q b bs e = whole-first h q b bs e
number-first (pointed w f h d) q b bs e = whole-first h (46 ∷ f ++ q) b bs (sym (append_assoc w (46 ∷ f) q) ∙ e)

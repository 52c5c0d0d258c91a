-- Decimal text and its value: page 01, "Tokens and grammar" (a number) and "What the painter reads" (a field).
use Rattle.std.specs.Prelude.{◌≡◌, ℕ, zero, suc, ◌+◌, ◌-◌, ◌*◌, ◌<◌, ◌≤◌, Bool, true, false, cond, ◌&&◌, T, List, [], ◌∷◌, ◌++◌, length, drop, pos, ◌==◌, ◌≢◌, nat_le, Float}
use Rattle.std.specs.Float.{fin, binary64}
use Rattle.std.specs.Float.Ieee.{mul, div, neg, of_int}
use Rattle.number.specs.declared.decimal.Decimal.{Decimal}
use Rattle.number.specs.declared.decimal.Decimal.TheVariants.{Nothing, Number, TooLong}
use Rattle.number.specs.Arithmetic.{unit}

-- `0` is 48, `9` is 57 and `.` is 46
abbrev pub is_digit : ℕ → Bool
is_digit b = nat_le 48 b && nat_le b 57

-- the digits that a text begins with
unfoldable pub digits : List ℕ → List ℕ
digits [] = []
digits (b ∷ bs) = elim (is_digit b) [ true ↦ b ∷ digits bs | false ↦ [] ]

-- "a whole part (`0`, or digits not starting with 0)"
unfoldable pub whole_part : List ℕ → List ℕ
unfolding digits
whole_part [] = []
whole_part (b ∷ bs) = elim (b == 48) [ true ↦ b ∷ [] | false ↦ digits (b ∷ bs) ]

-- "and maybe a point and at least one digit": the digits after a point, none where that is missing
unfoldable pub fraction : List ℕ → List ℕ
unfolding digits
fraction [] = []
fraction (b ∷ bs) = elim (b == 46) [ true ↦ digits bs | false ↦ [] ]

-- the whole number of digits in base ten, after those of n
unfoldable pub joined : ℕ → List ℕ → ℕ
joined n [] = n
joined n (d ∷ ds) = joined (10 * n + (d - 48)) ds

-- how many bytes a point and the digits after it take
abbrev pub with_point : ℕ → ℕ
with_point zero = zero
with_point (suc k) = suc (suc k)

-- "15 digits in all at most"
abbrev pub most_digits : ℕ
most_digits = 15

-- The longest number at a place; "a longer one being a token refused". A place past the end has nothing.
unfoldable pub read_at : List ℕ → ℕ → Decimal
unfolding whole_part fraction joined
read_at text at =
    let rest = drop at text in
    let w = whole_part rest in
    let f = fraction (drop (length w) rest) in
    let end = at + length w + with_point (length f) in
    cond (length w == 0) Nothing (cond (nat_le (length w + length f) most_digits) (Number end (joined 0 (w ++ f)) (length f)) (TooLong end))

-- ---- the grammar of a number, and what is the longest (`longest` in proofs/Longest.antt)

-- digits, at least one
abbrev pub Digits⁺ : List ℕ → Type 0
Digits⁺ [] = ⊥
Digits⁺ (b ∷ []) = T (is_digit b)
Digits⁺ (b ∷ c ∷ bs) = T (is_digit b) × Digits⁺ (c ∷ bs)

-- "(`0`, or digits not starting with 0)"
pub data IsWholePart : List ℕ → Type 0 where
  nought : IsWholePart (48 ∷ [])
  counted : {b : ℕ} {bs : List ℕ} → (b ≢ 48) → Digits⁺ (b ∷ bs) → IsWholePart (b ∷ bs)

-- "A number has a whole part .. and maybe a point and at least one digit": the text, the whole number of its digits, how many of them
-- stand after the point, and how many there are
pub data IsNumber : List ℕ → ℕ → ℕ → ℕ → Type 0 where
  whole : {w : List ℕ} → IsWholePart w → IsNumber w (joined 0 w) 0 (length w)
  pointed : (w f : List ℕ) → IsWholePart w → Digits⁺ f → IsNumber (w ++ 46 ∷ f) (joined 0 (w ++ f)) (length f) (length w + length f)

-- a text begins with the number s, and with none that is longer
pub record LongestNumber (text s : List ℕ) (n k d : ℕ) : Type 0 where
  pub is_number : IsNumber s n k d
  pub rest : List ℕ
  pub begins : s ++ rest ≡ text
  pub none-longer : (p q : List ℕ) (m j c : ℕ) → p ++ q ≡ text → IsNumber p m j c → length p ≤ length s

-- what is found at a place: no number stands there, or the longest that does, of at most 15 digits or of more
abbrev pub Longest : List ℕ → ℕ → Decimal → Type 0
Longest text at Nothing = (p q : List ℕ) (n k d : ℕ) → p ++ q ≡ drop at text → IsNumber p n k d → ⊥
Longest text at (Number end n k) = (s : List ℕ) × (d : ℕ) × LongestNumber (drop at text) s n k d × (end ≡ at + length s) × (d ≤ most_digits)
Longest text at (TooLong end) = (s : List ℕ) × (n k d : ℕ) × LongestNumber (drop at text) s n k d × (end ≡ at + length s) × (most_digits < d)

-- 5 * 2
abbrev pub ten : Float
ten = fin false 5 (pos 1)

-- ten to the k, worked out by multiplying by ten: exact up to 22 (`ten-exact` in proofs/Power.antt)
unfoldable pub ten_to : ℕ → Float
ten_to zero = unit
ten_to (suc k) = mul binary64 (ten_to k) ten

-- "Its value is the whole number of its digits made a binary64, then one division, rounded once, by ten to the number of digits after the
-- point."
-- A field may have a `-` before it, and "`-0` is negative zero".
unfoldable pub value_of : Bool → ℕ → ℕ → Float
unfolding ten_to
value_of negative n k = let q = div binary64 (of_int binary64 (pos n)) (ten_to k) in cond negative (neg q) q

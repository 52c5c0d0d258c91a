-- Lines of a file of cases: their form, and the numbers in them.
use Rattle.std.specs.Prelude.{ℕ, ◌+◌, ◌-◌, ◌*◌, ◌%◌, ◌^◌, Bool, true, false, cond, ◌&&◌, ◌||◌, List, [], ◌∷◌, ◌==◌, nat_le, nat_lt}
use Rattle.std.proofs.Math.Seq.{slice}

-- the value of a hex digit, `0` to `9` (48 to 57) or `a` to `f` (97 to 102), and 16 for any other byte
abbrev pub digit_of : ℕ → ℕ
digit_of b = cond (nat_le 48 b && nat_le b 57) (b - 48) (cond (nat_le 97 b && nat_le b 102) (b - 97 + 10) 16)

-- in a form `h` (104) stands for a hex digit, `?` (63) for any byte, and any other byte for itself
abbrev pub fits_byte : ℕ → ℕ → Bool
fits_byte b form = cond (form == 104) (nat_lt (digit_of b) 16) (form == 63 || form == b)

-- whether a line has a form, byte for byte
abbrev pub fits_form : List ℕ → List ℕ → Bool
fits_form [] [] = true
fits_form [] (f ∷ fs) = false
fits_form (b ∷ bs) [] = false
fits_form (b ∷ bs) (f ∷ fs) = fits_byte b f && fits_form bs fs

-- a number with one digit more; a byte that is none counts as 0
abbrev pub with_digit : ℕ → ℕ → ℕ
with_digit n b = n * 16 + digit_of b % 16

-- a number with the digits that some bytes are
unfoldable pub with_digits : ℕ → List ℕ → ℕ
with_digits n [] = n
with_digits n (b ∷ bs) = with_digits (with_digit n b) bs

-- the lowest 64 bits of the number whose digits stand from one place up to another, as far as the line goes
abbrev pub number_in : List ℕ → ℕ → ℕ → ℕ
number_in line from to = with_digits 0 (slice from to line) % 2 ^ 64

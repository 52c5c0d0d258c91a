-- What the private functions of the crate work out. No promise of a public function names anything here.
use Rattle.std.specs.Prelude.{ℕ, ◌+◌, ◌-◌, ◌*◌, cond, ◌&&◌, List, [], ◌∷◌, length, nat_le, nat_lt}
use Rattle.number.specs.declared.decimal.Digits.{Digits}

-- one digit more, while the number is below 10 ^ 14
unfoldable pub pushed : ℕ → ℕ → ℕ
pushed n b = cond (nat_lt n 100000000000000 && nat_le 48 b) (10 * n + (b - 48)) n

-- a number after some digits, one after the other
unfoldable pub pushed_all : ℕ → List ℕ → ℕ
unfolding pushed
pushed_all n [] = n
pushed_all n (b ∷ bs) = pushed_all (pushed n b) bs

-- how many digits there are, and the number after them
unfoldable pub gathered : ℕ → List ℕ → Digits
unfolding pushed_all
gathered n ds = record { count = length ds; value = pushed_all n ds }

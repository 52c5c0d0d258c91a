-- A ladder of tests: what stands at its end, by what each test says.
use mathlib.Core.Path.{◌≡◌, refl, sym}
use mathlib.Core.Bool.{Bool, true, false, cond, ◌&&◌, false≢true}

pub taken : {A : Type 0} {t : Bool} {a : A} (b : A) {x : A} → t ≡ true → a ≡ x → cond t a b ≡ x
taken {t = true} b e h = h
taken {t = false} b e h = absurd (false≢true e)

pub passed : {A : Type 0} {t : Bool} (a : A) {b x : A} → t ≡ false → b ≡ x → cond t a b ≡ x
passed {t = false} a e h = h
passed {t = true} a e h = absurd (false≢true (sym e))

pub both : (a b : Bool) → a && b ≡ true → (a ≡ true) × (b ≡ true)
both true b h = (refl, h)
both false b h = (h, absurd (false≢true h))

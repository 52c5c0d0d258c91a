-- What is known of a result, by whether its `ok` gives a value.
use Rattle.std.specs.Prelude.{Option, Some, None, Result, Ok, Err, OnOk, OnErr, IsOk, ◌↔◌}
use Rattle.std.specs.Result.{result_ok}
use mathlib.Core.Path.{◌≡◌, refl}

module _ {A E : Type 0} {P : Type 0} (x : Option A) where
  pub was-ok : (r : Result A E) {a : A} → x ≡ result_ok r → x ≡ Some a → OnOk r P → P
  was-ok (Ok b) e h p = p
  was-ok (Err b) {a} e h p = absurd (cc)

  pub was-in : (r : Result A E) {a : A} → x ≡ result_ok r → x ≡ Some a → (IsOk r ↔ P) → P
  was-in (Ok b) e h p = p.0 refl
  was-in (Err b) {a} e h p = absurd (cc)

  pub was-err : (r : Result A E) → x ≡ result_ok r → x ≡ None → OnErr r P → P
  was-err (Ok b) e h p = absurd (cc)
  was-err (Err b) e h p = p

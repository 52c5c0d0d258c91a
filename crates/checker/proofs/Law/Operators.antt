-- A number that is none of some operators' punctuators.
use Rattle.std.specs.Prelude.{Some, None}
use mathlib.Core.Path.{◌≡◌, refl, ap, ◌∙◌}
use mathlib.Core.Bool.{Bool, true, false}
use mathlib.Core.List.{List, [], ◌∷◌}
use Prim.Native.Nat.{ℕ}
use borrow.Author.Tests.{ne_eqb}
use Rattle.lexer.specs.Bytes.{place_in}
use Rattle.lexer.specs.Punctuator.{punctuators}
use Rattle.value.specs.Name.{Function, function}
use Rattle.checker.specs.Operator.{numbered_in}

abbrev pub Differs : List Function → ℕ → Type 0
Differs [] n = Unit {0}
Differs (function s o ∷ fs) n = (n ≡ place_in punctuators s → ⊥) × Differs fs n

pub none : (fs : List Function) (n : ℕ) → Differs fs n → numbered_in fs n ≡ None
none [] n d = refl
none (function s o ∷ fs) n d =
    ap (λ (b : Bool). elim b [ true ↦ Some o | false ↦ numbered_in fs n ]) (ne_eqb n (place_in punctuators s) d.0) ∙ none fs n d.1

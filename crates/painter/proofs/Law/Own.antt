-- The strings of properties' values lie in the feature's own line.
use mathlib.Core.Path.{refl}
use mathlib.Core.List.{List, [], ◌∷◌}
use Prim.Native.Nat.{ℕ}
use Rattle.lexer.specs.Bytes.{same}
use Rattle.lexer.proofs.Law.Runs.{by-test}
use Rattle.value.specs.declared.value.Value.{Value}
use Rattle.feature.proofs.Own.{Own, AllOwn}
use Rattle.style.specs.Style.{Declared}
use Rattle.painter.specs.Meaning.{property_value}

pub own_value : (ds : List Declared) (vs : List Value) → AllOwn vs → (x : List ℕ) → Own (property_value ds vs x)
own_value [] vs os x = refl
own_value (d ∷ ds) [] os x = refl
own_value (d ∷ ds) (v ∷ vs) os x = by-test Own (same x d.name) (λ _. os.0) (λ _. own_value ds vs os.1 x)

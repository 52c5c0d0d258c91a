-- Lines of the sample on page 01, "Checked examples".
use Rattle.std.specs.Prelude.{None}
use mathlib.Core.Path.{◌≡◌, refl}
use mathlib.Core.Bool.{true}
use mathlib.Core.List.{[], ◌∷◌, ◌++◌}
use Rattle.lexer.specs.Bytes.{ascii}
use Rattle.output.specs.Line.{digits_of, painted_line, refused_feature}

-- `3→refused→9→5`; a tab is 9 and LF is 10
third : refused_feature 3 9 5 ≡ ascii "3" ++ (9 ∷ ascii "refused") ++ (9 ∷ ascii "9") ++ (9 ∷ ascii "5") ++ 10 ∷ []
unfolding refused_feature digits_of
third = refl

-- no colour; a number keeps the zeros inside it
none : painted_line 10020 true None ≡ ascii "10020" ++ (9 ∷ ascii "true") ++ (9 ∷ ascii "undefined") ++ 10 ∷ []
unfolding painted_line digits_of
none = refl

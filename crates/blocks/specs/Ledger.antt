-- The ledger of an input: page 01, "Checked examples" ("The program `ledger` reads standard input.") and "Sizes" ("999,999 strips").
use Rattle.std.specs.Prelude.{cond, List, [], ◌∷◌, ◌++◌, ℕ, suc, leb, take, drop}
use Rattle.text.specs.Parts.{lines}
use Rattle.text.specs.Head.{head_end}
use Rattle.style.specs.Answer.{Answer, refusal, accepted}
use Rattle.style.specs.Style.{Style}
use Rattle.style.specs.Head.{room_size, style_of}
use Rattle.feature.specs.Feature.{most_features}
use Rattle.output.specs.Line.{heading, refused_head}
use Rattle.painter.specs.Paint.{given_answer, feature_line}
use Rattle.lexer.specs.Refusal.{reason_number}

-- ---- the lines of the features

-- the first strip that is one too many is refused, and nothing behind it is printed
abbrev pub last_number : ℕ
last_number = suc most_features

-- what is printed for lines, each with its number, from a number on
abbrev pub numbered : (ℕ → List ℕ → List ℕ) → ℕ → List (List ℕ) → List ℕ
numbered say n [] = []
numbered say n (l ∷ ls) = cond (leb n last_number) (say n l ++ numbered say (suc n) ls) []

-- `1→true→#00FF0080`, or `3→refused→9→5`, as the style gives it
abbrev pub line_by : Style → ℕ → List ℕ → List ℕ
line_by s n l = feature_line n (given_answer s n l)

-- ---- the ledger

-- "A refused head prints the heading line, then `refused`, number, line, place, parted by tabs."
abbrev pub behind_heading : Answer Style → List ℕ → List ℕ
behind_heading (refusal line r) features = refused_head (reason_number r.reason) line r.place
behind_heading (accepted s) features = numbered (line_by s) 1 (lines features)

-- "Everything before the first line whose first field is `feat` is the head; every line from there on is a strip."
unfoldable pub ledger_of : List ℕ → List ℕ
unfolding style_of
ledger_of input =
    let end = head_end input in
    heading ++ behind_heading (style_of room_size (take end input)) (drop end input)

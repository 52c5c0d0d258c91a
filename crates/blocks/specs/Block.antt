-- What is printed of a block of features, and what is left of it.
use Rattle.std.specs.Prelude.{Bool, cond, ◌&&◌, ◌||◌, not, List, [], ◌∷◌, ◌++◌, ℕ, suc, ◌+◌, ◌-◌, ◌≤◌, ◌<◌, min, max, eqb, ltb, leb, length, take, drop, replicate}
use Rattle.lexer.specs.Bytes.{run}
use Rattle.value.specs.declared.value.Value.{Value}
use Rattle.value.specs.declared.value.Value.TheVariants.{Undefined}
use Rattle.plan.specs.Layout.{undeclared}
use Rattle.text.specs.Parts.{lines, bytes_of}
use Rattle.feature.specs.Feature.{feature_size}
use Rattle.output.specs.Line.{longest_line}
use Rattle.painter.specs.Paint.{feature_line}
use Rattle.painter.specs.Applied.{source, given_under, given_values}
use Rattle.blocks.specs.Ledger.{last_number}
use Rattle.blocks.specs.declared.features.Progress.{Progress}

-- ---- the lines of a block

-- those that are whole, of lines of so many bytes: an LF ends each, or the input's end does
abbrev pub whole_lines : Bool → ℕ → List (List ℕ) → List (List ℕ)
whole_lines ends size [] = []
whole_lines ends size (l ∷ ls) = cond (ltb (length l) size || ends) (l ∷ whole_lines ends (size - suc (length l)) ls) []

-- what is printed for lines from a number on; the values of names are lent to each in turn
abbrev pub texts_by : (ℕ → List ℕ → List Value → List ℕ) → (ℕ → List ℕ → List Value → List Value) → ℕ → List Value → List (List ℕ) →
    List (List ℕ)
texts_by say after n values [] = []
texts_by say after n values (l ∷ ls) = say n l values ∷ texts_by say after (suc n) (after n l values) ls

-- as many as fit into so much room; one that might not is not begun
abbrev pub fitting : ℕ → List (List ℕ) → List (List ℕ)
fitting room [] = []
fitting room (t ∷ ts) = cond (leb longest_line room) (t ∷ fitting (room - length t) ts) []

abbrev pub no_values : List Value
no_values = replicate undeclared Undefined

-- The lines that are printed of a block: head, plan, room, block, the first line's number, whether the input ends with the block, and how
-- much the output holds.
unfoldable pub printed_of : List ℕ → List ℕ → List ℕ → List ℕ → ℕ → Bool → ℕ → List (List ℕ)
unfolding given_under given_values
printed_of head plan room block first ends size =
    fitting size
    (texts_by (λ n l values. feature_line n (given_under (source head l room plan) n values))
    (λ n l values. given_values (source head l room plan) n values) first no_values
    (take (suc last_number - first) (whole_lines ends (length block) (lines block))))

-- ---- the output and the state behind them

abbrev pub joined : List (List ℕ) → List ℕ
joined [] = []
joined (t ∷ ts) = t ++ joined ts

-- lines at the front of a page
unfoldable pub on_page : List ℕ → List (List ℕ) → List ℕ
on_page page ts = joined ts ++ drop (length (joined ts)) page

-- Of bytes without an LF so many as show that the line is too long are enough; LF is 10.
abbrev pub surplus : List ℕ → ℕ
surplus bytes = cond (leb (length bytes) (run (λ x. not (eqb x 10)) bytes)) (length bytes - suc feature_size) 0

-- how many bytes of a block so many lines have
abbrev pub used_by : List ℕ → ℕ → ℕ
used_by block n = min (bytes_of (take n (lines block))) (length block)

unfoldable pub progress_of : List ℕ → ℕ → List (List ℕ) → Progress
progress_of block first ts =
    let used = used_by block (length ts) in
    record { at = used + surplus (drop used block); number = first + length ts; printed = length (joined ts) }

-- What a caller may count on: a block that is lent again with room for a line is printed up to less than a line that is too long, and each
-- call that prints counts on.
pub record Advances (block out : List ℕ) (first : ℕ) (p : Progress) : Type 0 where
  pub inside : p.at ≤ length block
  pub fits : p.printed ≤ length out
  pub counts : 0 < p.printed → first < p.number
  pub most : p.number ≤ max first (suc last_number)
  pub left : p.number ≤ last_number → p.printed + longest_line ≤ length out → length block ≤ p.at + suc feature_size

-- ---- the functions of one line

abbrev pub is_whole : ℕ → ℕ → ℕ → Bool → Bool
is_whole at end size ends = ltb at size && (ltb end size || ends)

abbrev pub is_next : Bool → ℕ → ℕ → Bool
is_next whole number room = whole && (leb number last_number && leb longest_line room)

-- so many bytes are left of one that no LF ends
unfoldable pub left_from : ℕ → ℕ → ℕ → ℕ
left_from at end size = cond (ltb end size) at (size - min (size - at) (suc feature_size))

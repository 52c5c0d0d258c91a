use mathlib.Core.Path.{◌≡◌}
use mathlib.Core.List.{map}
use Prim.Native.Nat.{◌+◌, ◌-◌, ◌≤◌}
use lib.ListN.{length, drop}
use Rattle.lexer.specs.Bytes.{place_in}
use Rattle.words.specs.Table.{folded, words_in}
use Rattle.words.proofs.table.number_in.Given as goal

-- `number_in` goes from word to word. The invariant: the words passed, and the word's place among those from here on, make its place in the table.
abbrev pub invariant-loop-at : goal.invariant-loop-at
invariant-loop-at l =
    (l.number ≤ l.at) × (l.number + place_in (words_in (drop l.at l.table)) (map (folded l.folding) l.word) ≡ place_in (words_in l.table) (map (folded l.folding) l.word))

abbrev pub decreases-loop-at : goal.decreases-loop-at
decreases-loop-at l =
    length l.table - l.at

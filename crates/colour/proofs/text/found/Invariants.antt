use Rattle.std.proofs.Common.{◌≡◌, drop}
use Rattle.colour.specs.Inner.{found}
use Rattle.colour.proofs.text.found.Given as goal

-- The words that are left are those among which the text is.
abbrev pub invariant-loop-word : goal.invariant-loop-word
invariant-loop-word l = found (drop l.word-index l.table) l.text ≡ found l.table l.text

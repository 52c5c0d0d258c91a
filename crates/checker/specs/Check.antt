-- What the checker answers of a tree that lies in slots, from the sets of the names' numbers: page 01, number 7 of "Refusal numbers", and
-- "Sizes" for the height.
use Rattle.std.specs.Prelude.{List, ℕ, Result, Ok, Err}
use Rattle.lexer.specs.Refusal.{Judged, refused, fine}
use Rattle.kind.specs.declared.set.Kinds.{Kinds}
use Rattle.tree.specs.Node.{tree_at}
use Rattle.syntax.specs.Sizes.{most_height}
use Rattle.checker.specs.Property.{set_at}
use Rattle.checker.specs.Kinds.{kinds_of, result_of}
use Rattle.checker.specs.declared.check.Wanted.{Wanted}
use Rattle.lexer.specs.declared.refusal.Refusal.{Refusal}

-- the tree at a place, as deep as an allowance goes
abbrev pub kinds_at : List ℕ → List ℕ → ℕ → ℕ → Result Kinds Refusal
kinds_at slots plan at allowance = kinds_of (λ p n. set_at plan n) (tree_at allowance slots at)

-- what the answer of `check` says
abbrev pub answer_of : Result Kinds Refusal → Judged Kinds
answer_of (Err r) = refused r
answer_of (Ok s) = fine s

-- the whole tree, and its result
abbrev pub checked_at : List ℕ → List ℕ → ℕ → Wanted → ℕ → Judged Kinds
checked_at slots plan root want end = answer_of (result_of want end (kinds_at slots plan root most_height))

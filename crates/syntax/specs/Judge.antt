-- The judgement on one expression: page 01, numbers 1 to 6 of "Refusal numbers", each over the whole expression before the next.
use Rattle.std.specs.Prelude.{Bool, true, false, cond, List, ◌++◌, ℕ, ltb, length, take, drop, replicate, Option, Some, None, Ok, Err, Result}
use Rattle.lexer.specs.Refusal.{refusal_at, Judged, refused, fine, on_fine}
use Rattle.lexer.specs.Scan.{scan_of}
use Rattle.tree.specs.Tree.{Tree, place}
use Rattle.tree.specs.Slots.{store}
use Rattle.syntax.specs.Sizes.{most_bytes, most_height}
use Rattle.syntax.specs.Parser.{Parse, part, spent, parse_of}
use Rattle.syntax.specs.Parser as parser
use Rattle.syntax.specs.Height.{height_of}
use Rattle.syntax.specs.Names.{unknown_in, leftmost_of}
use Rattle.syntax.specs.declared.symbol.Symbol.{Symbol}
use Rattle.lexer.specs.declared.refusal.Refusal.{Refusal}
use Rattle.lexer.specs.declared.refusal.Reason.TheVariants as reason

-- "unknown function, member or colour word", "the leftmost"
abbrev pub by_names : Option ℕ → Tree → Judged Tree
by_names (Some p) e = refused (refusal_at reason.Name p)
by_names None e = fine e

-- "height over 64", at 0
abbrev pub by_height : Bool → List ℕ → Tree → Judged Tree
by_height true text e = refused (refusal_at reason.Height 0)
by_height false text e = by_names (leftmost_of (unknown_in text e)) e

-- grammar; the steps never run out (`never-spent` in proofs/Grammar/Text.antt), so the last line is there for the definition's sake
abbrev pub by_grammar : Parse Symbol Tree → List ℕ → Judged Tree
by_grammar (part e x) text = by_height (ltb most_height (height_of e)) text e
by_grammar (parser.refused x) text = refused (refusal_at reason.Grammar x.at)
by_grammar spent text = refused (refusal_at reason.Grammar 0)

-- 2 and 3
abbrev pub by_tokens : Judged (Unit {0}) → List ℕ → Judged Tree
by_tokens v text = on_fine v (λ _. by_grammar (parse_of text) text)

-- "expression 1,024 bytes"
abbrev pub by_size : Bool → List ℕ → Judged Tree
by_size true text = refused (refusal_at reason.Size most_bytes)
by_size false text = by_tokens (scan_of text) text

-- an expression's tree, or its refusal
unfoldable pub judged_of : List ℕ → Judged Tree
unfolding scan_of parse_of height_of unknown_in
judged_of text = by_size (ltb most_bytes (length text)) text

-- ---- what the call answers, and what it leaves in the slots

-- of a tree, the place of its root
abbrev pub root_of : Judged Tree → Judged ℕ
root_of j = on_fine j (λ e. fine (place e))

-- The slots are work room: where there are fewer than bytes, 10 at 0, before anything else.
abbrev pub judgement_of : ℕ → List ℕ → Judged ℕ
judgement_of slots text = cond (ltb slots (length text)) (refused (refusal_at reason.Room 0)) (root_of (judged_of text))

-- what the answer of `judge` says
abbrev pub answer_of : Result ℕ Refusal → Judged ℕ
answer_of (Ok root) = fine root
answer_of (Err r) = refused r

-- the slots beside an expression, which hold its tree for whoever asked; after a refusal there is nothing to hold, and they are zero
abbrev pub kept : Judged Tree → List ℕ → List ℕ
kept (fine e) w = store w e
kept (refused r) w = replicate (length w) 0

-- Those slots, and the others as they were; under 10 all are as they were.
abbrev pub slots_after : List ℕ → List ℕ → List ℕ
slots_after w text = cond (ltb (length w) (length text)) w (kept (judged_of text) (take (length text) w) ++ drop (length text) w)

-- One expression of a style: page 01, "Refusal numbers" ("its expressions left to right, each by 1 to 7 in that order") and "Kinds and
-- meaning" ("`show` and conditions must end in Boolean, colours in vec4, defines in any kind.").
use Rattle.std.specs.Prelude.{List, ℕ, length, Result}
use Rattle.lexer.specs.Refusal.{Judged, fine, on_fine}
use Rattle.kind.specs.declared.set.Kinds.{Kinds}
use Rattle.tree.specs.Tree.{Tree}
use Rattle.syntax.specs.Judge.{judged_of}
use Rattle.checker.specs.Name.{name_at}
use Rattle.checker.specs.Kinds.{kinds_of, result_of}
use Rattle.checker.specs.Check.{answer_of}
use Rattle.checker.specs.declared.check.Wanted.{Wanted}
use Rattle.style.specs.Style.{Expression}
use Rattle.lexer.specs.declared.refusal.Refusal.{Refusal}

-- the checker's verdict on the tree of a text, by the kinds that each name stands for
abbrev pub verdict_on : (List ℕ → Kinds) → Wanted → List ℕ → Tree → Result Kinds Refusal
verdict_on look want text e = result_of want (length text) (kinds_of (λ p n. look (name_at text p)) e)

-- 7
abbrev pub by_kinds : Judged Kinds → List ℕ → Tree → Judged Expression
by_kinds j text e = on_fine j (λ k. fine (record { text = text; tree = e; kinds = k }))

-- 1 to 6, and then 7
unfoldable pub expression_of : (List ℕ → Kinds) → Wanted → List ℕ → Judged Expression
unfolding judged_of name_at kinds_of
expression_of look want text = on_fine (judged_of text) (λ e. by_kinds (answer_of (verdict_on look want text e)) text e)

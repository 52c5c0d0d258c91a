-- What a printer prints: the text of a tree, and of arguments.
use Rattle.std.specs.Prelude.{List, ℕ}
use Rattle.tree.specs.Node.{tree_at, arguments_at}
use Rattle.printed.specs.Shown.{shown, shown_all}
use Rattle.printed.specs.declared.shown.Printer.{Printer}

abbrev pub tree_text : Printer → ℕ → ℕ → List ℕ
tree_text p allowance at = shown p.numbered p.text.now (tree_at allowance p.slots.now at)

abbrev pub arguments_text : Printer → ℕ → ℕ → ℕ → List ℕ
arguments_text p allowance commas at = shown_all p.numbered p.text.now (arguments_at (tree_at allowance p.slots.now) commas p.slots.now at)

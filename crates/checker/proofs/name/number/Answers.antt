use mathlib.Core.Path.{◌≡◌, ◌∙◌}
use Rattle.std.specs.Option.{unwrap_or}
use Rattle.std.proofs.Common.{rules}
use Rattle.lexer.specs.Bytes.{same}
use Rattle.checker.specs.Name.{row_at, property_row, row_in}
use Rattle.checker.proofs.Law.Names.{define-or}
use Rattle.checker.proofs.name.number.Goals as goal

pub returns-in-Define : goal.returns-in-Define
unfolding row_in
returns-in-Define c = rw c.in-Define.is c.property_row.ensures

pub returns-in-Style : goal.returns-in-Style
returns-in-Style c =
    let s = c.args in
    let e : c.unwrap_or_else.result ≡ unwrap_or c.first_row.result (property_row (λ i. same s.name.now (row_at s.head.now s.names.now i))) = search rules in
    rw c.in-Style.is (e ∙ define-or _ _ c.first_row.ensures)

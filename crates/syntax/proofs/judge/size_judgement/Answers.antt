use mathlib.Core.Path.{sym, ◌∙◌, ap}
use Rattle.lexer.specs.Scan.{answer_of}
use Rattle.syntax.proofs.Law.Parts.{judged-exit}
use Rattle.syntax.proofs.Law.Whole.{size-over, tokens-bad, tokens-fine}
use Rattle.syntax.proofs.judge.size_judgement.Goals as goal

pub returns-then-text-gt-MOST_BYTES : goal.returns-then-text-gt-MOST_BYTES
returns-then-text-gt-MOST_BYTES c =
    size-over _ c.if-text-gt-MOST_BYTES.true

pub returns-in_err-scan : goal.returns-in_err-scan
returns-in_err-scan c =
    judged-exit c.from_residual.ensures.1 (tokens-bad _ c.if-text-gt-MOST_BYTES.false (sym c.scan.ensures ∙ ap answer_of c.in_err-scan.was))

pub returns : goal.returns
returns c =
    tokens-fine _ c.if-text-gt-MOST_BYTES.false (sym c.scan.ensures ∙ ap answer_of c.in_ok-scan.was) c.grammar_judgement.ensures

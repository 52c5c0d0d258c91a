use Rattle.std.proofs.Common.{rules}
use Rattle.std.specs.Prelude.{is_ok}
use Rattle.std.proofs.lemmas.Result.{err_from_is_err_and, MatchResult-at_err}
use mathlib.Core.Path.{◌≡◌, sym, ◌∙◌, ap}
use Rattle.painter.specs.Applied.{source, all_defined}
use Rattle.painter.proofs.Law.Calls.{was-refused, was-read, given-refused, given-read}
use Rattle.painter.proofs.given.given.Goals as goal

pub returns-in_err-map_err : goal.returns-in_err-map_err
returns-in_err-map_err c =
    let a = c.args in
    let (e, is) = was-refused _ (sym c.map_err.ensures.variant ∙ ap is_ok c.in_err-map_err.was) in
    let made = MatchResult-at_err _ _ e is c.in_err-map_err.ensures.cases in
    let q : c.in_err-map_err.field-0.0 ≡ record { line = a.number; refusal = e } = search rules in
    let g = given-refused (source a.head.now a.feature.now a.room.now a.plan.now) a.number a.values.now _ c.read.ensures.answer e is in
    let p = err_from_is_err_and c.from_residual.result c.from_residual.ensures.1 in
    rw (p.1, p.2, q) (record { answer = g.0; values = c.read.ensures.values ∙ g.1 })

pub returns : goal.returns
returns c =
    let a = c.args in
    let x = source a.head.now a.feature.now a.room.now a.plan.now in
    let e = was-read _ (sym c.map_err.ensures.variant ∙ ap is_ok c.in_ok-map_err.was) in
    let held = given-read x a.number a.values.now _ c.read.ensures.answer e _ (c.draw.ensures.defined ∙ ap (all_defined x) c.read.ensures.values) _ c.draw.ensures.given in
    record { answer = held.0; values = held.1 }

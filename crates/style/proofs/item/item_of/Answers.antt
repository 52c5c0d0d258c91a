use mathlib.Core.Path.{sym}
use native.Mathlib.Omega.{arith}
use lib.Seq.{length-take-le}
use Rattle.std.proofs.lemmas.Result.{err_from_is_err_and}
use Rattle.text.proofs.Law.Parts.{end-within}
use Rattle.text.specs.declared.word.Line.TheVariants as word
use Rattle.style.proofs.Law.Items.{item-none, item_out, item-as, item-feature, show-out, colour-out, item-show, item-colour}
use Rattle.style.proofs.item.item_of.Goals as goal

pub slice_bounds-line_of-end : goal.slice_bounds-line_of-end
slice_bounds-line_of-end c =
    sym (length-take-le _ c.args.line.now (rw c.end-end.ensures (end-within 9 c.args.line.now 0 (omega arith))))

pub returns-in_default : goal.returns-in_default
returns-in_default c =
    item-none c.args.before.now c.args.line.now _ c.end-end.ensures _ c.line_of.ensures c.in_default.is _ c.eight.ensures

pub returns-then-not-admits : goal.returns-then-not-admits
returns-then-not-admits c =
    item_out c.args.before.now c.args.line.now _ c.end-end.ensures _ c.line_of.ensures _ c.in-Some.is _ c.admits.ensures c.if-not-admits.true _ c.eight-then-not-admits.ensures

pub returns-in_err-single-in-Show : goal.returns-in_err-single-in-Show
returns-in_err-single-in-Show c =
    let p = err_from_is_err_and c.from_residual.result c.from_residual.ensures.1 in
    rw (p.1, p.2) (show-out c.args.before.now c.args.line.now _ c.end-end.ensures _ c.line_of.ensures _ c.in-Some.is _ c.admits.ensures c.if-not-admits.false c.in-Show.is _ c.in_err-single-in-Show.ensures)

pub returns-in_err-single-in-Color : goal.returns-in_err-single-in-Color
returns-in_err-single-in-Color c =
    let p = err_from_is_err_and c.from_residual-in_err-single-in-Color.result c.from_residual-in_err-single-in-Color.ensures.1 in
    rw (p.1, p.2) (colour-out c.args.before.now c.args.line.now _ c.end-end.ensures _ c.line_of.ensures _ c.in-Some.is _ c.admits.ensures c.if-not-admits.false c.in-Color.is _ c.in_err-single-in-Color.ensures)

pub returns-in_ok-single-in-Show : goal.returns-in_ok-single-in-Show
returns-in_ok-single-in-Show c =
    item-show c.args.before.now c.args.line.now _ c.end-end.ensures _ c.line_of.ensures _ c.in-Some.is _ c.admits.ensures c.if-not-admits.false c.in-Show.is _ c.in_ok-single-in-Show.ensures

pub returns-in_ok-single-in-Color : goal.returns-in_ok-single-in-Color
returns-in_ok-single-in-Color c =
    item-colour c.args.before.now c.args.line.now _ c.end-end.ensures _ c.line_of.ensures _ c.in-Some.is _ c.admits.ensures c.if-not-admits.false c.in-Color.is _ c.in_ok-single-in-Color.ensures

pub returns-in-Prop : goal.returns-in-Prop
returns-in-Prop c =
    item-as c.args.before.now c.args.line.now _ c.end-end.ensures _ c.line_of.ensures _ c.in-Some.is _ c.admits.ensures c.if-not-admits.false word.Prop c.in-Prop.is _ c.property.ensures

pub returns-in-Define : goal.returns-in-Define
returns-in-Define c =
    item-as c.args.before.now c.args.line.now _ c.end-end.ensures _ c.line_of.ensures _ c.in-Some.is _ c.admits.ensures c.if-not-admits.false word.Define c.in-Define.is _ c.define.ensures

pub returns-in-Cond : goal.returns-in-Cond
returns-in-Cond c =
    item-as c.args.before.now c.args.line.now _ c.end-end.ensures _ c.line_of.ensures _ c.in-Some.is _ c.admits.ensures c.if-not-admits.false word.Cond c.in-Cond.is _ c.condition.ensures

pub returns-in-Feat : goal.returns-in-Feat
returns-in-Feat c =
    item-feature c.args.before.now c.args.line.now _ c.end-end.ensures _ c.line_of.ensures _ c.in-Some.is _ c.admits.ensures c.if-not-admits.false c.in-Feat.is _ c.eight-in-Feat.ensures

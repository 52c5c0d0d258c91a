use mathlib.Core.Path.{refl, subst}
use Rattle.std.proofs.lemmas.Result.{err_from_is_err_and}
use Rattle.style.specs.Inner.{ItemLies}
use Rattle.style.proofs.Law.Entries.{judged-property, define-refused, define-accepted, show-refused, show-accepted, colour-refused, colour-accepted, test-refused, result-refused, result-accepted}
use Rattle.style.proofs.entry.judged.Goals as goal

pub returns-in_err-expression-in-Define : goal.returns-in_err-expression-in-Define
returns-in_err-expression-in-Define c =
    let p = err_from_is_err_and c.from_residual.result c.from_residual.ensures.1 in
    rw (p.1, p.2, c.in-Define.is) (define-refused c.args.before.now c.args.line.now c.args.slots.now c.enter_part.new.slots _ _ (subst (ItemLies c.args.line.now) c.in-Define.is c.requires.1) _ c.in_err-expression-in-Define.ensures)

pub returns-in_err-test-in-Show : goal.returns-in_err-test-in-Show
returns-in_err-test-in-Show c =
    let p = err_from_is_err_and c.from_residual-in_err-test-in-Show.result c.from_residual-in_err-test-in-Show.ensures.1 in
    rw (p.1, p.2, c.in-Show.is) (show-refused c.args.before.now c.args.line.now c.args.slots.now c.enter_part-in-Show.new.slots _ (subst (ItemLies c.args.line.now) c.in-Show.is c.requires.1) _ c.in_err-test-in-Show.ensures)

pub returns-in_err-colour-in-Colour : goal.returns-in_err-colour-in-Colour
returns-in_err-colour-in-Colour c =
    let p = err_from_is_err_and c.from_residual-in_err-colour-in-Colour.result c.from_residual-in_err-colour-in-Colour.ensures.1 in
    rw (p.1, p.2, c.in-Colour.is) (colour-refused c.args.before.now c.args.line.now c.args.slots.now c.enter_part-in-Colour.new.slots _ (subst (ItemLies c.args.line.now) c.in-Colour.is c.requires.1) _ c.in_err-colour-in-Colour.ensures)

pub returns-in_err-test-in-Condition : goal.returns-in_err-test-in-Condition
returns-in_err-test-in-Condition c =
    let p = err_from_is_err_and c.from_residual-in_err-test-in-Condition.result c.from_residual-in_err-test-in-Condition.ensures.1 in
    rw (p.1, p.2, c.in-Condition.is) (test-refused c.args.before.now c.args.line.now c.args.slots.now c.enter_part-in-Condition.new.slots _ _ (subst (ItemLies c.args.line.now) c.in-Condition.is c.requires.1) _ c.in_err-test-in-Condition.ensures)

pub returns-in-Property : goal.returns-in-Property
returns-in-Property c =
    rw c.in-Property.is (judged-property c.args.before.now c.args.line.now c.args.slots.now c.args.slots.now _ _ (subst (ItemLies c.args.line.now) c.in-Property.is c.requires.1) refl)

pub returns-in_err-colour-in-Condition : goal.returns-in_err-colour-in-Condition
returns-in_err-colour-in-Condition c =
    let p = err_from_is_err_and c.from_residual-in_err-colour-in-Condition.result c.from_residual-in_err-colour-in-Condition.ensures.1 in
    rw (p.1, p.2, c.in-Condition.is) (result-refused c.args.before.now c.args.line.now c.args.slots.now c.enter_part-in-Condition-2.new.slots _ _ (subst (ItemLies c.args.line.now) c.in-Condition.is c.requires.1) c.enter_part-in-Condition.new.slots _ c.in_ok-test-in-Condition.ensures _ c.in_err-colour-in-Condition.ensures)

pub returns-in_ok-expression-in-Define : goal.returns-in_ok-expression-in-Define
returns-in_ok-expression-in-Define c =
    rw c.in-Define.is (define-accepted c.args.before.now c.args.line.now c.args.slots.now c.enter_part.new.slots _ _ (subst (ItemLies c.args.line.now) c.in-Define.is c.requires.1) _ c.in_ok-expression-in-Define.ensures)

pub returns-in_ok-test-in-Show : goal.returns-in_ok-test-in-Show
returns-in_ok-test-in-Show c =
    rw c.in-Show.is (show-accepted c.args.before.now c.args.line.now c.args.slots.now c.enter_part-in-Show.new.slots _ (subst (ItemLies c.args.line.now) c.in-Show.is c.requires.1) _ c.in_ok-test-in-Show.ensures)

pub returns-in_ok-colour-in-Colour : goal.returns-in_ok-colour-in-Colour
returns-in_ok-colour-in-Colour c =
    rw c.in-Colour.is (colour-accepted c.args.before.now c.args.line.now c.args.slots.now c.enter_part-in-Colour.new.slots _ (subst (ItemLies c.args.line.now) c.in-Colour.is c.requires.1) _ c.in_ok-colour-in-Colour.ensures)

pub returns-in_ok-colour-in-Condition : goal.returns-in_ok-colour-in-Condition
returns-in_ok-colour-in-Condition c =
    rw c.in-Condition.is (result-accepted c.args.before.now c.args.line.now c.args.slots.now c.enter_part-in-Condition-2.new.slots _ _ (subst (ItemLies c.args.line.now) c.in-Condition.is c.requires.1) c.enter_part-in-Condition.new.slots _ c.in_ok-test-in-Condition.ensures _ c.in_ok-colour-in-Condition.ensures)

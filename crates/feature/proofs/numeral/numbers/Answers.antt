use Rattle.std.proofs.Common.{rules, tests, ◌≡◌, suc, ◌∷◌, [], ◌++◌, length, eqb, add-one, length-append}
use mathlib.Core.Path.{sym, ◌∙◌}
use Rattle.std.proofs.lemmas.Iterator.Consumers.{YieldsList-at, YieldsList-turn, YieldsList-end}
use Rattle.std.proofs.lemmas.Iterator.Splits.{YieldsList-from_slice_split}
use Rattle.feature.proofs.Law.Numbers.{numbers-start, no-number, too-many, one-on, numbers-end}
use Rattle.feature.proofs.numeral.numbers.Goals as goal

pub loop-part-init : goal.loop-part-init
loop-part-init c =
    numbers-start _

pub returns-in_err-signed : goal.returns-in_err-signed
returns-in_err-signed c =
    let t = YieldsList-turn (YieldsList-at c.into_iter-part-iterator.ensures.into_iter_gives (YieldsList-from_slice_split _ (λ x. eqb x 32) c.args.text.now c.split-part-items.ensures.rest c.split-part-items.ensures.done c.split-part-items.ensures.closure (λ x r q k. search (rules, tests)))) _ _ c.loop-part.yielded_by _ _ _ c.in-Some.is c.next.ensures.steps in
    rw c.from_residual.ensures (no-number _ _ _ c.loop-part.invariant _ t (sym c.in_err-signed.was ∙ c.signed.ensures))

pub returns-in_err-value : goal.returns-in_err-value
returns-in_err-value c =
    let t = YieldsList-turn (YieldsList-at c.into_iter-part-iterator.ensures.into_iter_gives (YieldsList-from_slice_split _ (λ x. eqb x 32) c.args.text.now c.split-part-items.ensures.rest c.split-part-items.ensures.done c.split-part-items.ensures.closure (λ x r q k. search (rules, tests)))) _ _ c.loop-part.yielded_by _ _ _ c.in-Some.is c.next.ensures.steps in
    rw c.from_residual-in_err-value.ensures (too-many _ _ _ c.loop-part.invariant _ t _ (sym c.in_ok-signed.was ∙ c.signed.ensures) (sym c.in_err-value.was ∙ c.longer.ensures))

pub loop-part-preserved : goal.loop-part-preserved
loop-part-preserved c =
    let t = YieldsList-turn (YieldsList-at c.into_iter-part-iterator.ensures.into_iter_gives (YieldsList-from_slice_split _ (λ x. eqb x 32) c.args.text.now c.split-part-items.ensures.rest c.split-part-items.ensures.done c.split-part-items.ensures.closure (λ x r q k. search (rules, tests)))) _ _ c.loop-part.yielded_by _ _ _ c.in-Some.is c.next.ensures.steps in
    let n : length (c.loop-part.yielded ++ c.in-Some.part ∷ []) ≡ suc (length c.loop-part.yielded) = search (rules, length-append, add-one) in
    rw n (one-on _ _ _ c.loop-part.invariant _ t _ (sym c.in_ok-signed.was ∙ c.signed.ensures) _ (sym c.in_ok-value.was ∙ c.longer.ensures))

pub returns : goal.returns
returns c =
    let t = YieldsList-end (YieldsList-at c.into_iter-part-iterator.ensures.into_iter_gives (YieldsList-from_slice_split _ (λ x. eqb x 32) c.args.text.now c.split-part-items.ensures.rest c.split-part-items.ensures.done c.split-part-items.ensures.closure (λ x r q k. search (rules, tests)))) _ _ c.loop-part.yielded_by _ _ c.in-None.is c.next.ensures.steps in
    numbers-end _ _ _ c.loop-part.invariant t.1

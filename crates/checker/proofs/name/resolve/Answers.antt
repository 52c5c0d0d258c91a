use native.Mathlib.Omega.{arith}
use Rattle.checker.proofs.Law.Names.{found-ahead, found-variable, resolving, resolving-variable, resolving-other, resolved}
use Rattle.checker.proofs.name.resolve.Goals as goal

pub loop-token-init : goal.loop-token-init
loop-token-init c = resolving _ _ _

pub number_variable-requires : goal.number_variable-requires
number_variable-requires c = found-variable _ _ _ c.token_at.ensures _ _ _ c.in-Found.is c.in-Variable.is

pub loop-token-smaller-in-Variable : goal.loop-token-smaller-in-Variable
loop-token-smaller-in-Variable c =
    let a = found-ahead _ c.loop-token.from _ c.token_at.ensures _ _ _ c.in-Found.is in omega (arith, a)

pub loop-token-preserved-in-Variable : goal.loop-token-preserved-in-Variable
loop-token-preserved-in-Variable c =
    resolving-variable _ _ _ _ _ c.loop-token.invariant _ c.token_at.ensures _ _ _ c.in-Found.is
    c.in-Variable.is _ c.number_variable.ensures c.number_variable.auto.slots

pub loop-token-smaller : goal.loop-token-smaller
loop-token-smaller c =
    let a = found-ahead _ c.loop-token.from _ c.token_at.ensures _ _ _ c.in-Found.is in omega (arith, a)

pub loop-token-preserved : goal.loop-token-preserved
loop-token-preserved c =
    resolving-other _ _ _ _ _ c.loop-token.invariant _ c.token_at.ensures _ _ _ c.in-Found.is c.in_default-token.not-Variable

pub returns : goal.returns
returns c = resolved _ _ _ _ _ c.loop-token.invariant _ c.token_at.ensures c.in_default.not-Found

use mathlib.Core.Path.{refl}
use native.Mathlib.Omega.{arith}
use Rattle.checker.specs.Name.{number_of}
use Rattle.checker.proofs.Law.Names.{variable-numbered}
use Rattle.checker.proofs.name.number_variable.Goals as goal

pub slice_bounds-number-count : goal.slice_bounds-number-count
slice_bounds-number-count c = let l = c.requires.long refl in omega arith

pub slice_bounds-number-start : goal.slice_bounds-number-start
slice_bounds-number-start c = let l = c.requires.long refl in omega arith

pub returns : goal.returns
returns c =
    let s = c.args in
    variable-numbered (number_of s.scope s.head.now s.names.now) s.text.now s.slots.now _ s.at s.end c.number-name.result
    c.number-name.ensures c.variable.ensures

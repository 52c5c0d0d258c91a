use Rattle.std.proofs.lemmas.Result.{err_from_is_err_and}
use Rattle.style.proofs.Law.Entries.{read-eight, read_is}
use Rattle.style.proofs.entry.read.Goals as goal

pub returns-in_err-item : goal.returns-in_err-item
returns-in_err-item c =
    let p = err_from_is_err_and c.from_residual.result c.from_residual.ensures.1 in
    rw (p.1, p.2) (read-eight c.args.before.now c.args.line.now c.args.slots.now c.args.slots.now _ c.in_err-item.ensures)

pub returns : goal.returns
returns c =
    read_is c.args.before.now c.args.line.now c.args.slots.now c.judged.new.slots _ c.in_ok-item.ensures _ c.judged.ensures

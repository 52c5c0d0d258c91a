use Rattle.checker.proofs.Law.Names.{whole-name}
use Rattle.checker.proofs.name.has_name.Goals as goal

pub returns : goal.returns
returns c = whole-name _ c.args.name.now _ c.same_part.ensures

use Rattle.jm_sub.proofs.Changed.{none_found}
use Rattle.jm_sub.proofs.subs.put_last.Goals as goal

pub insert-requires-clause-absent : goal.insert-requires-clause-absent
insert-requires-clause-absent c = none_found c.args.key c.args.items.now.entries c.requires.new

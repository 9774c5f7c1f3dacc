use Rattle.jm_sub.proofs.Changed.{new_without}
use Rattle.jm_sub.proofs.subs.Subs.apply.Goals as goal

pub add-requires-clause-new : goal.add-requires-clause-new
add-requires-clause-new c = rw (c.delete.ensures.list, ← c.decision.view_is) (new_without c.decision.inside.key c.args.self.now.list)

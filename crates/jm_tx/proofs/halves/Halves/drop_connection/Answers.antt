use Rattle.std.proofs.Common.{rules}
use Rattle.jm_tx.specs.Halves.{room}
use Rattle.jm_tx.proofs.Kept.{connection_emptied}
use Rattle.jm_tx.proofs.halves.Halves.drop_connection.Goals as goal

pub returns-clause-sent : goal.returns-clause-sent
returns-clause-sent c = (connection_emptied _ c.args.connection _ (λ s x b y g h. search rules) c.args.self.now _ c.retain.ensures.filtered).0

pub returns-clause-kept : goal.returns-clause-kept
returns-clause-kept c = (connection_emptied _ c.args.connection _ (λ s x b y g h. search rules) c.args.self.now _ c.retain.ensures.filtered).1

pub returns-clause-room : goal.returns-clause-room
unfolding room
returns-clause-room c = c.retain.ensures.spare

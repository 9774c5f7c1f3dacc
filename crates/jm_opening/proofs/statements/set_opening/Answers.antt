use Rattle.sqlite.specs.Held.{state}
use Rattle.jm_opening.proofs.Effects.{sets}
use Rattle.std.proofs.Common.{pos}
use Rattle.jm_opening.proofs.statements.set_opening.Goals as goal

pub returns-clause-done : goal.returns-clause-done
returns-clause-done g c clean within has row one key =
    sets (state g.S.Store c.args.tx.now.conn.now) (state g.S.Store c.run.new.tx.conn.now) row (pos c.args.opening) _ has one key (rw (c.params-to_sql.ensures) at (c.in_ok-run.ensures.runs clean within))

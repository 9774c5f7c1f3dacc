use Rattle.sqlite.specs.Held.{state}
use Rattle.jm_opening.proofs.Effects.{inserts}
use Rattle.jm_opening.proofs.statements.insert_meta.Goals as goal

pub returns-clause-done : goal.returns-clause-done
returns-clause-done g c clean within has none =
    inserts (state g.S.Store c.args.tx.now.conn.now) (state g.S.Store c.run.new.tx.conn.now) _ has none (c.in_ok-run.ensures.runs clean within)

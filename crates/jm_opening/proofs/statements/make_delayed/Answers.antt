use Rattle.sqlite.specs.Held.{state}
use Rattle.jm_opening.proofs.Steps.{creates_delayed}
use Rattle.jm_opening.proofs.statements.make_delayed.Goals as goal

pub returns-clause-done : goal.returns-clause-done
returns-clause-done g c clean within has =
    creates_delayed (state g.S.Store c.args.tx.now.conn.now) (state g.S.Store c.run.new.tx.conn.now) _ has (rw (c.delayed.ensures.text) at (c.in_ok-run.ensures.runs clean within))

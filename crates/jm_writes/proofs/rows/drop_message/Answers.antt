use Rattle.std.proofs.Common.{w64}
use Rattle.std.proofs.lemmas.Int.{to_z-of_z}
use Rattle.sqlite.specs.Held.{state}
use Rattle.jm_writes.proofs.Drops.{drop_message_on}
use Rattle.jm_writes.proofs.rows.drop_message.Goals as goal

pub returns-clause-done : goal.returns-clause-done
returns-clause-done g c clean serves =
    drop_message_on (state g.S.Store c.args.tx.now.conn.now) (state g.S.Store c.run.new.tx.conn.now) c.args.place c.run.result serves
    (rw (c.params-to_sql.ensures, to_z-of_z w64 c.in_ok-place.place c.in_ok-place.ensures.fits, c.in_ok-place.ensures.value) at (c.run.ensures.runs clean))

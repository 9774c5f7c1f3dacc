use Rattle.std.proofs.Common.{w64}
use Rattle.std.proofs.lemmas.Int.{to_z-of_z}
use Rattle.sqlite.specs.Held.{state}
use Rattle.jm_writes.proofs.Drops.{drop_station_on}
use Rattle.jm_writes.proofs.Family.{family_fits}
use Rattle.jm_writes.proofs.rows.drop_station.Goals as goal

pub returns-clause-done : goal.returns-clause-done
returns-clause-done g c clean serves =
    drop_station_on (state g.S.Store c.args.tx.now.conn.now) (state g.S.Store c.run.new.tx.conn.now) c.args.key.now c.in_ok-family.family c.run.result c.in_ok-family.ensures.ok serves
    (rw (c.params-to_sql.ensures, c.params-to_sql-2.ensures, c.params-to_sql-3.ensures, c.client_of.ensures, c.name_of.ensures, to_z-of_z w64 c.in_ok-family.family (family_fits c.args.key.now c.in_ok-family.family c.in_ok-family.ensures.ok)) at (c.run.ensures.runs clean))

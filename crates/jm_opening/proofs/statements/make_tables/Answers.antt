use Rattle.std.proofs.Common.{arith}
use Rattle.sqlite.specs.State.{HasCleanDisk}
use Rattle.sqlite.specs.Held.{state}
use Rattle.jm_opening.proofs.Steps.{creates_meta, creates_station, creates_message, creates_held, four}
use Rattle.jm_opening.proofs.statements.make_tables.Goals as goal

pub returns-clause-done : goal.returns-clause-done
returns-clause-done g c clean within has =
    let s0 = state g.S.Store c.args.tx.now.conn.now in
    let s1 = state g.S.Store c.run.new.tx.conn.now in
    let s2 = state g.S.Store c.run-2.new.tx.conn.now in
    let s3 = state g.S.Store c.run-3.new.tx.conn.now in
    let s4 = state g.S.Store c.run-4.new.tx.conn.now in
    let k3 : HasCleanDisk s3 = omega (arith, c.run-4.ensures.survives.clean, clean) in
    let k2 : HasCleanDisk s2 = omega (arith, c.run-3.ensures.survives.clean, k3) in
    let k1 : HasCleanDisk s1 = omega (arith, c.run-2.ensures.survives.clean, k2) in
    let one = creates_meta s0 s1 _ has (rw (c.meta.ensures.text) at (c.in_ok-run.ensures.runs k1 within)) in
    let two = creates_station s1 s2 _ one.0.schema_is (rw (c.station.ensures.text) at (c.in_ok-run-2.ensures.runs k2 one.0.shown.mode)) in
    let three = creates_message s2 s3 _ two.0.schema_is (rw (c.message.ensures.text) at (c.in_ok-run-3.ensures.runs k3 two.0.shown.mode)) in
    let last = creates_held s3 s4 _ three.0.schema_is (rw (c.held.ensures.text) at (c.in_ok-run-4.ensures.runs clean three.0.shown.mode)) in
    four s0 s1 s2 s3 s4 one two three last

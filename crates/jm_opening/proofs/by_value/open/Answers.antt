use Rattle.std.proofs.Common.{arith}
use Rattle.sqlite.specs.State.{HasCleanDisk}
use Rattle.sqlite.specs.Held.{state}
use Rattle.jm_opening.proofs.Leaving.{settled_leaves}
use Rattle.jm_opening.proofs.by_value.open.Goals as goal

pub returns-in-Err-open_settled-clause-fault : goal.returns-in-Err-open_settled-clause-fault
returns-in-Err-open_settled-clause-fault g c clean =
    let settled = state g.S.Store c.in-Ok.conn in
    let early : HasCleanDisk settled = omega (arith, c.in-Err-open_settled.ensures.survives.clean, clean) in
    (settled.now, c.in-Ok.ensures.same early, c.in-Err-open_settled.ensures.fault clean)

pub returns-in-Err-open_settled-clause-stop : goal.returns-in-Err-open_settled-clause-stop
returns-in-Err-open_settled-clause-stop g c =
    let it = c.in-Ok.ensures in
    settled_leaves (state g.S.Store c.args.conn) (state g.S.Store c.in-Ok.conn) (state g.S.Store c.open_settled.new.conn) (λ clean. (it.tables clean).2.clean) it.same it.stop c.in-Err-open_settled.ensures.survives

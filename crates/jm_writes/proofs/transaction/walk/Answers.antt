use Rattle.std.proofs.Common.{◌∙◌, arith}
use Rattle.sqlite.specs.State.{HasCleanDisk}
use Rattle.sqlite.specs.Held.{state}
use Rattle.jm_writes.proofs.Walked.{walked_next, survives_on, keeps_on}
use Rattle.jm_writes.proofs.transaction.walk.Goals as goal

pub loop-change-preserved : goal.loop-change-preserved
loop-change-preserved g c =
    let old = state g.S.Store c.args.tx.now.conn.now in
    let mid = state g.S.Store c.loop-change.tx.conn.now in
    let new = state g.S.Store c.make.new.tx.conn.now in
    let inv = c.loop-change.invariant in
    let on = c.make.ensures.survives in (
      c.make.ensures.same ∙ inv.0,
      survives_on old mid new inv.1 on,
      λ clean. keeps_on old mid new (inv.2 (omega (arith, on.clean, clean))) (c.make.ensures.kept clean),
      λ clean within live serves.
          let early : HasCleanDisk mid = omega (arith, on.clean, clean) in
          let w = inv.3 early within live serves in
          walked_next old mid new c.args.changes.now c.loop-change.change-index c.change-item.result c.loop-change-test.true c.change-item.is w (c.in_ok-make.ensures.done clean w.serves),
    )

use Rattle.std.proofs.Common.{sym, subst}
use Rattle.sqlite.specs.Held.{state}
use Rattle.jm_writes.specs.Records.{StoresRecords}
use Rattle.jm_writes.proofs.Records.{written_stores}
use Rattle.jm_writes.proofs.Refused.{stop_leaves, then_clean, then_refused, then_written, write_leaves}
use Rattle.jm_writes.proofs.store.StoreKeep.write.Goals as goal

pub returns-in-Ok-clause-written : goal.returns-in-Ok-clause-written
returns-in-Ok-clause-written g c k =
    let e = c.in-Ok.ensures in
    rw (← c.self.view_is) (then_written (state g.S.Store c.self.inside.conn) (state g.S.Store c.write.new.conn) c.self.invariant.1 e.survives.clean e.was_open k e.written).3.stored_is

pub returns-in-Ok-clause-clean : goal.returns-in-Ok-clause-clean
returns-in-Ok-clause-clean g c k =
    let e = c.in-Ok.ensures in rw (← c.self.view_is) (then_clean (state g.S.Store c.self.inside.conn) (state g.S.Store c.write.new.conn) c.self.invariant.1 e.survives.clean e.was_open k)

pub returns-then-matches-clause-refused : goal.returns-then-matches-clause-refused
returns-then-matches-clause-refused g c k =
    let e = c.in-Err.ensures in rw (← c.self.view_is) (then_refused (state g.S.Store c.self.inside.conn) (state g.S.Store c.write.new.conn) c.self.invariant.1 e.survives.clean e.was_open k e.refused)

pub returns-then-matches-clause-clean : goal.returns-then-matches-clause-clean
returns-then-matches-clause-clean g c k =
    let e = c.in-Err.ensures in rw (← c.self.view_is) (then_clean (state g.S.Store c.self.inside.conn) (state g.S.Store c.write.new.conn) c.self.invariant.1 e.survives.clean e.was_open k)

pub returns-else-matches-clause-refused : goal.returns-else-matches-clause-refused
returns-else-matches-clause-refused g c k =
    let e = c.in-Err.ensures in rw (← c.self.view_is) (then_refused (state g.S.Store c.self.inside.conn) (state g.S.Store c.write.new.conn) c.self.invariant.1 e.survives.clean e.was_open k e.refused)

pub returns-else-matches-clause-clean : goal.returns-else-matches-clause-clean
returns-else-matches-clause-clean g c k =
    let e = c.in-Err.ensures in rw (← c.self.view_is) (then_clean (state g.S.Store c.self.inside.conn) (state g.S.Store c.write.new.conn) c.self.invariant.1 e.survives.clean e.was_open k)

pub returns-in-Ok-clause-records : goal.returns-in-Ok-clause-records
returns-in-Ok-clause-records g c k =
    let e = c.in-Ok.ensures in
    rw (← c.self.view_is)
    (written_stores (state g.S.Store c.self.inside.conn).now.trees (state g.S.Store c.write.new.conn).now.trees c.args.changes.now
    (then_written (state g.S.Store c.self.inside.conn) (state g.S.Store c.write.new.conn) c.self.invariant.1 e.survives.clean e.was_open k e.written).3)

pub returns-then-matches-clause-records : goal.returns-then-matches-clause-records
returns-then-matches-clause-records g c k =
    let e = c.in-Err.ensures in
    rw (← c.self.view_is)
    (λ stores brings. subst StoresRecords (sym (then_refused (state g.S.Store c.self.inside.conn) (state g.S.Store c.write.new.conn) c.self.invariant.1 e.survives.clean e.was_open k e.refused)) stores)

pub returns-else-matches-clause-records : goal.returns-else-matches-clause-records
returns-else-matches-clause-records g c k =
    let e = c.in-Err.ensures in
    rw (← c.self.view_is)
    (λ stores brings. subst StoresRecords (sym (then_refused (state g.S.Store c.self.inside.conn) (state g.S.Store c.write.new.conn) c.self.invariant.1 e.survives.clean e.was_open k e.refused)) stores)

pub returns-in-Ok-clause-stop : goal.returns-in-Ok-clause-stop
returns-in-Ok-clause-stop g c =
    rw (← c.self.view_is) (stop_leaves (state g.S.Store c.self.inside.conn) (state g.S.Store c.write.new.conn) c.args.changes.now c.self.invariant.1 c.in-Ok.ensures.survives)

pub returns-then-matches-clause-stop : goal.returns-then-matches-clause-stop
returns-then-matches-clause-stop g c =
    rw (← c.self.view_is) (stop_leaves (state g.S.Store c.self.inside.conn) (state g.S.Store c.write.new.conn) c.args.changes.now c.self.invariant.1 c.in-Err.ensures.survives)

pub returns-else-matches-clause-stop : goal.returns-else-matches-clause-stop
returns-else-matches-clause-stop g c =
    rw (← c.self.view_is) (stop_leaves (state g.S.Store c.self.inside.conn) (state g.S.Store c.write.new.conn) c.args.changes.now c.self.invariant.1 c.in-Err.ensures.survives)

pub returns-in-Ok-clause-durable : goal.returns-in-Ok-clause-durable
returns-in-Ok-clause-durable g c =
    let e = c.in-Ok.ensures in
    rw (← c.self.view_is)
    (λ clean live. write_leaves (state g.S.Store c.self.inside.conn) (state g.S.Store c.write.new.conn) c.args.changes.now c.self.invariant.1 e.survives clean live e.durable)

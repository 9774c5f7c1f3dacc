use Rattle.std.proofs.Common.{inr}
use Rattle.sqlite.specs.Held.{state}
use Rattle.jm_plans.specs.Provider.{state_of}
use Rattle.jm_opening.specs.declared.outcome.Left.TheVariants.{Settled}
use Rattle.jm_store.proofs.Leaving.{leaves_valid, opened_leaves}
use Rattle.jm_store.proofs.Reopening.{ours, still_holds, still_left, still_opened, still_stored, still_valid, stands_opened}
use Rattle.jm_store.proofs.opening.open.Goals as goal

pub over-requires-clause-ours : goal.over-requires-clause-ours
over-requires-clause-ours g c =
    let o = c.in-Ok in
    ours o.opened.opening _ (state g.S.Store o.opened.conn) (state g.S.Store c.load.new.conn) c.load.ensures.survives c.load.ensures.same o.ensures.opened c.is_opening.ensures o.ensures.serves c.in-Ok-load.ensures.read

pub returns-in-Ok-load-clause-stored : goal.returns-in-Ok-load-clause-stored
returns-in-Ok-load-clause-stored g c k =
    let o = c.in-Ok in
    rw c.over.ensures (still_stored o.opened.opening _ (state g.S.Store o.opened.conn) (state g.S.Store c.load.new.conn) c.load.ensures.survives c.load.ensures.same o.ensures.opened (rw c.over.ensures at k) (state_of c.in-Ok-load.core) o.ensures.serves c.in-Ok-load.ensures.loaded)

pub returns-in-Ok-load-clause-holds : goal.returns-in-Ok-load-clause-holds
returns-in-Ok-load-clause-holds g c k =
    let o = c.in-Ok in
    still_holds o.opened.opening _ (state g.S.Store o.opened.conn) (state g.S.Store c.load.new.conn) c.load.ensures.survives c.load.ensures.same o.ensures.opened (rw c.over.ensures at k) (state_of c.in-Ok-load.core) o.ensures.serves c.in-Ok-load.ensures.holds

pub returns-in-Ok-load-clause-valid : goal.returns-in-Ok-load-clause-valid
returns-in-Ok-load-clause-valid g c k =
    let o = c.in-Ok in
    rw (c.over.ensures, c.in-Ok-load.ensures.opening)
    (still_valid o.opened.opening _ (state g.S.Store o.opened.conn) (state g.S.Store c.load.new.conn) c.load.ensures.survives c.load.ensures.same o.ensures.opened (rw c.over.ensures at k) (state_of c.in-Ok-load.core) c.is_opening.ensures o.ensures.serves c.in-Ok-load.ensures.read c.in-Ok-load.ensures.loaded c.in-Ok-load.ensures.holds)

pub returns-in-Ok-load-clause-opened : goal.returns-in-Ok-load-clause-opened
returns-in-Ok-load-clause-opened g c k =
    let o = c.in-Ok in
    rw (c.over.ensures, c.in-Ok-load.ensures.opening) (still_opened o.opened.opening _ (state g.S.Store o.opened.conn) (state g.S.Store c.load.new.conn) c.load.ensures.survives c.load.ensures.same o.ensures.opened (rw c.over.ensures at k))

pub returns-in-Ok-load-clause-durable : goal.returns-in-Ok-load-clause-durable
returns-in-Ok-load-clause-durable g c k db h =
    let o = c.in-Ok in
    rw c.over.ensures (still_left o.opened.opening _ (state g.S.Store o.opened.conn) (state g.S.Store c.load.new.conn) c.load.ensures.survives c.load.ensures.same o.ensures.opened (rw c.over.ensures at k) o.ensures.durable db (rw c.over.ensures at h))

pub returns-in-Err-load-clause-refused : goal.returns-in-Err-load-clause-refused
returns-in-Err-load-clause-refused g c =
    let o = c.in-Ok in
    inr (stands_opened _ (state g.S.Store o.opened.conn) (state g.S.Store c.load.new.conn) o.opened.opening c.in-Err-load.fault c.load.ensures.survives c.load.ensures.same o.ensures.opened o.ensures.serves c.in-Err-load.ensures.fault)

pub returns-in-Err-load-clause-stop : goal.returns-in-Err-load-clause-stop
returns-in-Err-load-clause-stop g c =
    let o = c.in-Ok in
    opened_leaves (state g.S.Store c.args.conn) (state g.S.Store o.opened.conn) (state g.S.Store c.load.new.conn) o.opened.opening c.is_opening.ensures o.ensures.opened o.ensures.durable c.load.ensures.survives

pub returns-in-Err-load-clause-stop_valid : goal.returns-in-Err-load-clause-stop_valid
returns-in-Err-load-clause-stop_valid g c live last valid =
    leaves_valid g.S.Store (state g.S.Store c.args.conn) (λ db. g.met.S.Store.settled c.args.conn.store db live) last valid (Settled c.load.new.conn) (returns-in-Err-load-clause-stop g c)

pub returns-in-Err-clause-stop_valid : goal.returns-in-Err-clause-stop_valid
returns-in-Err-clause-stop_valid g c live last valid =
    leaves_valid g.S.Store (state g.S.Store c.args.conn) (λ db. g.met.S.Store.settled c.args.conn.store db live) last valid c.in-Err.unopened.left c.in-Err.ensures.stop

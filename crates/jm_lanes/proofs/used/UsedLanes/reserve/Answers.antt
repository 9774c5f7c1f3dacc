use Rattle.std.proofs.Common.{Result, Ok, Err, OnOk, refl}
use Rattle.jm_lanes.proofs.Within.{room_spread, spread}
use Rattle.jm_lanes.proofs.used.UsedLanes.reserve.Goals as goal

then : {T E A B : Type 0} (r : Result T E) → OnOk r A → (A → B) → OnOk r B
then (Ok x) a f = f a
then (Err e) a f = tt

pub returns-then-additional-self-clause-same : goal.returns-then-additional-self-clause-same
returns-then-additional-self-clause-same c =
    rw (← c.self.view_is) (spread (λ rs. rs) refl c.self.inside.span c.self.inside.lanes.len c.first.result c.end.result c.self.inside.lanes.items c.deref_mut.result.now c.reserve.new.lanes c.deref_mut.ensures.value c.deref_mut.ensures.len c.first.ensures c.end.ensures c.self.invariant c.reserve.ensures.same).each

pub returns-then-additional-self-clause-ok : goal.returns-then-additional-self-clause-ok
returns-then-additional-self-clause-ok c =
    then c.reserve.result c.reserve.ensures.ok (room_spread c.self.inside.span c.args.additional c.self.inside.lanes.len c.first.result c.end.result c.self.inside.lanes.items c.deref_mut.result.now c.reserve.new.lanes c.deref_mut.ensures.value c.deref_mut.ensures.len c.first.ensures c.end.ensures c.if-additional-self.true c.self.invariant c.reserve.ensures.same.len)

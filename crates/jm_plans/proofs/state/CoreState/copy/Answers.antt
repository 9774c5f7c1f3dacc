use Rattle.std.proofs.Common.{refl}
use Rattle.jm_plans.proofs.Seen.{stations_copied, sound_copied}
use Rattle.jm_plans.proofs.state.CoreState.copy.Goals as goal

pub invariant_of-result : goal.invariant_of-result
invariant_of-result c =
    let i = c.self.inside in
    let k = c.in_ok-known.ensures in
    let h = c.in_ok-stations.ensures in (
      rw (c.into_parts-sessions.ensures, k.consumers, k.subs, h.keys, h.list, h.next_place) (sound_copied i.limit i.sessions.consumers i.subs.list i.stations.keys i.stations.list i.stations.next_place c.self.invariant.0),
      rw (h.next_place, h.queue_place) c.self.invariant.1,
    )

pub returns : goal.returns
returns c =
    let i = c.self.inside in
    let k = c.in_ok-known.ensures in
    let h = c.in_ok-stations.ensures in
    rw (c.into_parts-sessions.ensures, k.life, k.consumers, k.subs, h.list, h.next_place, h.queues, stations_copied i.subs.list i.stations.list, ← c.self.view_is) refl

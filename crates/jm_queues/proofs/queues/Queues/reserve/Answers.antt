use Rattle.jm_queues.proofs.QueueCounts.{queues_more}
use Rattle.jm_queues.proofs.QueueKeys.{keys_same}
use Rattle.jm_queues.proofs.QueueRows.{one_reserved, queues_reserved}
use Rattle.jm_queues.proofs.queues.Queues.reserve.Goals as goal

pub invariant_of-self : goal.invariant_of-self
invariant_of-self c =
    let i = c.self.inside in
    let m = c.in_err-reserve.ensures in
    (rw m.next_place (queues_more i.stations.list c.reserve.new.self.list i.stations.next_place m.list c.self.invariant.0), keys_same i.stations.keys c.reserve.new.self.keys m.keys c.self.invariant.1)

pub returns-in_err-reserve-clause-more : goal.returns-in_err-reserve-clause-more
returns-in_err-reserve-clause-more c =
    let i = c.self.inside in
    let m = c.in_err-reserve.ensures in
    let made = rw (← c.self.view_is) at c.in_ok-index.ensures.more in
    queues_reserved c.args.self.now i.stations c.reserve.new.self made m.keys m.list m.next_place m.room

pub invariant_of-self-2 : goal.invariant_of-self-2
invariant_of-self-2 c =
    let i = c.self.inside in
    let m = c.in_ok-reserve.ensures in
    (rw m.next_place (queues_more i.stations.list c.reserve.new.self.list i.stations.next_place m.list c.self.invariant.0), keys_same i.stations.keys c.reserve.new.self.keys m.keys c.self.invariant.1)

pub returns-clause-more : goal.returns-clause-more
returns-clause-more c =
    let i = c.self.inside in
    let m = c.in_ok-reserve.ensures in
    let made = rw (← c.self.view_is) at c.in_ok-index.ensures.more in
    queues_reserved c.args.self.now i.stations c.reserve.new.self made m.keys m.list m.next_place m.room

pub returns-clause-reserved : goal.returns-clause-reserved
returns-clause-reserved c =
    let i = c.self.inside in
    let m = c.in_ok-reserve.ensures in
    let within = rw (← c.self.view_is) at c.in_ok-index.ensures.within in
    one_reserved c.args.additional c.in_ok-index.index i.stations.list c.reserve.new.self.list within m.list (rw c.from_ref.ensures.value at m.rows)

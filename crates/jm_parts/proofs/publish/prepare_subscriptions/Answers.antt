use Rattle.jm_machine.specs.Machine.{publisher_of}
use Rattle.jm_parts.proofs.Publishing.{places_within, reserved_there, routed}
use Rattle.jm_parts.proofs.publish.prepare_subscriptions.Goals as goal

pub reserve-requires : goal.reserve-requires
reserve-requires c =
    let p = publisher_of c.args.sessions.now.life c.args.message.now in
    rw c.deref.ensures.value (record { within = places_within p c.args.message.now c.args.subs.now.list c.args.stations.now.list c.in_ok-indexes.indexes.items c.in_ok-indexes.ensures.ok c.requires.number })

pub returns-clause-routed : goal.returns-clause-routed
returns-clause-routed c = routed c.args.sessions.now.life c.args.subs.now.list c.args.message.now c.in_ok-indexes.indexes.items c.in_ok-indexes.ensures.ok

pub returns-clause-reserved : goal.returns-clause-reserved
returns-clause-reserved c =
    let p = publisher_of c.args.sessions.now.life c.args.message.now in
    reserved_there c.args.additional p c.args.message.now c.args.subs.now.list c.args.stations.now.list c.reserve.new.self.list c.in_ok-indexes.indexes.items c.in_ok-indexes.ensures.ok c.requires.number
    c.in_ok-reserve.ensures.list (rw c.deref.ensures.value at c.in_ok-reserve.ensures.rows)

use Rattle.std.proofs.Common.{◌≡◌, arith, length, map, rules}
use Rattle.jm_stations.specs.declared.loading.StoredRow.{StoredRow}
use Rattle.jm_parts.proofs.Reopening.{indexes_within, room_each, taken}
use Rattle.jm_parts.proofs.reopen.load_shared.Goals as goal

pub reserve-requires : goal.reserve-requires
reserve-requires c =
    let is : c.deref.result.now ≡ map (λ (r : StoredRow). r.index) c.args.rows.now = search rules in
    record { within = indexes_within (length c.args.stations.now.list) c.args.rows.now c.deref.result.now is c.requires.within }

pub load_shared-requires-clause-within : goal.load_shared-requires-clause-within
load_shared-requires-clause-within c = rw c.skip_to.ensures (λ k d l. let within = c.requires.within k d l in omega (arith, within, c.in_ok-reserve.ensures.list.number))

pub load_shared-requires-clause-rows : goal.load_shared-requires-clause-rows
load_shared-requires-clause-rows c =
    let is : c.deref.result.now ≡ map (λ (r : StoredRow). r.index) c.args.rows.now = search rules in
    rw c.skip_to.ensures (room_each c.args.rows.now c.deref.result.now c.reserve.new.self.list is c.in_ok-reserve.ensures.rows)

pub returns-clause-list : goal.returns-clause-list
returns-clause-list c =
    taken c.args.place c.args.message c.args.rows.now c.args.stations.now.list c.reserve.new.self.list c.load_shared.new.self.list c.requires.unlimited c.in_ok-reserve.ensures.list (rw c.skip_to.ensures at c.load_shared.ensures.list)

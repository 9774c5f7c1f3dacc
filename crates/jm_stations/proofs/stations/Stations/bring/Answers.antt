use Rattle.std.proofs.Common.{◌<◌, ◌^◌, ap, subst, get_or, ◌∙◌, sym}
use Rattle.jm_lane.specs.declared.row.Row.{Row}
use Rattle.jm_stations.specs.Stations.{Stations}
use Rattle.jm_stations.specs.Kept.{IsOffered}
use Rattle.jm_stations.proofs.Publishing.{free_place, one_holder, published_kept, published_shown, room_inside}
use Rattle.jm_stations.proofs.Homes.{but_offered}
use Rattle.jm_stations.proofs.stations.Stations.bring.Goals as goal

pub put-requires-clause-free : goal.put-requires-clause-free
put-requires-clause-free c = free_place c.self.inside.table c.self.inside.next_place c.self.inside.lists.items c.self.invariant.0

pub offer_each-requires-clause-room : goal.offer_each-requires-clause-room
offer_each-requires-clause-room c = λ k d l e.
    room_inside c.self.inside.table c.self.inside.lists.items c.args.self.now.list (get_or c.args.indexes.now k d) e (ap (λ (s : Stations). s.list) c.self.view_is) (c.requires.within k d l) (c.requires.rows k d l)

pub offer_each-requires-clause-above : goal.offer_each-requires-clause-above
offer_each-requires-clause-above c = λ k d l. rw c.with_state-row.ensures.row ((c.self.invariant.0.each k d l).below)

pub offer_each-requires-clause-there : goal.offer_each-requires-clause-there
offer_each-requires-clause-there c = rw c.with_state-row.ensures.row (one_holder c.self.inside.table c.put.new.self c.self.inside.next_place c.self.inside.lists.items c.self.invariant.0 c.put.ensures.holders)

pub invariant_of-self : goal.invariant_of-self
invariant_of-self c =
    let bound : c.self.inside.next_place < 2 ^ 63 = rw (← c.self.view_is) at c.requires.places in
    let offered = subst (λ (row : Row). IsOffered c.args.indexes.now row c.self.inside.lists.items c.offer_each.new.lists.items) c.with_state-row.ensures.row c.offer_each.ensures.lists in (
      (published_kept c.self.inside.table c.put.new.self c.offer_each.new.table c.release.new.self c.self.inside.next_place c.args.row c.args.indexes.now c.self.inside.lists.items c.offer_each.new.lists.items c.self.invariant.0 bound c.put.ensures.holders c.put.ensures.message c.put.ensures.others offered c.offer_each.ensures.table c.release.ensures.holders c.release.ensures.messages).0,
      c.add_each.ensures.number ∙ c.self.invariant.1 ∙ sym offered.number,
      but_offered c.self.inside.outstanding.indexes c.add_each.new.self.indexes c.args.indexes.now _ c.self.inside.lists.items c.offer_each.new.lists.items offered c.add_each.ensures.before c.add_each.ensures.out c.self.invariant.2,
      c.self.invariant.3 ∙ sym offered.number,
      c.self.invariant.4,
      c.self.invariant.5,
    )

pub returns-clause-list : goal.returns-clause-list
returns-clause-list c =
    let bound : c.self.inside.next_place < 2 ^ 63 = rw (← c.self.view_is) at c.requires.places in
    let offered = subst (λ (row : Row). IsOffered c.args.indexes.now row c.self.inside.lists.items c.offer_each.new.lists.items) c.with_state-row.ensures.row c.offer_each.ensures.lists in
    let kept = published_kept c.self.inside.table c.put.new.self c.offer_each.new.table c.release.new.self c.self.inside.next_place c.args.row c.args.indexes.now c.self.inside.lists.items c.offer_each.new.lists.items c.self.invariant.0 bound c.put.ensures.holders c.put.ensures.message c.put.ensures.others offered c.offer_each.ensures.table c.release.ensures.holders c.release.ensures.messages in
    rw (← c.self.view_is) (published_shown c.self.inside.table c.put.new.self c.release.new.self c.self.inside.next_place c.args.row c.args.indexes.now c.self.inside.lists.items c.offer_each.new.lists.items c.self.invariant.0 kept.0 kept.1 c.put.ensures.message c.put.ensures.others offered)

use Rattle.std.proofs.Common.{◌<◌, ◌^◌, ap, subst, get_or, ◌∙◌, sym, refl}
use Rattle.jm_lane.specs.declared.row.Row.{Row}
use Rattle.jm_stations.specs.Stations.{Stations}
use Rattle.jm_stations.specs.Loading.{AreOffered}
use Rattle.jm_stations.proofs.Publishing.{free_place, one_holder, room_inside}
use Rattle.jm_stations.proofs.StoredRows.{loaded_kept, loaded_shown}
use Rattle.jm_stations.proofs.Homes.{but_loaded}
use Rattle.jm_stations.proofs.stations.Stations.load_shared.Goals as goal

pub put-requires-clause-free : goal.put-requires-clause-free
put-requires-clause-free c = free_place c.self.inside.table c.self.inside.next_place c.self.inside.lists.items c.self.invariant.0

pub offer_stored-requires-clause-room : goal.offer_stored-requires-clause-room
offer_stored-requires-clause-room c = λ k d l e.
    room_inside c.self.inside.table c.self.inside.lists.items c.args.self.now.list (get_or c.args.rows.now k d).index e (ap (λ (s : Stations). s.list) c.self.view_is) (c.requires.within k d l) (c.requires.rows k d l)

pub offer_stored-requires-clause-above : goal.offer_stored-requires-clause-above
offer_stored-requires-clause-above c = λ k d l. rw c.new-row.ensures.row ((c.self.invariant.0.each k d l).below)

pub offer_stored-requires-clause-there : goal.offer_stored-requires-clause-there
offer_stored-requires-clause-there c = rw c.new-row.ensures.row (one_holder c.self.inside.table c.put.new.self c.self.inside.next_place c.self.inside.lists.items c.self.invariant.0 c.put.ensures.holders)

pub invariant_of-self : goal.invariant_of-self
invariant_of-self c =
    let bound : c.self.inside.next_place < 2 ^ 63 = rw (← c.self.view_is) at c.requires.places in
    let offered = subst (λ (row : Row). AreOffered c.args.rows.now row c.self.inside.lists.items c.offer_stored.new.lists.items) c.new-row.ensures.row c.offer_stored.ensures.lists in (
      (loaded_kept c.self.inside.table c.put.new.self c.offer_stored.new.table c.release.new.self c.self.inside.next_place c.args.message c.args.rows.now c.self.inside.lists.items c.offer_stored.new.lists.items c.self.invariant.0 bound c.put.ensures.holders c.put.ensures.message c.put.ensures.others offered c.offer_stored.ensures.table c.release.ensures.holders c.release.ensures.messages).0,
      c.self.invariant.1 ∙ sym offered.number,
      but_loaded c.self.inside.outstanding.indexes c.args.rows.now _ c.self.inside.lists.items c.offer_stored.new.lists.items offered refl c.self.invariant.2,
      c.self.invariant.3 ∙ sym offered.number,
      c.self.invariant.4,
      c.self.invariant.5,
    )

pub returns-clause-list : goal.returns-clause-list
returns-clause-list c =
    let bound : c.self.inside.next_place < 2 ^ 63 = rw (← c.self.view_is) at c.requires.places in
    let offered = subst (λ (row : Row). AreOffered c.args.rows.now row c.self.inside.lists.items c.offer_stored.new.lists.items) c.new-row.ensures.row c.offer_stored.ensures.lists in
    let kept = loaded_kept c.self.inside.table c.put.new.self c.offer_stored.new.table c.release.new.self c.self.inside.next_place c.args.message c.args.rows.now c.self.inside.lists.items c.offer_stored.new.lists.items c.self.invariant.0 bound c.put.ensures.holders c.put.ensures.message c.put.ensures.others offered c.offer_stored.ensures.table c.release.ensures.holders c.release.ensures.messages in
    rw (← c.self.view_is) (loaded_shown c.self.inside.table c.put.new.self c.release.new.self c.self.inside.next_place c.args.message c.args.rows.now c.self.inside.lists.items c.offer_stored.new.lists.items c.self.invariant.0 kept.0 kept.1 c.put.ensures.message c.put.ensures.others offered)

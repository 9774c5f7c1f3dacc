use Rattle.std.proofs.Common.{◌∙◌, refl, ap, true, sym, subst, length, Option}
use Rattle.std.proofs.lemmas.List.{get_or-map}
use Rattle.jm_stations.specs.declared.picked.Picked.{Picked}
use Rattle.jm_stations.specs.Backlogs.{IsPicked}
use Rattle.jm_stations.specs.Kept.{shown, all_shown, dropped, received_at}
use Rattle.jm_stations.proofs.Holders.{covers_one}
use Rattle.jm_stations.proofs.Shown.{dropped_backlog, received_backlog}
use Rattle.jm_stations.proofs.Receiving.{no_rows, within_shown, changed_kept, nothing_received, picked_absent, picked_nothing, picked_one, received_seen, told_none, told_taken}
use Rattle.jm_stations.proofs.Homes.{but_changed, dropped_home, received_home}
use Rattle.jm_stations.proofs.Indexes.{length-changed}
use Rattle.jm_stations.proofs.stations.Stations.receive.Goals as goal

pub drop_expired-requires-clause-covers : goal.drop_expired-requires-clause-covers
drop_expired-requires-clause-covers c = λ d.
    covers_one c.self.inside.table c.self.inside.lists.items c.args.index d (within_shown c.self.inside.table c.self.inside.lists.items c.args.index (rw (← c.self.view_is) at c.requires.within)) c.self.invariant.0.counted

pub receive-taken-requires-clause-covers : goal.receive-taken-requires-clause-covers
receive-taken-requires-clause-covers c = λ d.
    covers_one c.self.inside.table c.self.inside.lists.items c.args.index d (within_shown c.self.inside.table c.self.inside.lists.items c.args.index (rw (← c.self.view_is) at c.requires.within)) c.self.invariant.0.counted

pub invariant_of-self : goal.invariant_of-self
invariant_of-self c =
    let inside = within_shown c.self.inside.table c.self.inside.lists.items c.args.index (rw (← c.self.view_is) at c.requires.within) in (
      rw c.drop_expired.ensures.lists (changed_kept c.self.inside.table c.drop_expired.new.table c.self.inside.next_place c.args.index (dropped c.args.now) (dropped_backlog c.self.inside.table c.self.inside.next_place c.args.now) no_rows c.self.inside.lists.items inside c.self.invariant.0 (c.drop_expired.ensures.table no_rows)),
      c.self.invariant.1 ∙ sym (ap length c.drop_expired.ensures.lists ∙ length-changed c.args.index (dropped c.args.now) c.self.inside.lists.items),
      rw c.drop_expired.ensures.lists (but_changed (dropped c.args.now) (dropped_home c.args.now) c.self.inside.outstanding.indexes c.args.index c.self.inside.lists.items c.self.invariant.2),
      c.self.invariant.3 ∙ sym (ap length c.drop_expired.ensures.lists ∙ length-changed c.args.index (dropped c.args.now) c.self.inside.lists.items),
      c.self.invariant.4,
      c.self.invariant.5,
    )

pub invariant_of-self-2 : goal.invariant_of-self-2
invariant_of-self-2 c =
    let inside = within_shown c.self.inside.table c.self.inside.lists.items c.args.index (rw (← c.self.view_is) at c.requires.within) in (
      rw c.receive-taken.ensures.lists (changed_kept c.self.inside.table c.receive-taken.new.table c.self.inside.next_place c.args.index (received_at c.in-Some.field-0.place c.args.now) (received_backlog c.self.inside.table c.self.inside.next_place c.in-Some.field-0.place c.args.now) no_rows c.self.inside.lists.items inside c.self.invariant.0 (c.receive-taken.ensures.table no_rows)),
      c.self.invariant.1 ∙ sym (ap length c.receive-taken.ensures.lists ∙ length-changed c.args.index (received_at c.in-Some.field-0.place c.args.now) c.self.inside.lists.items),
      rw c.receive-taken.ensures.lists (but_changed (received_at c.in-Some.field-0.place c.args.now) (received_home c.in-Some.field-0.place c.args.now) c.self.inside.outstanding.indexes c.args.index c.self.inside.lists.items c.self.invariant.2),
      c.self.invariant.3 ∙ sym (ap length c.receive-taken.ensures.lists ∙ length-changed c.args.index (received_at c.in-Some.field-0.place c.args.now) c.self.inside.lists.items),
      c.self.invariant.4,
      c.self.invariant.5,
    )

pub returns-in_default-clause-answer : goal.returns-in_default-clause-answer
returns-in_default-clause-answer c = λ p d is.
    let inside = within_shown c.self.inside.table c.self.inside.lists.items c.args.index (rw (← c.self.view_is) at c.requires.within) in
    rw (← c.self.view_is, get_or-map (shown c.self.inside.table) c.self.inside.lists.items c.args.index no_rows d inside) (told_none p c.self.inside.table c.self.inside.next_place c.args.now c.args.index no_rows c.self.inside.lists.items inside c.self.invariant.0 (picked_nothing p true c.self.inside.table c.self.inside.next_place c.args.now c.args.index no_rows c.self.inside.lists.items inside c.self.invariant.0 (subst (λ (o : Option Picked). IsPicked p true c.args.now (all_shown c.self.inside.table c.self.inside.lists.items) c.args.index o) (picked_absent c.args.picked c.in_default.not-Some) (rw (← c.self.view_is) at is))))

pub returns-in_default-clause-list : goal.returns-in_default-clause-list
returns-in_default-clause-list c = λ p is.
    let inside = within_shown c.self.inside.table c.self.inside.lists.items c.args.index (rw (← c.self.view_is) at c.requires.within) in
    rw (c.drop_expired.ensures.lists, ← c.self.view_is) (nothing_received p c.self.inside.table c.drop_expired.new.table c.self.inside.next_place c.args.now c.args.index no_rows c.self.inside.lists.items inside c.self.invariant.0 (c.drop_expired.ensures.rising no_rows) (c.drop_expired.ensures.table no_rows) (subst (λ (o : Option Picked). IsPicked p true c.args.now (all_shown c.self.inside.table c.self.inside.lists.items) c.args.index o) (picked_absent c.args.picked c.in_default.not-Some) (rw (← c.self.view_is) at is)))

pub returns-in_default-clause-room : goal.returns-in_default-clause-room
returns-in_default-clause-room c = rw (← c.self.view_is) ((c.drop_expired.ensures.table no_rows).messages.room)

pub returns-clause-list : goal.returns-clause-list
returns-clause-list c = λ p is.
    let inside = within_shown c.self.inside.table c.self.inside.lists.items c.args.index (rw (← c.self.view_is) at c.requires.within) in
    rw (c.receive-taken.ensures.lists, ← c.self.view_is) (received_seen p c.self.inside.table c.receive-taken.new.table c.self.inside.next_place c.in-Some.field-0.place c.args.now c.args.index no_rows c.self.inside.lists.items c.in-Some.field-0 refl inside c.self.invariant.0 (c.receive-taken.ensures.rising no_rows) (c.receive-taken.ensures.table no_rows) (subst (λ (o : Option Picked). IsPicked p true c.args.now (all_shown c.self.inside.table c.self.inside.lists.items) c.args.index o) c.in-Some.is (rw (← c.self.view_is) at is)))

pub returns-clause-room : goal.returns-clause-room
returns-clause-room c = rw (← c.self.view_is) ((c.receive-taken.ensures.table no_rows).messages.room)

pub returns-clause-answer : goal.returns-clause-answer
returns-clause-answer c = λ p d is.
    let inside = within_shown c.self.inside.table c.self.inside.lists.items c.args.index (rw (← c.self.view_is) at c.requires.within) in
    let one = picked_one p true c.self.inside.table c.self.inside.next_place c.args.now c.args.index no_rows c.self.inside.lists.items c.in-Some.field-0 inside c.self.invariant.0 (subst (λ (o : Option Picked). IsPicked p true c.args.now (all_shown c.self.inside.table c.self.inside.lists.items) c.args.index o) c.in-Some.is (rw (← c.self.view_is) at is)) in
    rw (← c.self.view_is, get_or-map (shown c.self.inside.table) c.self.inside.lists.items c.args.index no_rows d inside, c.handed_out.ensures) (told_taken p c.self.inside.table c.self.inside.next_place c.args.now c.args.index no_rows c.self.inside.lists.items c.receive-taken.result c.in-Some.field-0 one.0 inside c.self.invariant.0 (c.receive-taken.ensures.rising no_rows) (c.receive-taken.ensures.result no_rows) one.1)

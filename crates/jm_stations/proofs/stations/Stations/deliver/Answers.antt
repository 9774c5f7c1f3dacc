use Rattle.std.proofs.Common.{◌∙◌, refl, ap, get_or, false, sym, subst, length, Option}
use Rattle.std.proofs.lemmas.List.{get_or-map}
use Rattle.jm_stations.specs.declared.picked.Picked.{Picked}
use Rattle.jm_stations.specs.Backlogs.{IsPicked}
use Rattle.jm_stations.specs.Kept.{shown, all_shown, dropped, delivered_at}
use Rattle.jm_stations.proofs.Holders.{covers_one}
use Rattle.jm_stations.proofs.Shown.{dropped_backlog, delivered_backlog}
use Rattle.jm_stations.proofs.Receiving.{no_rows, within_shown, changed_kept, nothing_delivered, picked_absent, picked_nothing, picked_one, delivered_seen, told_none, told_sent}
use Rattle.jm_stations.proofs.Homes.{but_changed, but_sent, delivered_home, dropped_home}
use Rattle.jm_stations.proofs.Indexes.{length-changed}
use Rattle.jm_stations.proofs.stations.Stations.deliver.Goals as goal

pub drop_expired-requires-clause-covers : goal.drop_expired-requires-clause-covers
drop_expired-requires-clause-covers c = λ d.
    covers_one c.self.inside.table c.self.inside.lists.items c.args.index d (within_shown c.self.inside.table c.self.inside.lists.items c.args.index (rw (← c.self.view_is) at c.requires.within)) c.self.invariant.0.counted

pub deliver-row-requires-clause-covers : goal.deliver-row-requires-clause-covers
deliver-row-requires-clause-covers c = λ d.
    covers_one c.self.inside.table c.self.inside.lists.items c.args.index d (within_shown c.self.inside.table c.self.inside.lists.items c.args.index (rw (← c.self.view_is) at c.requires.within)) c.self.invariant.0.counted

pub invariant_of-self : goal.invariant_of-self
invariant_of-self c =
    let inside = within_shown c.self.inside.table c.self.inside.lists.items c.args.index (rw (← c.self.view_is) at c.requires.within) in (
      rw c.drop_expired.ensures.lists (changed_kept c.self.inside.table c.drop_expired.new.table c.self.inside.next_place c.args.index (dropped c.args.now) (dropped_backlog c.self.inside.table c.self.inside.next_place c.args.now) no_rows c.self.inside.lists.items inside c.self.invariant.0 (c.drop_expired.ensures.table no_rows)),
      c.self.invariant.1 ∙ sym (ap length c.drop_expired.ensures.lists ∙ length-changed c.args.index (dropped c.args.now) c.self.inside.lists.items),
      rw c.drop_expired.ensures.lists (but_changed (dropped c.args.now) (dropped_home c.args.now) c.self.inside.outstanding.indexes c.args.index c.self.inside.lists.items c.self.invariant.2),
      c.self.invariant.3 ∙ sym (ap length c.drop_expired.ensures.lists ∙ length-changed c.args.index (dropped c.args.now) c.self.inside.lists.items),
      c.self.invariant.4,
      c.self.invariant.5,
    )

pub invariant_of-self-2 : goal.invariant_of-self-2
invariant_of-self-2 c =
    let inside = within_shown c.self.inside.table c.self.inside.lists.items c.args.index (rw (← c.self.view_is) at c.requires.within) in (
      rw c.deliver-row.ensures.lists (changed_kept c.self.inside.table c.deliver-row.new.table c.self.inside.next_place c.args.index (delivered_at c.in-Some.field-0.place c.args.session c.args.consumer c.args.now) (delivered_backlog c.self.inside.table c.self.inside.next_place c.in-Some.field-0.place c.args.session c.args.consumer c.args.now) no_rows c.self.inside.lists.items inside c.self.invariant.0 (c.deliver-row.ensures.table no_rows)),
      c.add_where.ensures.number ∙ c.self.invariant.1 ∙ sym (ap length c.deliver-row.ensures.lists ∙ length-changed c.args.index (delivered_at c.in-Some.field-0.place c.args.session c.args.consumer c.args.now) c.self.inside.lists.items),
      rw c.deliver-row.ensures.lists (but_sent (delivered_at c.in-Some.field-0.place c.args.session c.args.consumer c.args.now) c.is_some.result c.self.inside.outstanding.indexes c.add_where.new.self.indexes c.args.index c.self.inside.lists.items (λ d none home. delivered_home c.in-Some.field-0.place c.args.session c.args.consumer c.args.now (get_or c.self.inside.lists.items c.args.index d) c.deliver-row.result c.is_some.result c.is_some.ensures (c.deliver-row.ensures.result d) none home) c.add_where.ensures.named c.self.invariant.2),
      c.self.invariant.3 ∙ sym (ap length c.deliver-row.ensures.lists ∙ length-changed c.args.index (delivered_at c.in-Some.field-0.place c.args.session c.args.consumer c.args.now) c.self.inside.lists.items),
      c.self.invariant.4,
      c.self.invariant.5,
    )

pub returns-in_default-clause-answer : goal.returns-in_default-clause-answer
returns-in_default-clause-answer c = λ p d is.
    let inside = within_shown c.self.inside.table c.self.inside.lists.items c.args.index (rw (← c.self.view_is) at c.requires.within) in
    rw (← c.self.view_is, get_or-map (shown c.self.inside.table) c.self.inside.lists.items c.args.index no_rows d inside) (told_none p c.self.inside.table c.self.inside.next_place c.args.now c.args.index no_rows c.self.inside.lists.items inside c.self.invariant.0 (picked_nothing p false c.self.inside.table c.self.inside.next_place c.args.now c.args.index no_rows c.self.inside.lists.items inside c.self.invariant.0 (subst (λ (o : Option Picked). IsPicked p false c.args.now (all_shown c.self.inside.table c.self.inside.lists.items) c.args.index o) (picked_absent c.args.picked c.in_default.not-Some) (rw (← c.self.view_is) at is))))

pub returns-in_default-clause-list : goal.returns-in_default-clause-list
returns-in_default-clause-list c = λ p is.
    let inside = within_shown c.self.inside.table c.self.inside.lists.items c.args.index (rw (← c.self.view_is) at c.requires.within) in
    rw (c.drop_expired.ensures.lists, ← c.self.view_is) (nothing_delivered p c.self.inside.table c.drop_expired.new.table c.self.inside.next_place c.args.session c.args.consumer c.args.now c.args.index no_rows c.self.inside.lists.items inside c.self.invariant.0 (c.drop_expired.ensures.rising no_rows) (c.drop_expired.ensures.table no_rows) (subst (λ (o : Option Picked). IsPicked p false c.args.now (all_shown c.self.inside.table c.self.inside.lists.items) c.args.index o) (picked_absent c.args.picked c.in_default.not-Some) (rw (← c.self.view_is) at is)))

pub returns-in_default-clause-room : goal.returns-in_default-clause-room
returns-in_default-clause-room c = rw (← c.self.view_is) ((c.drop_expired.ensures.table no_rows).messages.room)

pub returns-clause-list : goal.returns-clause-list
returns-clause-list c = λ p is.
    let inside = within_shown c.self.inside.table c.self.inside.lists.items c.args.index (rw (← c.self.view_is) at c.requires.within) in
    rw (c.deliver-row.ensures.lists, ← c.self.view_is) (delivered_seen p c.self.inside.table c.deliver-row.new.table c.self.inside.next_place c.in-Some.field-0.place c.args.session c.args.consumer c.args.now c.args.index no_rows c.self.inside.lists.items c.in-Some.field-0 refl inside c.self.invariant.0 (c.deliver-row.ensures.rising no_rows) (c.deliver-row.ensures.table no_rows) (subst (λ (o : Option Picked). IsPicked p false c.args.now (all_shown c.self.inside.table c.self.inside.lists.items) c.args.index o) c.in-Some.is (rw (← c.self.view_is) at is)))

pub returns-clause-room : goal.returns-clause-room
returns-clause-room c = rw (← c.self.view_is) ((c.deliver-row.ensures.table no_rows).messages.room)

pub returns-clause-answer : goal.returns-clause-answer
returns-clause-answer c = λ p d is.
    let inside = within_shown c.self.inside.table c.self.inside.lists.items c.args.index (rw (← c.self.view_is) at c.requires.within) in
    let one = picked_one p false c.self.inside.table c.self.inside.next_place c.args.now c.args.index no_rows c.self.inside.lists.items c.in-Some.field-0 inside c.self.invariant.0 (subst (λ (o : Option Picked). IsPicked p false c.args.now (all_shown c.self.inside.table c.self.inside.lists.items) c.args.index o) c.in-Some.is (rw (← c.self.view_is) at is)) in
    rw (← c.self.view_is, get_or-map (shown c.self.inside.table) c.self.inside.lists.items c.args.index no_rows d inside, c.sent_out.ensures) (told_sent p c.self.inside.table c.self.inside.next_place c.args.session c.args.consumer c.args.now c.args.index no_rows c.self.inside.lists.items c.deliver-row.result c.in-Some.field-0 one.0 inside c.self.invariant.0 (c.deliver-row.ensures.rising no_rows) (c.deliver-row.ensures.result no_rows) one.1)

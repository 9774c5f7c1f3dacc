use Rattle.jm_gaps.proofs.Items.{item_read}
use Rattle.jm_machine.specs.Machine.{are_meant}
use Rattle.jm_stations.specs.Backlogs as spec
use Rattle.jm_stations.specs.Kept.{settled_out}
use Rattle.jm_stations.proofs.Holders.{covers_one}
use Rattle.jm_stations.proofs.Each.{one_seen, settled_backlog, settled_shown}
use Rattle.jm_stations.proofs.Receiving.{changed_kept, no_rows, within_shown}
use Rattle.std.proofs.Common.{◌∙◌, sym, ap, length, ◌≡◌, true, subst, arith}
use Rattle.std.proofs.lemmas.List.{get_or_read}
use Rattle.jm_lane.specs.Rows.{are_home}
use Rattle.jm_pending.specs.Rows.{Held}
use Rattle.jm_stations.proofs.Homes.{but_changed, but_known, settled_home}
use Rattle.jm_stations.proofs.Indexes.{length-changed}
use Rattle.jm_stations.proofs.stations.Stations.settle_at.Goals as goal

pub settle_at-requires-clause-covers : goal.settle_at-requires-clause-covers
settle_at-requires-clause-covers c = λ d.
    covers_one c.self.inside.table c.self.inside.lists.items c.args.index d (within_shown c.self.inside.table c.self.inside.lists.items c.args.index (rw (← c.self.view_is) at c.requires)) c.self.invariant.0.counted

pub at-requires : goal.at-requires
at-requires c =
    let inside = within_shown c.self.inside.table c.self.inside.lists.items c.args.index (rw (← c.self.view_is) at c.requires) in
    omega (arith, inside, ap length c.settle_at.ensures.lists, length-changed c.args.index (settled_out (are_meant c.args.which.now)) c.self.inside.lists.items)

pub invariant_of-self : goal.invariant_of-self
invariant_of-self c =
    let t = c.self.inside.table in
    let lists = c.self.inside.lists.items in
    let p = are_meant c.args.which.now in
    let inside = within_shown t lists c.args.index (rw (← c.self.view_is) at c.requires) in (
      rw c.settle_at.ensures.lists (changed_kept t c.settle_at.new.table c.self.inside.next_place c.args.index (settled_out p) (settled_backlog t c.self.inside.next_place p) no_rows lists inside c.self.invariant.0 (c.settle_at.ensures.table no_rows)),
      c.remove_where.ensures.number ∙ c.self.invariant.1 ∙ sym (ap length c.settle_at.ensures.lists ∙ length-changed c.args.index (settled_out p) lists),
      but_known c.self.inside.outstanding.indexes c.remove_where.new.self.indexes c.is_home-is_home.result c.args.index c.settle_at.new.lists.items c.remove_where.ensures.named (λ d e l. subst (λ (h : Held). are_home h.rows ≡ true) (get_or_read c.settle_at.new.lists.items c.args.index c.at.result.now l (item_read c.settle_at.new.lists.items c.args.index c.at.result.now c.at.ensures) d) (sym c.is_home-is_home.ensures ∙ e)) (rw c.settle_at.ensures.lists (but_changed (settled_out p) (settled_home p) c.self.inside.outstanding.indexes c.args.index lists c.self.invariant.2)),
      c.self.invariant.3 ∙ sym (ap length c.settle_at.ensures.lists ∙ length-changed c.args.index (settled_out p) lists),
      c.self.invariant.4,
      c.self.invariant.5,
    )

pub returns-clause-list : goal.returns-clause-list
returns-clause-list c =
    let t = c.self.inside.table in
    let lists = c.self.inside.lists.items in
    let p = are_meant c.args.which.now in
    let inside = within_shown t lists c.args.index (rw (← c.self.view_is) at c.requires) in
    rw (c.settle_at.ensures.lists, ← c.self.view_is) (one_seen t c.settle_at.new.table c.self.inside.next_place c.args.index (settled_out p) (spec.settled p) (settled_backlog t c.self.inside.next_place p) (settled_shown t p) no_rows lists inside c.self.invariant.0 (c.settle_at.ensures.table no_rows))

pub returns-clause-room : goal.returns-clause-room
returns-clause-room c = rw (← c.self.view_is) ((c.settle_at.ensures.table no_rows).messages.room)

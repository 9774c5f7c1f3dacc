use Rattle.std.proofs.Common.{get_or, ◌∙◌, sym, ap, length, ◌≡◌, true, subst, arith}
use Rattle.jm_gaps.proofs.Items.{item_read}
use Rattle.jm_machine.specs.Machine.{are_meant}
use Rattle.jm_stations.specs.Backlogs as spec
use Rattle.jm_stations.specs.Kept.{given_back}
use Rattle.jm_stations.proofs.Each.{one_seen, returned_backlog, returned_follows, returned_shown}
use Rattle.jm_stations.proofs.Receiving.{changed_kept, no_rows, within_shown}
use Rattle.std.proofs.lemmas.List.{get_or_read}
use Rattle.jm_lane.specs.Rows.{are_home}
use Rattle.jm_pending.specs.Rows.{Held}
use Rattle.jm_stations.proofs.Homes.{but_changed, but_known, returned_home}
use Rattle.jm_stations.proofs.Indexes.{length-changed}
use Rattle.jm_stations.proofs.stations.Stations.give_back_at.Goals as goal

pub at-requires : goal.at-requires
at-requires c =
    let inside = within_shown c.self.inside.table c.self.inside.lists.items c.args.index (rw (← c.self.view_is) at c.requires) in
    omega (arith, inside, ap length c.give_back_at.ensures, length-changed c.args.index (given_back (are_meant c.args.which.now)) c.self.inside.lists.items)

pub invariant_of-self : goal.invariant_of-self
invariant_of-self c =
    let t = c.self.inside.table in
    let lists = c.self.inside.lists.items in
    let p = are_meant c.args.which.now in
    let inside = within_shown t lists c.args.index (rw (← c.self.view_is) at c.requires) in (
      rw c.give_back_at.ensures (changed_kept t t c.self.inside.next_place c.args.index (given_back p) (returned_backlog t c.self.inside.next_place p) no_rows lists inside c.self.invariant.0 (returned_follows t p (get_or lists c.args.index no_rows))),
      c.remove_where.ensures.number ∙ c.self.invariant.1 ∙ sym (ap length c.give_back_at.ensures ∙ length-changed c.args.index (given_back p) lists),
      but_known c.self.inside.outstanding.indexes c.remove_where.new.self.indexes c.is_home-is_home.result c.args.index c.give_back_at.new.lists.items c.remove_where.ensures.named (λ d e l. subst (λ (h : Held). are_home h.rows ≡ true) (get_or_read c.give_back_at.new.lists.items c.args.index c.at.result.now l (item_read c.give_back_at.new.lists.items c.args.index c.at.result.now c.at.ensures) d) (sym c.is_home-is_home.ensures ∙ e)) (rw c.give_back_at.ensures (but_changed (given_back p) (returned_home p) c.self.inside.outstanding.indexes c.args.index lists c.self.invariant.2)),
      c.self.invariant.3 ∙ sym (ap length c.give_back_at.ensures ∙ length-changed c.args.index (given_back p) lists),
      c.self.invariant.4,
      c.self.invariant.5,
    )

pub returns-clause-list : goal.returns-clause-list
returns-clause-list c =
    let t = c.self.inside.table in
    let lists = c.self.inside.lists.items in
    let p = are_meant c.args.which.now in
    let inside = within_shown t lists c.args.index (rw (← c.self.view_is) at c.requires) in
    rw (c.give_back_at.ensures, ← c.self.view_is) (one_seen t t c.self.inside.next_place c.args.index (given_back p) (spec.returned p) (returned_backlog t c.self.inside.next_place p) (returned_shown t p) no_rows lists inside c.self.invariant.0 (returned_follows t p (get_or lists c.args.index no_rows)))

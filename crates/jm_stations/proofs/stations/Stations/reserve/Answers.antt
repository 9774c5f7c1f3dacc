use Rattle.std.proofs.Common.{◌≤◌, ◌<◌, List, subst, get_or, length, arith, ◌∙◌, sym}
use Rattle.std.specs.List.{All}
use Rattle.jm_stations.specs.Backlogs as spec
use Rattle.jm_stations.specs.Backlogs.{Backlog}
use Rattle.jm_stations.specs.Kept.{all_shown}
use Rattle.jm_stations.proofs.Room.{table_kept, lists_kept, table_shown, lists_shown, named_shown, on_ok}
use Rattle.jm_stations.proofs.Receiving.{within_shown}
use Rattle.jm_pending.specs.Rows.{Held}
use Rattle.jm_stations.proofs.Homes.{but_roomier}
use Rattle.jm_stations.proofs.stations.Stations.reserve.Goals as goal

pub invariant_of-self : goal.invariant_of-self
invariant_of-self c = (
  table_kept c.self.inside.table c.reserve.new.self c.self.inside.next_place c.self.inside.lists.items c.reserve.ensures.same c.self.invariant.0,
  c.self.invariant.1,
  c.self.invariant.2,
  c.self.invariant.3,
  c.self.invariant.4,
  c.self.invariant.5,
)

pub invariant_of-self-2 : goal.invariant_of-self-2
invariant_of-self-2 c =
    let kept = table_kept c.self.inside.table c.reserve.new.self c.self.inside.next_place c.self.inside.lists.items c.reserve.ensures.same c.self.invariant.0 in (
      lists_kept c.reserve.new.self c.self.inside.next_place c.self.inside.lists.items c.reserve_each.new.lists.items c.reserve_each.ensures.lists kept,
      c.self.invariant.1 ∙ sym c.reserve_each.ensures.lists.number,
      but_roomier c.self.inside.outstanding.indexes c.self.inside.lists.items c.reserve_each.new.lists.items c.reserve_each.ensures.lists c.self.invariant.2,
      c.self.invariant.3 ∙ sym c.reserve_each.ensures.lists.number,
      c.self.invariant.4,
      c.self.invariant.5,
    )

pub returns-clause-list : goal.returns-clause-list
returns-clause-list c =
    let t = c.self.inside.table in
    let t' = c.reserve.new.self in
    let lists = c.self.inside.lists.items in
    let after = c.reserve_each.new.lists.items in
    rw (← c.self.view_is) (subst (λ (old : List Backlog). spec.HasMoreRoom old (all_shown t' after)) (table_shown t t' lists c.reserve.ensures.same) (lists_shown t' lists after c.reserve_each.ensures.lists))

pub returns-clause-rows : goal.returns-clause-rows
returns-clause-rows c =
    let t = c.self.inside.table in
    let t' = c.reserve.new.self in
    let lists = c.self.inside.lists.items in
    let after = c.reserve_each.new.lists.items in
    let n = c.args.additional in
    let is = c.args.indexes.now in
    let asked : All (λ i. i < length (all_shown t lists)) is = rw (← c.self.view_is) at c.requires.within in
    let within : All (λ i. i < length after) is = λ k d l. let inside = within_shown t lists (get_or is k d) (asked k d l) in omega (arith, c.reserve_each.ensures.lists.number, inside) in
    on_ok c.reserve_each.result (All (λ i. (d : Held) → n ≤ (get_or after i d).room) is) (All (λ i. (d : Backlog) → n ≤ (get_or (all_shown t' after) i d).room) is) (λ h. named_shown t' n is after within h) c.reserve_each.ensures.ok

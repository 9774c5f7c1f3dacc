use Rattle.std.proofs.Common.{◌≡◌, ◌∙◌, refl, arith, sym, ap, Some, None, option_map}
use Rattle.std.specs.List.{filter, find}
use Rattle.std.proofs.lemmas.List.Elements.{filter-append}
use Rattle.jm_lane.specs.declared.row.Row.{Row}
use Rattle.jm_lane.specs.Rows.{counted, is_elsewhere, stays}
use Rattle.jm_lane.specs.Holders.{last_message}
use Rattle.jm_lane.specs.Lanes.{is_at}
use Rattle.jm_lanes.specs.Lanes.{all_rows, rows_of}
use Rattle.jm_lanes.proofs.Edited.{all_rows_each}
use Rattle.jm_lane.proofs.Holding.{covers_after, follows_then, filter_count}
use Rattle.jm_lanes.proofs.Found.{found_place}
use Rattle.jm_lanes.proofs.Holding.{covers_all, first_holder, first_message, first_settled, follows_all}
use Rattle.jm_lanes.proofs.Keeping.{held_filter}
use Rattle.jm_lanes.proofs.Places.{apart_from_rising}
use Rattle.jm_pending.proofs.Taking.{dropped, dropped_apart, found_dropped, none_left, removed_held}
use Rattle.jm_lanes.proofs.Pushing.{few_rows}
use Rattle.jm_pending.proofs.Receiving.{follows_still, known_filter}
use Rattle.jm_pending.proofs.Number.{kept_number, removed_number}
use Rattle.jm_pending.proofs.held.Held.receive_at.Goals as goal

pub drop_expired-self-inside-requires-clause-covered : goal.drop_expired-self-inside-requires-clause-covered
drop_expired-self-inside-requires-clause-covered c = covers_all c.args.table.now c.self.inside.lanes (rw (← c.self.view_is) at c.requires)

pub drop_expired-self-inside-requires-clause-few : goal.drop_expired-self-inside-requires-clause-few
drop_expired-self-inside-requires-clause-few c = omega (arith, few_rows c.self.inside.lanes c.self.inside.room c.self.invariant.0)

pub remove_at-requires : goal.remove_at-requires
remove_at-requires c = dropped_apart c.args.now c.self.inside.lanes c.drop_expired-self-inside.new.self c.self.inside.room c.self.invariant.0 c.drop_expired-self-inside.ensures.rows

pub invariant_of-self : goal.invariant_of-self
invariant_of-self c =
    let xs = c.self.inside.lanes in
    let ys = c.drop_expired-self-inside.new.self in
    let zs = c.remove_at.new.self in
    let out = removed_held c.args.now c.args.place xs ys zs c.self.inside.room c.self.invariant.0 c.drop_expired-self-inside.ensures.rows c.remove_at.ensures.rows in
    let kept = held_filter (stays c.args.now) xs ys c.self.inside.room c.self.invariant.0 c.drop_expired-self-inside.ensures.rows in (
      out.0,
      known_filter c.self.inside.receivers (is_elsewhere c.args.place) (rows_of ys) (rows_of zs) (rw kept.1 out.1) (known_filter c.self.inside.receivers (stays c.args.now) (rows_of xs) (rows_of ys) kept.1 c.self.invariant.1),
      c.drop_expired-self-inside.ensures.left ∙ sym (kept_number c.args.place ys zs (sym c.remove_at.ensures.result ∙ c.in_err-row.was) c.remove_at.ensures.rows),
    )

pub invariant_of-self-2 : goal.invariant_of-self-2
invariant_of-self-2 c =
    let xs = c.self.inside.lanes in
    let ys = c.drop_expired-self-inside.new.self in
    let zs = c.remove_at.new.self in
    let out = removed_held c.args.now c.args.place xs ys zs c.self.inside.room c.self.invariant.0 c.drop_expired-self-inside.ensures.rows c.remove_at.ensures.rows in
    let kept = held_filter (stays c.args.now) xs ys c.self.inside.room c.self.invariant.0 c.drop_expired-self-inside.ensures.rows in (
      out.0,
      known_filter c.self.inside.receivers (is_elsewhere c.args.place) (rows_of ys) (rows_of zs) (rw kept.1 out.1) (known_filter c.self.inside.receivers (stays c.args.now) (rows_of xs) (rows_of ys) kept.1 c.self.invariant.1),
      omega (arith, c.drop_expired-self-inside.ensures.left, removed_number c.args.place c.in_ok-row.row ys zs (dropped_apart c.args.now xs ys c.self.inside.room c.self.invariant.0 c.drop_expired-self-inside.ensures.rows) (sym c.remove_at.ensures.result ∙ c.in_ok-row.was) c.remove_at.ensures.rows),
    )

pub overflow_sub-self : goal.overflow_sub-self
overflow_sub-self c =
    omega (arith, c.drop_expired-self-inside.ensures.left, removed_number c.args.place c.in_ok-row.row c.drop_expired-self-inside.new.self c.remove_at.new.self (dropped_apart c.args.now c.self.inside.lanes c.drop_expired-self-inside.new.self c.self.inside.room c.self.invariant.0 c.drop_expired-self-inside.ensures.rows) (sym c.remove_at.ensures.result ∙ c.in_ok-row.was) c.remove_at.ensures.rows)

pub returns-in_err-row-clause-result : goal.returns-in_err-row-clause-result
returns-in_err-row-clause-result c =
    let none = sym (found_dropped c.args.place c.args.now c.self.inside.lanes c.drop_expired-self-inside.new.self c.self.inside.room c.self.invariant.0 c.drop_expired-self-inside.ensures.rows) ∙ sym c.remove_at.ensures.result ∙ c.in_err-row.was in
    rw (← c.self.view_is, none) c.from_residual.ensures

pub returns-in_err-row-clause-rows : goal.returns-in_err-row-clause-rows
returns-in_err-row-clause-rows c =
    rw (← c.self.view_is, (removed_held c.args.now c.args.place c.self.inside.lanes c.drop_expired-self-inside.new.self c.remove_at.new.self c.self.inside.room c.self.invariant.0 c.drop_expired-self-inside.ensures.rows c.remove_at.ensures.rows).1) refl

pub returns-in_err-row-clause-table : goal.returns-in_err-row-clause-table
returns-in_err-row-clause-table c =
    let same = none_left c.args.place c.drop_expired-self-inside.new.self c.remove_at.new.self (sym c.remove_at.ensures.result ∙ c.in_err-row.was) c.remove_at.ensures.rows in
    rw (← c.self.view_is) (follows_all c.args.table.now c.drop_expired-self-inside.new.table c.self.inside.lanes c.remove_at.new.self (rw same c.drop_expired-self-inside.ensures.table))

pub release-message-requires : goal.release-message-requires
release-message-requires c =
    let ys = all_rows c.drop_expired-self-inside.new.self in
    let found : find (is_at c.args.place) ys ≡ Some c.in_ok-row.row = sym c.remove_at.ensures.result ∙ c.in_ok-row.was in
    let apart' = dropped_apart c.args.now c.self.inside.lanes c.drop_expired-self-inside.new.self c.self.inside.room c.self.invariant.0 c.drop_expired-self-inside.ensures.rows in
    let covered = covers_after c.args.table.now c.drop_expired-self-inside.new.table (all_rows c.self.inside.lanes) ys (covers_all c.args.table.now c.self.inside.lanes (rw (← c.self.view_is) at c.requires)) c.drop_expired-self-inside.ensures.table in
    rw (found_place c.args.place ys c.in_ok-row.row found) at (first_holder (is_at c.args.place) c.drop_expired-self-inside.new.table ys c.in_ok-row.row apart' found covered)

pub returns-clause-result : goal.returns-clause-result
returns-clause-result c =
    let xs = all_rows c.self.inside.lanes in
    let ys = all_rows c.drop_expired-self-inside.new.self in
    let row : Row = c.in_ok-row.row in
    let found : find (is_at c.args.place) ys ≡ Some row = sym c.remove_at.ensures.result ∙ c.in_ok-row.was in
    let is = dropped c.args.now c.self.inside.lanes c.drop_expired-self-inside.new.self c.drop_expired-self-inside.ensures.rows in
    let apart' = dropped_apart c.args.now c.self.inside.lanes c.drop_expired-self-inside.new.self c.self.inside.room c.self.invariant.0 c.drop_expired-self-inside.ensures.rows in
    let message : last_message c.drop_expired-self-inside.new.table c.args.place ≡ last_message c.args.table.now row.place =
    rw (← found_place c.args.place ys row found) (first_message (is_at c.args.place) c.args.table.now c.drop_expired-self-inside.new.table xs (stays c.args.now) row (apart_from_rising xs c.self.invariant.0.rising) (rw (← is) apart') (rw (← is) found) (covers_all c.args.table.now c.self.inside.lanes (rw (← c.self.view_is) at c.requires)) (rw (← is) c.drop_expired-self-inside.ensures.table)) in
    let there = sym (found_dropped c.args.place c.args.now c.self.inside.lanes c.drop_expired-self-inside.new.self c.self.inside.room c.self.invariant.0 c.drop_expired-self-inside.ensures.rows) ∙ found in
    rw (← c.self.view_is, there, c.counted.ensures, c.release-message.ensures.result, message) refl

pub returns-clause-rows : goal.returns-clause-rows
returns-clause-rows c =
    rw (← c.self.view_is, (removed_held c.args.now c.args.place c.self.inside.lanes c.drop_expired-self-inside.new.self c.remove_at.new.self c.self.inside.room c.self.invariant.0 c.drop_expired-self-inside.ensures.rows c.remove_at.ensures.rows).1) refl

pub returns-clause-table : goal.returns-clause-table
returns-clause-table c =
    let xs = all_rows c.self.inside.lanes in
    let ys = all_rows c.drop_expired-self-inside.new.self in
    let zs = all_rows c.remove_at.new.self in
    let row : Row = c.in_ok-row.row in
    let found : find (is_at c.args.place) ys ≡ Some row = sym c.remove_at.ensures.result ∙ c.in_ok-row.was in
    let place = found_place c.args.place ys row found in
    let apart' = dropped_apart c.args.now c.self.inside.lanes c.drop_expired-self-inside.new.self c.self.inside.room c.self.invariant.0 c.drop_expired-self-inside.ensures.rows in
    let left : zs ≡ filter (is_elsewhere c.args.place) ys = all_rows_each (filter (is_elsewhere c.args.place)) refl (filter-append (is_elsewhere c.args.place)) c.drop_expired-self-inside.new.self c.remove_at.new.self c.remove_at.ensures.rows in
    let gone = rw place at (first_settled (is_at c.args.place) c.drop_expired-self-inside.new.table c.release-message.new.self ys row apart' found (rw place c.release-message.ensures.holders) c.release-message.ensures.messages) in
    rw (← c.self.view_is) (follows_all c.args.table.now c.release-message.new.self c.self.inside.lanes c.remove_at.new.self (follows_then c.args.table.now c.drop_expired-self-inside.new.table c.release-message.new.self xs ys zs (λ p. rw left (filter_count (is_elsewhere c.args.place) p ys)) c.drop_expired-self-inside.ensures.table (rw left gone)))

pub returns-then-is_empty-clause-result : goal.returns-then-is_empty-clause-result
returns-then-is_empty-clause-result c = rw (c.is_empty.ensures c.if-is_empty.true) refl

pub returns-then-is_empty-clause-rows : goal.returns-then-is_empty-clause-rows
returns-then-is_empty-clause-rows c =
    let none = rw (← c.self.view_is) at (c.is_empty.ensures c.if-is_empty.true) in
    rw (← c.self.view_is, none) refl

pub returns-then-is_empty-clause-table : goal.returns-then-is_empty-clause-table
returns-then-is_empty-clause-table c = follows_still _ _ _ refl

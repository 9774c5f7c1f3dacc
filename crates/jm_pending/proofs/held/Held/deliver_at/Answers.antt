use Rattle.std.proofs.Common.{◌∙◌, arith, refl, sym, ap, option_map}
use Rattle.jm_lane.specs.Rows.{sent, stays}
use Rattle.jm_lanes.proofs.Holding.{covers_all, follows_sent}
use Rattle.jm_lanes.proofs.Keeping.{held_filter}
use Rattle.jm_lanes.proofs.Pushing.{few_rows}
use Rattle.jm_lanes.specs.Lanes.{rows_of}
use Rattle.jm_pending.proofs.Taking.{dropped_apart, found_dropped, sent_held}
use Rattle.jm_pending.proofs.Receiving.{follows_still, known_filter, known_sent}
use Rattle.jm_pending.proofs.Number.{sent_number}
use Rattle.jm_pending.proofs.held.Held.deliver_at.Goals as goal

pub send_at-requires : goal.send_at-requires
send_at-requires c = dropped_apart c.args.now c.self.inside.lanes c.drop_expired-self-inside.new.self c.self.inside.room c.self.invariant.0 c.drop_expired-self-inside.ensures.rows

pub invariant_of-self : goal.invariant_of-self
invariant_of-self c =
    let xs = c.self.inside.lanes in
    let ys = c.drop_expired-self-inside.new.self in
    let out = sent_held c.args.now c.args.place c.args.session c.args.consumer xs ys c.send_at.new.self c.self.inside.room c.self.invariant.0 c.drop_expired-self-inside.ensures.rows c.send_at.ensures.rows in
    let kept = held_filter (stays c.args.now) xs ys c.self.inside.room c.self.invariant.0 c.drop_expired-self-inside.ensures.rows in (
      out.0,
      known_sent c.self.inside.receivers c.with_one-self-inside.result c.args.place c.args.session c.args.consumer (rows_of ys) (rows_of c.send_at.new.self) (rw kept.1 out.1) c.with_one-self-inside.ensures.row c.with_one-self-inside.ensures.others (known_filter c.self.inside.receivers (stays c.args.now) (rows_of xs) (rows_of ys) kept.1 c.self.invariant.1),
      c.drop_expired-self-inside.ensures.left ∙ sym (sent_number c.args.session c.args.consumer c.args.place ys c.send_at.new.self c.send_at.ensures.rows),
    )

pub drop_expired-self-inside-requires-clause-covered : goal.drop_expired-self-inside-requires-clause-covered
drop_expired-self-inside-requires-clause-covered c = covers_all c.args.table.now c.self.inside.lanes (rw (← c.self.view_is) at c.requires)

pub returns-clause-result : goal.returns-clause-result
returns-clause-result c =
    rw (← c.self.view_is) (c.send_at.ensures.result ∙ ap (option_map (sent c.args.session c.args.consumer)) (found_dropped c.args.place c.args.now c.self.inside.lanes c.drop_expired-self-inside.new.self c.self.inside.room c.self.invariant.0 c.drop_expired-self-inside.ensures.rows))

pub returns-clause-rows : goal.returns-clause-rows
returns-clause-rows c =
    rw (← c.self.view_is, (sent_held c.args.now c.args.place c.args.session c.args.consumer c.self.inside.lanes c.drop_expired-self-inside.new.self c.send_at.new.self c.self.inside.room c.self.invariant.0 c.drop_expired-self-inside.ensures.rows c.send_at.ensures.rows).1) refl

pub returns-clause-table : goal.returns-clause-table
returns-clause-table c =
    rw (← c.self.view_is) (follows_sent c.args.table.now c.drop_expired-self-inside.new.table c.args.session c.args.consumer c.args.place c.self.inside.lanes c.drop_expired-self-inside.new.self c.send_at.new.self c.send_at.ensures.rows c.drop_expired-self-inside.ensures.table)

pub drop_expired-self-inside-requires-clause-few : goal.drop_expired-self-inside-requires-clause-few
drop_expired-self-inside-requires-clause-few c = omega (arith, few_rows c.self.inside.lanes c.self.inside.room c.self.invariant.0)

pub returns-then-is_empty-clause-result : goal.returns-then-is_empty-clause-result
returns-then-is_empty-clause-result c = rw (c.is_empty.ensures c.if-is_empty.true) refl

pub returns-then-is_empty-clause-rows : goal.returns-then-is_empty-clause-rows
returns-then-is_empty-clause-rows c =
    let none = rw (← c.self.view_is) at (c.is_empty.ensures c.if-is_empty.true) in
    rw (← c.self.view_is, none) refl

pub returns-then-is_empty-clause-table : goal.returns-then-is_empty-clause-table
returns-then-is_empty-clause-table c = follows_still _ _ _ refl

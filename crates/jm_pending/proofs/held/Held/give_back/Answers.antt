use Rattle.std.proofs.Common.{refl, ◌∙◌, ap, length, sym}
use Rattle.jm_machine.specs.Machine.{are_meant}
use Rattle.jm_lane.specs.Rows.{back, is_out}
use Rattle.jm_lanes.specs.Lanes.{rows_of}
use Rattle.jm_lane.proofs.Steps.{back_place, back_priority}
use Rattle.jm_lanes.proofs.Keeping.{held_map}
use Rattle.jm_pending.proofs.Receiving.{known_back, none_back, known_no_rows}
use Rattle.std.proofs.lemmas.List.{length-map}
use Rattle.jm_pending.specs.declared.receivers.Receivers.TheVariants.{Nobody}
use Rattle.jm_pending.proofs.held.Held.give_back.Goals as goal

pub invariant_of-self-then-include : goal.invariant_of-self-then-include
invariant_of-self-then-include c =
    let p = are_meant c.args.which.now in
    let kept = held_map (back (is_out p)) (back_place (is_out p)) (back_priority (is_out p)) c.self.inside.lanes c.give_back.new.self c.self.inside.room c.self.invariant.0 c.give_back.ensures in
    (kept.0, known_back p c.self.inside.receivers c.without-self-inside.result (rows_of c.self.inside.lanes) (rows_of c.give_back.new.self) kept.1 c.without-self-inside.ensures c.self.invariant.1, c.self.invariant.2 ∙ sym (ap length kept.1 ∙ length-map (rows_of c.self.inside.lanes) (back (is_out p))))

pub returns-then-include : goal.returns-then-include
returns-then-include c =
    let p = are_meant c.args.which.now in
    rw (← c.self.view_is, (held_map (back (is_out p)) (back_place (is_out p)) (back_priority (is_out p)) c.self.inside.lanes c.give_back.new.self c.self.inside.room c.self.invariant.0 c.give_back.ensures).1) refl

pub returns-else-include : goal.returns-else-include
returns-else-include c =
    rw (← c.self.view_is, none_back (are_meant c.args.which.now) c.self.inside.receivers (rows_of c.self.inside.lanes) (c.include.ensures c.if-include.false) c.self.invariant.1) refl

pub returns-then-is_empty : goal.returns-then-is_empty
returns-then-is_empty c =
    let none = rw (← c.self.view_is) at (c.is_empty.ensures c.if-is_empty.true) in
    rw (← c.self.view_is, none) refl

pub invariant_of-self : goal.invariant_of-self
invariant_of-self c =
    let none = rw (← c.self.view_is) at (c.is_empty.ensures c.if-is_empty.true) in
    (c.self.invariant.0, known_no_rows Nobody (rows_of c.self.inside.lanes) none, c.self.invariant.2)

use Rattle.std.proofs.Common.{refl, ◌∙◌, ap, length, sym}
use Rattle.jm_lane.proofs.Steps.{back_place, back_priority}
use Rattle.jm_lane.specs.declared.row.Outs.TheVariants.{Through}
use Rattle.jm_lane.specs.Rows.{is_among, back}
use Rattle.jm_lanes.specs.Lanes.{rows_of}
use Rattle.jm_lanes.proofs.Keeping.{held_map}
use Rattle.jm_pending.proofs.Receiving.{known_back_same}
use Rattle.std.proofs.lemmas.List.{length-map}
use Rattle.jm_pending.proofs.held.Held.give_back_one.Goals as goal

pub invariant_of-self : goal.invariant_of-self
invariant_of-self c =
    let kept = held_map _ (back_place _) (back_priority _) c.self.inside.lanes c.give_back.new.self c.self.inside.room c.self.invariant.0 c.give_back.ensures in
    (kept.0, known_back_same (is_among (Through c.args.session c.args.consumer c.args.place)) c.self.inside.receivers (rows_of c.self.inside.lanes) (rows_of c.give_back.new.self) kept.1 c.self.invariant.1, c.self.invariant.2 ∙ sym (ap length kept.1 ∙ length-map (rows_of c.self.inside.lanes) (back (is_among (Through c.args.session c.args.consumer c.args.place)))))

pub returns : goal.returns
returns c =
    rw (← c.self.view_is, (held_map _ (back_place _) (back_priority _) c.self.inside.lanes c.give_back.new.self c.self.inside.room c.self.invariant.0 c.give_back.ensures).1) refl

pub returns-then-is_empty : goal.returns-then-is_empty
returns-then-is_empty c =
    let none = rw (← c.self.view_is) at (c.is_empty.ensures c.if-is_empty.true) in
    rw (← c.self.view_is, none) refl

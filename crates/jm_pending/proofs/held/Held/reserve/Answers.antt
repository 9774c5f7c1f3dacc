use Rattle.std.proofs.Common.{◌<◌, length, refl, ◌∙◌, arith, ap, sym}
use Rattle.jm_lanes.proofs.Keeping.{held_same, held_room}
use Rattle.jm_pending.proofs.Receiving.{known_same}
use Rattle.jm_pending.proofs.held.Held.reserve.Goals as goal

pub invariant_of-self : goal.invariant_of-self
invariant_of-self c = (c.make.ensures.held c.self.inside.room c.self.invariant.0, known_same _ _ _ c.make.ensures.rows c.self.invariant.1, c.self.invariant.2 ∙ sym (ap length c.make.ensures.rows))

pub returns-in_err-make-clause-same : goal.returns-in_err-make-clause-same
returns-in_err-make-clause-same c = rw (← c.self.view_is, c.make.ensures.rows) refl

pub invariant_of-self-in_err-reserve : goal.invariant_of-self-in_err-reserve
invariant_of-self-in_err-reserve c =
    let made = c.make.ensures.held c.self.inside.room c.self.invariant.0 in
    let kept = held_same c.make.new.self c.reserve.new.self c.self.inside.room made c.reserve.ensures.same in
    (kept.0, known_same _ _ _ (kept.1 ∙ c.make.ensures.rows) c.self.invariant.1, c.self.invariant.2 ∙ sym (ap length (kept.1 ∙ c.make.ensures.rows)))

pub returns-in_err-reserve-clause-same : goal.returns-in_err-reserve-clause-same
returns-in_err-reserve-clause-same c =
    let made = c.make.ensures.held c.self.inside.room c.self.invariant.0 in
    let kept = held_same c.make.new.self c.reserve.new.self c.self.inside.room made c.reserve.ensures.same in
    rw (← c.self.view_is, kept.1, c.make.ensures.rows) refl

pub invariant_of-self-2 : goal.invariant_of-self-2
invariant_of-self-2 c =
    let made = c.make.ensures.held c.self.inside.room c.self.invariant.0 in
    let same = c.reserve.ensures.same in
    let kept = held_same c.make.new.self c.reserve.new.self c.self.inside.room made same in
    let there : 0 < length c.reserve.new.self = omega (arith, same.len, c.in_ok-make.ensures.there) in
    (held_room c.reserve.new.self c.self.inside.room c.args.additional kept.0 there c.in_ok-reserve.ensures.ok, known_same _ _ _ (kept.1 ∙ c.make.ensures.rows) c.self.invariant.1, c.self.invariant.2 ∙ sym (ap length (kept.1 ∙ c.make.ensures.rows)))

pub returns-clause-same : goal.returns-clause-same
returns-clause-same c =
    let made = c.make.ensures.held c.self.inside.room c.self.invariant.0 in
    let kept = held_same c.make.new.self c.reserve.new.self c.self.inside.room made c.reserve.ensures.same in
    rw (← c.self.view_is, kept.1, c.make.ensures.rows) refl

use Rattle.std.proofs.Common.{arith, refl}
use Rattle.jm_plans.proofs.Opens.{opens}
use Rattle.jm_plans.proofs.Sound.{sound_none}
use Rattle.jm_plans.proofs.state.CoreState.new.Goals as goal

pub invariant_of-result : goal.invariant_of-result
invariant_of-result c = (
  rw (c.new-2.ensures.consumers, c.new-3.ensures, c.new-4.ensures.keys, c.new-4.ensures.list, c.new-4.ensures.next_place) (sound_none c.args.held_limit),
  omega (arith, c.new-4.ensures.next_place, c.new-5.ensures.next_place),
)

pub returns : goal.returns
returns c = (
  rw (c.in_ok-opening.ensures.0, c.new-2.ensures.life, c.new-2.ensures.consumers, c.new-3.ensures, c.new-4.ensures.next_place, c.new-5.ensures.keys) refl,
  opens c.args.opening c.args.held_limit c.is_limit.result c.in_ok-opening.ensures.1 c.is_limit.ensures c.if-not-is_limit.false,
)

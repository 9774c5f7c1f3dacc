use Rattle.std.proofs.Common.{◌∙◌, ap}
use Rattle.jm_machine.specs.Machine.{set_listening}
use Rattle.jm_session.specs.Known.{Listed}
use Rattle.jm_session.proofs.roster.Roster.set_listening.Goals as goal

pub invariant_of-self : goal.invariant_of-self
invariant_of-self c = (
  (c.mark_listening.ensures.entries c.self.invariant.0).1,
  c.mark_listening.ensures.counted c.self.inside.attached c.self.invariant.1,
  c.self.invariant.2,
  c.mark_listening.ensures.active c.self.inside.active c.self.invariant.3,
)

pub returns-clause-consumers : goal.returns-clause-consumers
returns-clause-consumers c =
    (c.mark_listening.ensures.entries c.self.invariant.0).0
    ∙ ap (λ (k : Listed). set_listening c.args.session.now c.args.id c.args.on k.consumers) c.self.view_is

use Rattle.std.proofs.Common.{◌∙◌, ap, arith}
use Rattle.std.specs.Prelude.{map}
use Rattle.jm_machine.specs.Machine.{closed_consumer, of_number}
use Rattle.jm_session.specs.Known.{Listed}
use Rattle.jm_session.proofs.roster.Roster.close_one.Goals as goal

pub invariant_of-self : goal.invariant_of-self
invariant_of-self c = (
  c.close_consumer.ensures.numbered,
  c.close_consumer.ensures.counted,
  omega (arith, c.self.invariant.2, c.close_consumer.ensures.counts_spare),
  c.close_consumer.ensures.active,
)

pub returns-clause-consumers : goal.returns-clause-consumers
returns-clause-consumers c =
    c.close_consumer.ensures.values
    ∙ ap (λ (k : Listed). map (closed_consumer (of_number c.args.session.now c.args.id)) k.consumers) c.self.view_is

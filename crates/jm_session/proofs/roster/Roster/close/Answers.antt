use Rattle.std.proofs.Common.{◌∙◌, ap, arith}
use Rattle.std.specs.Prelude.{map}
use Rattle.jm_machine.specs.Machine.{are_meant, closed_consumer}
use Rattle.jm_session.specs.Known.{Listed}
use Rattle.jm_session.proofs.roster.Roster.close.Goals as goal

pub invariant_of-self : goal.invariant_of-self
invariant_of-self c = (
  c.close_consumers.ensures.numbered,
  c.close_consumers.ensures.counted,
  omega (arith, c.self.invariant.2, c.close_consumers.ensures.counts_spare),
  c.close_consumers.ensures.active,
)

pub returns-clause-consumers : goal.returns-clause-consumers
returns-clause-consumers c =
    c.close_consumers.ensures.values
    ∙ ap (λ (k : Listed). map (closed_consumer (are_meant c.args.which.now)) k.consumers) c.self.view_is

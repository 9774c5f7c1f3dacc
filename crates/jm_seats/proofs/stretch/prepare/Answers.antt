use Rattle.std.proofs.Common.{◌∙◌}
use Rattle.jm_seats.proofs.Places.{mapped_ok}
use Rattle.jm_seats.proofs.stretch.prepare.Goals as goal

pub returns-clause-calls : goal.returns-clause-calls
returns-clause-calls g c = mapped_ok c.lay_out.result (λ laid k d less. laid k d c.args.calls less ∙ c.in_ok-parts.ensures.parts k c.args.calls less) c.lay_out.ensures.calls

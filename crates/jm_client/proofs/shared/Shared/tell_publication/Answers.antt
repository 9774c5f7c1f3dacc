use Rattle.jm_plans.specs.Provider.{state_of}
use Rattle.jm_client.proofs.shared.Shared.tell_publication.Goals as goal

pub returns : goal.returns
returns g c = record { state = state_of c.args.self.now.core; reached = c.law_reached.ensures; fits = c.publish.ensures.told }

use Rattle.std.proofs.Common.{◌∙◌, ap}
use Rattle.jm_machine.specs.Machine.{consumer_of}
use Rattle.jm_session.specs.Known.{Listed}
use Rattle.jm_session.specs.Numbers.{number_of}
use Rattle.jm_session.proofs.Found.{found, number_eq, number_sym}
use Rattle.jm_session.proofs.roster.Roster.find.Goals as goal

pub returns : goal.returns
returns c =
    c.get.ensures.value
    ∙ found number_eq number_sym number_of c.self.inside.consumers.entries (record { session = c.args.session.now; consumer = c.args.id }) c.self.invariant.0
    ∙ ap (λ (k : Listed). consumer_of k.consumers c.args.session.now c.args.id) c.self.view_is

use Rattle.std.proofs.Common.{◌≡◌}
use Rattle.std.specs.Prelude.{IsTrue}
use Rattle.jm_dest.specs.declared.destination.Destination.{Destination}
use Rattle.jm_dest.specs.declared.destination.Destination.TheVariants.{Queue}
use Rattle.jm_dest.specs.Names.{is_name}
use Rattle.jm_client.proofs.Replies.{ok_passed, err_passed}
use Rattle.jm_client.proofs.session.Session.create_queue.Goals as goal

pub returns-clause-ok : goal.returns-clause-ok
returns-clause-ok g c =
    rw c.passed_on.ensures (ok_passed {T = Destination} c.queue.result (λ (d : Destination). (d ≡ Queue c.args.name.now) × IsTrue (is_name c.args.name.now)) c.queue.ensures.ok)

pub returns-clause-err : goal.returns-clause-err
returns-clause-err g c = rw c.passed_on.ensures (err_passed _ _ c.queue.ensures.err)

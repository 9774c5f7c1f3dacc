use Rattle.jm_plans.specs.Provider.{state_of}
use Rattle.jm_kept.proofs.Owed.{sent_kept, unsent_kept}
use Rattle.jm_kept.proofs.calls.send.Goals as goal
use Rattle.jm_kept.proofs.calls.send.Goals.{in-Ok, in-Err-publish}

pub returns-after-publish-clause-owed : goal.returns-after-publish-clause-owed
returns-after-publish-clause-owed g c =
    let stamped = rw c.in-Ok-Publish.field-0-is at c.in-Ok-Publish.ensures.owed in
    elim c.match-publish.branch [
      | in-Ok w ↦
          rw (w.result-is, c.number-number.ensures)
          (sent_kept (state_of c.args.core.now) c.args.halves.now c.stamp.new.halves c.args.session c.args.draft c.args.destination c.args.now c.in-Ok-Publish.message
          w.in-Ok.field-0 (state_of c.publish.new.core) stamped w.in-Ok.ensures.fits)
      | in-Err-publish w ↦
          rw w.result-is
          (unsent_kept (state_of c.args.core.now) c.args.halves.now c.stamp.new.halves c.args.session c.args.draft c.args.destination c.args.now c.in-Ok-Publish.message
          w.in-Err-publish.refusal (state_of c.publish.new.core) stamped w.in-Err-publish.ensures.fits)
    ]

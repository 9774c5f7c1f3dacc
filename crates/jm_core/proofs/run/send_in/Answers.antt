use Rattle.jm_plans.specs.Provider.{state_of}
use Rattle.jm_core.proofs.Sends.{err_fits, waiting_fits, sent_ok, sent_err}
use Rattle.jm_core.proofs.run.send_in.Goals as goal

pub returns-in-Err-clause-owed : goal.returns-in-Err-clause-owed
returns-in-Err-clause-owed c = err_fits (state_of c.args.core.now) c.args.halves.now c.send.new.self c.args.session.now c.args.draft c.args.destination c.args.now c.args.mode c.requires.mode c.in-Err.refusal c.requires.room (rw c.opening.ensures at c.in-Err.ensures.fits)

pub returns-in-Ok-Kept-clause-owed : goal.returns-in-Ok-Kept-clause-owed
returns-in-Ok-Kept-clause-owed c = waiting_fits (state_of c.args.core.now) c.args.halves.now c.send.new.self c.args.session.now c.args.draft c.args.destination c.args.now c.args.mode c.requires.mode c.in-Ok-Kept.number (rw (c.opening.ensures, c.in-Ok-Kept.field-0-is) at c.in-Ok-Kept.ensures.fits)

pub returns-in-Ok-clause-owed : goal.returns-in-Ok-clause-owed
returns-in-Ok-clause-owed c =
    rw c.number-number.ensures
    (sent_ok (state_of c.args.core.now) c.args.halves.now c.send.new.self c.args.session.now c.args.draft c.args.destination c.args.now c.args.mode c.requires.mode
    c.in-Ok-Publish.message (state_of c.publish_one_from.new.self) (rw (c.opening.ensures, c.in-Ok-Publish.field-0-is) at c.in-Ok-Publish.ensures.fits) c.in-Ok.ensures)

pub returns-in-Err-publish_one_from-clause-owed : goal.returns-in-Err-publish_one_from-clause-owed
returns-in-Err-publish_one_from-clause-owed c =
    sent_err (state_of c.args.core.now) c.args.halves.now c.send.new.self c.args.session.now c.args.draft c.args.destination c.args.now c.args.mode c.requires.mode
    c.in-Ok-Publish.message c.in-Err-publish_one_from.refusal (state_of c.publish_one_from.new.self) (rw (c.opening.ensures, c.in-Ok-Publish.field-0-is) at c.in-Ok-Publish.ensures.fits) c.in-Err-publish_one_from.ensures

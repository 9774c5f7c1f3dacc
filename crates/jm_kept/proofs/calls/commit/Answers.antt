use Rattle.std.proofs.Common.{ap, ◌∙◌}
use Rattle.jm_tx.specs.Halves.{with_messages}
use Rattle.jm_plans.specs.Provider.{state_of}
use Rattle.jm_kept.proofs.Owed.{commit_done, commit_refused}
use Rattle.jm_kept.proofs.calls.commit.Goals as goal

pub returns-in-Ok-clause-owed : goal.returns-in-Ok-clause-owed
returns-in-Ok-clause-owed g c =
    let taken = c.take_commit-messages.ensures in
    commit_done (state_of c.args.core.now) c.args.halves.now c.take_commit-messages.new.self c.args.session c.new.result c.in-Ok.answer (state_of c.step.new.core)
    (c.new.ensures ∙ taken.messages) taken.sent taken.kept c.in-Ok.ensures.fits

pub returns-in-Err-clause-owed : goal.returns-in-Err-clause-owed
returns-in-Err-clause-owed g c =
    let taken = c.take_commit-messages.ensures in
    let back = c.messages_of.result.items in
    commit_refused (state_of c.args.core.now) c.args.halves.now c.put_back.new.self c.args.session c.new.result back c.in-Err.refusal (state_of c.step.new.core)
    (c.new.ensures ∙ taken.messages) c.messages_of.ensures (c.put_back.ensures.sent ∙ taken.sent)
    (c.put_back.ensures.kept ∙ ap (λ k. with_messages c.args.session back k) taken.kept) c.in-Err.ensures.fits

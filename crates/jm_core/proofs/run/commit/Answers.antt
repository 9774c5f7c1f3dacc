use Rattle.std.proofs.Common.{ap, ◌∙◌}
use Rattle.jm_tx.specs.Halves.{with_messages}
use Rattle.jm_plans.specs.Provider.{state_of}
use Rattle.jm_core.proofs.Sends.{commit_ok, commit_err}
use Rattle.jm_core.proofs.run.commit.Goals as goal

pub returns-in-Ok-clause-owed : goal.returns-in-Ok-clause-owed
returns-in-Ok-clause-owed c =
    let taken = c.take_commit-messages.ensures in
    commit_ok (state_of c.args.core.now) c.args.halves.now c.take_commit-messages.new.self c.args.session.now c.deref.result.now (state_of c.commit_from.new.self) (c.deref.ensures.value ∙ taken.messages) taken.sent taken.kept
    c.in-Ok.ensures

pub returns-in-Err-clause-owed : goal.returns-in-Err-clause-owed
returns-in-Err-clause-owed c =
    let taken = c.take_commit-messages.ensures in
    let items = c.take_commit-messages.result.items in
    commit_err (state_of c.args.core.now) c.args.halves.now c.put_back.new.self c.args.session.now items c.in-Err.refusal (state_of c.commit_from.new.self) taken.messages (c.put_back.ensures.sent ∙ taken.sent)
    (c.put_back.ensures.kept ∙ ap (λ k. with_messages c.args.session.now items k) taken.kept) (rw c.deref.ensures.value at c.in-Err.ensures)

use Rattle.std.proofs.Common.{◌∙◌, sym, ap, cond, List}
use Rattle.jm_header.specs.declared.content.Content.{Content}
use Rattle.jm_machine.specs.Machine.{is_transacted}
use Rattle.jm_scope.specs.Scopes.{scope_seen}
use Rattle.jm_transactions.specs.Courses.{course_of}
use Rattle.jm_transactions.proofs.Courses.{committed_found}
use Rattle.jm_model.specs.Answers.{after_commit, came_to}
use Rattle.jm_model.proofs.Fed.{fed_sent, fed_commit, sent_is}
use Rattle.jm_model.proofs.replies.feed.Goals as goal

pub returns-in_ok-take_sent-in-Sent : goal.returns-in_ok-take_sent-in-Sent
returns-in_ok-take_sent-in-Sent c life before place follows =
    let S = scope_seen c.args.scope.now in
    let m = c.in-Sent.message in
    let h = fed_sent S life before c.args.lone.now place m in
    rw c.in-Sent.is (
      sym h.0,
      c.in_ok-take_sent-in-Sent.ensures life follows.clients ∙ ap (λ t. cond (is_transacted t) c.args.lone.now (came_to S life m c.args.lone.now)) (follows.modes m.sender.session) ∙ sym (sent_is S life before c.args.lone.now m) ∙ sym h.1,
    )

pub returns-in_ok-commit-in-Committed : goal.returns-in_ok-commit-in-Committed
returns-in_ok-commit-in-Committed c life before place follows =
    let S = scope_seen c.args.scope.now in
    let s = c.in-Committed.session in
    let h = fed_commit S life before c.args.lone.now place s in
    rw c.in-Committed.is (
      sym h.0,
      c.in_ok-commit-in-Committed.ensures life follows.clients ∙ ap (λ (ms : List Content). after_commit S life s ms c.args.lone.now) (committed_found c.args.entries.now before life (course_of c.args.transactions.now) s follows) ∙ sym h.1,
    )

pub returns-in-Asked : goal.returns-in-Asked
returns-in-Asked c = rw c.in-Asked.is (c.feed_request.ensures c.args.entries.now (course_of c.args.transactions.now))

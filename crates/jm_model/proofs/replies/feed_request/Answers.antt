use Rattle.std.proofs.Common.{◌≡◌, ◌∙◌, sym, false}
use Rattle.jm_machine.specs.Lone.{is_own_call}
use Rattle.jm_scope.specs.Scopes.{scope_seen}
use Rattle.jm_model.proofs.Fed.{fed_none, answers_own}
use Rattle.jm_model.proofs.replies.feed_request.Goals as goal

pub returns-then-not-is_own_call : goal.returns-then-not-is_own_call
returns-then-not-is_own_call c entries course life before place follows =
    let S = scope_seen c.args.scope.now in
    let other : is_own_call S c.args.who c.args.reply.now ≡ false = sym c.is_own_call.ensures ∙ c.if-not-is_own_call.true in
    let h = fed_none S life before c.args.lone.now place c.args.who c.args.request.now c.args.reply.now other in
    (sym h.0, sym h.1)

pub returns : goal.returns
returns c =
    answers_own (scope_seen c.args.scope.now) c.args.lone.now c.args.who c.args.request.now c.args.reply.now (sym c.is_own_call.ensures ∙ c.if-not-is_own_call.false) c.ask.result c.ask.new.self c.ask.ensures.told

use Rattle.std.proofs.Common.{ap, sym}
use Rattle.jm_machine.specs.declared.call.Request.TheVariants.{Unsubscribe, Receive, Missed, SetListener, Take, Done}
use Rattle.jm_machine.specs.Lone.{this_key_if}
use Rattle.jm_scope.specs.Scopes.{scope_seen}
use Rattle.jm_lone.proofs.Answered.{answered, missed_after}
use Rattle.jm_lone.proofs.lone.Lone.ask_session.Goals as goal

pub returns-in-Unsubscribe-clause-told : goal.returns-in-Unsubscribe-clause-told
returns-in-Unsubscribe-clause-told c =
    let S = scope_seen c.args.scope.now in
    rw c.in-Unsubscribe.is
    (answered S c.args.self.now c.unsubscribe.new.self c.unsubscribe.result c.args.session.now (Unsubscribe c.in-Unsubscribe.name)
    (ap this_key_if (sym c.if-deletes.ensures)) (c.unsubscribe.ensures S.key c.in-Unsubscribe.name))

pub returns-in_ok-receive-in-Receive-clause-told : goal.returns-in_ok-receive-in-Receive-clause-told
returns-in_ok-receive-in-Receive-clause-told c =
    let S = scope_seen c.args.scope.now in
    rw c.in-Receive.is
    (answered S c.args.self.now c.receive.new.self c.in_ok-receive-in-Receive.field-0 c.args.session.now (Receive c.in-Receive.consumer c.in-Receive.now)
    (ap this_key_if (sym c.if-belongs-2.ensures)) (c.in_ok-receive-in-Receive.ensures.told S.key))

pub returns-in-Missed-clause-told : goal.returns-in-Missed-clause-told
returns-in-Missed-clause-told c =
    let S = scope_seen c.args.scope.now in
    rw c.in-Missed.is
    (answered S c.args.self.now c.args.self.now c.missed.result c.args.session.now (Missed c.in-Missed.consumer)
    (ap this_key_if (sym c.if-belongs-3.ensures)) (c.missed.ensures, missed_after S.key c.args.self.now c.args.session.now c.in-Missed.consumer))

pub returns-in-SetListener-clause-told : goal.returns-in-SetListener-clause-told
returns-in-SetListener-clause-told c =
    let S = scope_seen c.args.scope.now in
    rw c.in-SetListener.is
    (answered S c.args.self.now c.set_listener.new.self c.set_listener.result c.args.session.now (SetListener c.in-SetListener.consumer c.in-SetListener.on)
    (ap this_key_if (sym c.if-belongs-4.ensures)) (c.set_listener.ensures S.key))

pub returns-in_ok-take-in-Take-clause-told : goal.returns-in_ok-take-in-Take-clause-told
returns-in_ok-take-in-Take-clause-told c =
    let S = scope_seen c.args.scope.now in
    rw c.in-Take.is
    (answered S c.args.self.now c.take.new.self c.in_ok-take-in-Take.field-0 c.args.session.now (Take c.in-Take.consumer c.in-Take.now)
    (ap this_key_if (sym c.if-belongs-5.ensures)) (c.in_ok-take-in-Take.ensures.told S.key))

pub returns-in-Done-clause-told : goal.returns-in-Done-clause-told
returns-in-Done-clause-told c =
    let S = scope_seen c.args.scope.now in
    rw c.in-Done.is
    (answered S c.args.self.now c.done.new.self c.done.result c.args.session.now (Done c.in-Done.consumer c.in-Done.ok)
    (ap this_key_if (sym c.if-belongs-6.ensures)) (c.done.ensures S.key))

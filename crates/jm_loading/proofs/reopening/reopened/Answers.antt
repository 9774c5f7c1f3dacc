use Rattle.std.proofs.Common.{ap}
use Rattle.jm_machine.specs.Machine.{State}
use Rattle.jm_loading.proofs.Holds.{said_holds}
use Rattle.jm_loading.proofs.Together.{persisted}
use Rattle.jm_loading.proofs.reopening.reopened.Goals as goal

pub returns-in-Ok-clause-stored : goal.returns-in-Ok-clause-stored
returns-in-Ok-clause-stored c =
    let a = c.in_ok-subscriptions in
    persisted c.args.opening c.args.held_limit c.args.stations.items c.args.messages.items c.args.held.now c.args.delays.now a.field-0.subscriptions.items a.field-0.messages.items _ c.law_reopened.ensures a.ensures.ok c.in-Ok.ensures.ok.0

pub returns-in-Ok-clause-holds : goal.returns-in-Ok-clause-holds
returns-in-Ok-clause-holds c messages selectors =
    let a = c.in_ok-subscriptions in
    let said = a.ensures.ok in
    said_holds c.args.opening c.args.held_limit c.args.stations.items c.args.messages.items a.field-0.subscriptions.items a.field-0.messages.items _ said.may said.asked said.pairs c.in-Ok.ensures.ok.0 messages selectors

pub returns-in-Ok-clause-opening : goal.returns-in-Ok-clause-opening
returns-in-Ok-clause-opening c = ap (λ (s : State). s.opening) c.in-Ok.ensures.ok.0

pub returns-in-Ok-clause-limit : goal.returns-in-Ok-clause-limit
returns-in-Ok-clause-limit c = ap (λ (s : State). s.limit) c.in-Ok.ensures.ok.0

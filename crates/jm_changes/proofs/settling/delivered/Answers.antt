use Rattle.std.proofs.Common.{◌≡◌, true, false, Some, rules, sym, subst, ◌∙◌}
use Rattle.jm_machine.specs.Machine.{selected_by}
use Rattle.jm_machine.specs.Rows.{settles_at_once}
use Rattle.jm_changes.specs.Standing.{IsIndexOf}
use Rattle.jm_changes.proofs.Listed.{delivers_nothing, ok_map, received_there, sent_there}
use Rattle.jm_changes.proofs.settling.delivered.Goals as goal

pub returns-in_default : goal.returns-in_default
returns-in_default g c =
    delivers_nothing c.args.mode (selected_by (Some c.args.consumer.now)) c.args.now c.args.consumer.now.key (g.P.Planned.state c.args.planned.now) c.new-in_default.result.items
    (sym c.is_lasting.ensures ∙ c.if-not-is_lasting.false)
    (subst (λ o. IsIndexOf (g.P.Planned.keys c.args.planned.now) (g.P.Planned.state c.args.planned.now) c.args.consumer.now.key o) c.in_default.is c.index_of.ensures)
    c.new-in_default.ensures.items

pub returns-in-Some-Auto : goal.returns-in-Some-Auto
returns-in-Some-Auto g c =
    let found = subst (λ o. IsIndexOf (g.P.Planned.keys c.args.planned.now) (g.P.Planned.state c.args.planned.now) c.args.consumer.now.key o) c.in-Some.is c.index_of.ensures in
    let settles : settles_at_once c.args.mode ≡ true = search rules in
    ok_map c.received.result _ _
    (λ changes d. received_there c.args.mode (selected_by (Some c.args.consumer.now)) c.args.now (g.P.Planned.takes c.args.planned.now) _ c.args.consumer.now.key (g.P.Planned.state c.args.planned.now) changes.items c.requires.order c.requires.taken found.1 (sym c.is_lasting.ensures ∙ c.if-not-is_lasting.false) settles d) c.received.ensures

pub returns-in-Some-Client : goal.returns-in-Some-Client
returns-in-Some-Client g c =
    let found = subst (λ o. IsIndexOf (g.P.Planned.keys c.args.planned.now) (g.P.Planned.state c.args.planned.now) c.args.consumer.now.key o) c.in-Some.is c.index_of.ensures in
    let settles : settles_at_once c.args.mode ≡ false = search rules in
    ok_map c.sent.result _ _
    (λ changes d. sent_there c.args.mode (selected_by (Some c.args.consumer.now)) c.args.now (g.P.Planned.takes c.args.planned.now) _ c.args.consumer.now.key (g.P.Planned.state c.args.planned.now) changes.items c.requires.order c.requires.taken found.1 (sym c.is_lasting.ensures ∙ c.if-not-is_lasting.false) settles d) c.sent.ensures

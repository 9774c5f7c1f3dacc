use Rattle.std.proofs.Common.{List, ◌∙◌, ap, refl, subst}
use Rattle.std.specs.Prelude.{Err}
use Rattle.jm_base.specs.declared.refusal.Refusal.TheVariants.{Memory}
use Rattle.jm_header.specs.declared.content.Content.{Content}
use Rattle.jm_machine.specs.declared.call.Call.TheVariants.{Publish}
use Rattle.jm_machine.specs.declared.call.Step.{Step}
use Rattle.jm_broker.specs.Calls.{Noted}
use Rattle.jm_seats.specs.Seat.{by_session, told_sent}
use Rattle.jm_seats.proofs.seat.publish.Goals as goal

pub returns-in_default : goal.returns-in_default
returns-in_default g c = record { told = Err Memory; noted = (refl, refl); is = refl }

pub returns : goal.returns
returns g c =
    let old = c.args.pass.now in
    let new = c.make-reply.new.pass in
    let told = c.make-reply.result in
    let P : Step → Type 0 = λ step. Noted old new step told in
    let Q : List Content → Step = λ messages. by_session c.args.session (Publish messages) in
    record {
      told = told;
      noted = subst P (c.publication-step.ensures ∙ ap Q c.in-Ok.ensures) c.make-reply.ensures;
      is = c.told_sent.ensures ∙ ap (λ n. told_sent n told) c.number-number.ensures;
    }

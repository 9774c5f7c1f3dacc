use Rattle.std.proofs.Common.{◌∙◌, ap}
use Rattle.std.specs.Prelude.{map}
use Rattle.indexmap.specs.IndexMap.{values}
use Rattle.jm_machine.specs.declared.call.Who.TheVariants.{Session}
use Rattle.jm_machine.specs.declared.call.Request.TheVariants.{CloseSession}
use Rattle.jm_machine.specs.Life.{life_after}
use Rattle.jm_machine.specs.Machine.{closed_consumer, of_session}
use Rattle.jm_session.specs.Known.{Known}
use Rattle.jm_session.proofs.Found.{life_of}
use Rattle.jm_session.proofs.sessions.Sessions.close_session.Goals as goal

pub invariant_of-self : goal.invariant_of-self
invariant_of-self c = (
  c.self.invariant.0,
  c.close_session.ensures.numbered,
  c.self.invariant.2,
  c.self.invariant.3,
  c.close_session.ensures.opened,
)

pub returns-clause-life : goal.returns-clause-life
unfolding life_after
returns-clause-life c =
    ap (λ xs. life_of (values c.self.inside.connections) xs) c.close_session.ensures.values
    ∙ ap (λ (k : Known). life_after k.life (Session c.args.id.now) CloseSession) c.self.view_is

pub returns-clause-consumers : goal.returns-clause-consumers
returns-clause-consumers c =
    c.close.ensures.consumers
    ∙ ap (λ (k : Known). map (closed_consumer (of_session c.args.id.now)) k.consumers) c.self.view_is

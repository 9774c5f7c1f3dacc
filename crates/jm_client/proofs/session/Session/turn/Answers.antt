use Rattle.std.proofs.Common.{ap, sym, ◌∙◌}
use Rattle.jm_tx.specs.declared.buffer.Buffer.{Buffer}
use Rattle.jm_client.proofs.Turns.{not_finished}
use Rattle.jm_client.proofs.session.Session.turn.Goals as goal

pub returns : goal.returns
returns g c =
    not_finished _ _ _ _ _ _ _ _ _ _ _ (ap (λ (b : Buffer). b.sender.session) (sym c.self.view_is) ∙ c.self.invariant) (rw c.in-Ok-Some.field-0-is at c.in-Ok-Some.ensures) c.on_session_message-answer.ensures c.in-Err-finish.ensures

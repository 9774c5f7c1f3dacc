use Rattle.std.proofs.Common.{ap, sym, ◌∙◌, ℕ}
use Rattle.jm_dest.specs.declared.session.SessionId.{SessionId}
use Rattle.jm_tx.specs.declared.buffer.Buffer.{Buffer}
use Rattle.jm_client.proofs.Turns.{was_not_set, was_set}
use Rattle.jm_client.proofs.session.Session.listen.Goals as goal

pub returns-in-Err : goal.returns-in-Err
returns-in-Err g c =
    was_not_set _ _ _ _ _ _ _ _ (ap (λ (b : Buffer). b.sender.session) (sym c.self.view_is) ∙ c.self.invariant) (ap (λ (p : SessionId × ℕ). p.1) c.consumer.view_is) c.in-Err.ensures

pub returns : goal.returns
returns g c =
    was_set _ _ _ _ _ _ _ _ _ _ _ _ (ap (λ (b : Buffer). b.sender.session) (sym c.self.view_is) ∙ c.self.invariant) (ap (λ (p : SessionId × ℕ). p.1) c.consumer.view_is) c.in-Ok.ensures c.handle_all-turns.ensures c.set_listener-taken_away.ensures c.outcome.ensures

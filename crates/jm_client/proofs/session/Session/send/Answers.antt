use Rattle.std.proofs.Common.{ap, ◌∙◌}
use Rattle.jm_header.specs.declared.content.Sender.{Sender}
use Rattle.jm_client.proofs.Sending.{sender_stays, kept_sends, published_sends, refused_sends}
use Rattle.jm_client.proofs.session.Session.send.Goals as goal
use Rattle.jm_client.proofs.session.Session.send.Goals.{in-Ok-Kept, in-Ok-Publish, in-Err}

pub invariant_of-self : goal.invariant_of-self
invariant_of-self g c = ap (λ (s : Sender). s.session) (sender_stays _ _ _ _ _ c.send.ensures) ∙ c.self.invariant

pub returns : goal.returns
returns g c = elim c.match-send.branch [
  | in-Ok-Kept w ↦ rw (w.result-is, ← c.self.view_is) (kept_sends c.self.inside.half c.send.new.self c.args.draft _ c.in_ok-now.now _ (rw (w.in-Ok-Kept.field-0-is, c.in_ok-destination.ensures) at w.in-Ok-Kept.ensures))
  | in-Ok-Publish w ↦ rw (w.result-is, ← c.self.view_is) (published_sends c.self.inside.half c.send.new.self c.args.draft _ c.in_ok-now.now _ _ _ (rw (w.in-Ok-Publish.field-0-is, c.in_ok-destination.ensures) at w.in-Ok-Publish.ensures) c.self.invariant w.publish.ensures)
  | in-Err w ↦ rw (w.result-is, w.new.ensures, ← c.self.view_is) (refused_sends c.self.inside.half c.send.new.self c.args.draft c.args.destination.now c.in_ok-now.now _ (rw c.in_ok-destination.ensures at w.in-Err.ensures))
]

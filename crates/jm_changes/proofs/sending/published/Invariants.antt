use Rattle.std.proofs.Common.{◌≡◌, take}
use Rattle.jm_keep.specs.Calls.{ArePublished}
use Rattle.jm_changes.proofs.sending.published.Given as goal

abbrev pub invariant-loop-message : goal.invariant-loop-message
invariant-loop-message g l = record {
  counted : l.index ≡ l.message-index;
  come : ArePublished (g.P.Planned.state l.planned) (g.P.Planned.state l.planned).next_place (take l.message-index l.messages) l.changes.items;
}

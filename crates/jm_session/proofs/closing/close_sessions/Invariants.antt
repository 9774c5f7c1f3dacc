use Rattle.std.proofs.Common.{◌≡◌, ◌≤◌, length}
use Rattle.std.specs.Prelude.{◌==◌, map}
use Rattle.indexmap.specs.IndexMap.{spare, values}
use Rattle.jm_machine.specs.declared.state.SessionState.{SessionState}
use Rattle.jm_machine.specs.Life.{closed_where}
use Rattle.jm_session.specs.Numbers.{IsNumbered}
use Rattle.jm_session.specs.Opened.{AreOpen}
use Rattle.jm_session.proofs.closing.close_sessions.Given as goal

abbrev pub invariant-loop-index : goal.invariant-loop-index
invariant-loop-index l = record {
  closing : map (closed_where (λ s. s.connection == l.fn.connection)) (values l.sessions) ≡ map (closed_where (λ s. s.connection == l.fn.connection)) (values l.initial.sessions);
  numbered : IsNumbered (λ (x : SessionState). x.id) l.sessions.entries;
  opened : AreOpen (values l.sessions) l.opened;
  room : spare l.initial.sessions ≤ spare l.sessions;
  opened_room : l.initial.opened.spare ≤ l.opened.spare;
}

abbrev pub decreases-loop-index : goal.decreases-loop-index
decreases-loop-index l = length l.opened.keys

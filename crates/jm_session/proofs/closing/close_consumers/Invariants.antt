use Rattle.std.proofs.Common.{◌≡◌, ◌≤◌, length}
use Rattle.std.specs.Prelude.{map}
use Rattle.indexmap.specs.IndexMap.{spare, values}
use Rattle.jm_machine.specs.Attached.{AreCounted}
use Rattle.jm_machine.specs.Machine.{are_meant, closed_consumer}
use Rattle.jm_session.specs.Numbers.{IsNumbered, number_of}
use Rattle.jm_session.specs.Opened.{AreActive}
use Rattle.jm_session.proofs.closing.close_consumers.Given as goal

abbrev pub invariant-loop-index : goal.invariant-loop-index
invariant-loop-index l = record {
  closing : map (closed_consumer (are_meant l.which)) (values l.consumers) ≡ map (closed_consumer (are_meant l.which)) (values l.initial.consumers);
  numbered : IsNumbered number_of l.consumers.entries;
  counted : AreCounted (values l.consumers) l.attached;
  active : AreActive (values l.consumers) l.active;
  room : spare l.initial.consumers ≤ spare l.consumers;
  active_room : l.initial.active.spare ≤ l.active.spare;
  counts_room : l.initial.attached.spare ≤ l.attached.spare;
}

abbrev pub decreases-loop-index : goal.decreases-loop-index
decreases-loop-index l = length l.active.keys

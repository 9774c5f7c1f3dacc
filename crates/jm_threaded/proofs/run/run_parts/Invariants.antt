use Rattle.std.proofs.Common.{◌≡◌, ◌++◌}
use Rattle.std.specs.Vec.Iter.{into_iter_items}
use Rattle.jm_seats.specs.Seats.{senders_of}
use Rattle.jm_threaded.specs.Runs.{PartsFit}
use Rattle.jm_threaded.proofs.run.run_parts.Given as goal

-- the parts so far were made, and told so
abbrev pub invariant-loop-part : goal.invariant-loop-part
invariant-loop-part g l = record {
  made : PartsFit l.initial.seats l.yielded l.replies.items l.seats;
  senders : senders_of l.seats.seats ≡ senders_of l.initial.seats.seats;
  rest : l.fn.parts.items ≡ l.yielded ++ into_iter_items l.part-iterator;
}

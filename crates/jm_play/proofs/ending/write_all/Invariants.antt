use Rattle.std.proofs.Common.{◌≤◌, ◌-◌, length, take}
use Rattle.std.specs.Io.KnownBytes.{Appends}
use Rattle.jm_play.specs.Sink.{sink_contents}
use Rattle.jm_play.proofs.ending.write_all.Given as goal

-- the bytes so far are written
abbrev pub invariant-loop-written : goal.invariant-loop-written
invariant-loop-written g l =
    (l.written ≤ length l.bytes) × Appends (sink_contents g.W.Write.contents l.initial.sink) (sink_contents g.W.Write.contents l.sink) (take l.written l.bytes)

-- proposed from the loop's first test
abbrev pub decreases-loop-written : goal.decreases-loop-written
decreases-loop-written g l = length l.bytes - l.written

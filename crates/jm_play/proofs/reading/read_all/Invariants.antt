use Rattle.std.proofs.Common.{◌≡◌, ◌≤◌, ◌+◌, length}
use Rattle.std.specs.Io.KnownBytes.{Consumes}
use Rattle.jm_play.specs.Source.{has_failed, reads, scenario_max, source_remaining}
use Rattle.jm_play.proofs.reading.read_all.Given as goal

-- the bytes so far were read, within the limit, no read failed, and each read gave one at least
abbrev pub invariant-reads : goal.invariant-reads
invariant-reads g l =
    record {
      consumed : Consumes (source_remaining g.R.Read.remaining l.initial.source) (source_remaining g.R.Read.remaining l.source) l.bytes.items;
      within : length l.bytes.items ≤ scenario_max;
      progress : l.counter ≤ length l.bytes.items;
      unmarked : has_failed l.source ≡ has_failed l.initial.source;
      counted : reads l.source ≤ reads l.initial.source + l.counter;
    }

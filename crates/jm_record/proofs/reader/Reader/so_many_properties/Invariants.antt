use Rattle.std.proofs.Common.{◌≡◌, ◌-◌, []}
use Rattle.jm_format.specs.Reading.{properties_after}
use Rattle.jm_record.proofs.reader.Reader.so_many_properties.Given as goal

abbrev pub invariant-loop : goal.invariant-loop
invariant-loop l =
    properties_after (l.count - l.counter) l.properties l.self ≡ properties_after l.count [] l.fn.self

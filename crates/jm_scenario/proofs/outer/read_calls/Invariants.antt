use Rattle.std.proofs.Common.{length}
use Rattle.json.specs.Json.{value}
use Rattle.serde_json.specs.Data.{Items}
use Rattle.jm_scenario.proofs.Loops.{ItemsRead}
use Rattle.jm_scenario.proofs.Recorded.{AreRecorded}
use Rattle.jm_scenario.proofs.outer.read_calls.Given as goal

-- the records so far are read, and what is kept is what they spell
abbrev pub invariant-records : goal.invariant-records
invariant-records l = (front : Items → Items) × ItemsRead (value 125) l.initial.reader l.reader front × AreRecorded front l.records

abbrev pub decreases-records : goal.decreases-records
decreases-records l = length l.reader

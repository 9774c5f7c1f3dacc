use Rattle.std.proofs.Common.{length}
use Rattle.json.specs.Json.{value}
use Rattle.serde_json.specs.Data.{Members}
use Rattle.jm_scenario.proofs.Loops.{AreRead}
use Rattle.jm_scenario.specs.Outer.{Describes}
use Rattle.jm_scenario.proofs.outer.read_outer.Given as goal

-- the members so far are read, and what is kept describes them
abbrev pub invariant-members : goal.invariant-members
invariant-members l = (found : Members) × AreRead (value 126) l.initial.reader l.reader found × Describes found l.outer

abbrev pub decreases-members : goal.decreases-members
decreases-members l = length l.reader

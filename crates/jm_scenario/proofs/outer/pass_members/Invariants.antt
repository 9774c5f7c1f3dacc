use Rattle.std.proofs.Common.{length}
use Rattle.json.specs.Json.{value}
use Rattle.serde_json.specs.Data.{Members}
use Rattle.jm_scenario.proofs.Loops.{AreRead}
use Rattle.jm_scenario.proofs.outer.pass_members.Given as goal

-- the members so far are read
abbrev pub invariant-members : goal.invariant-members
invariant-members l = (found : Members) × AreRead (value 125) l.initial.reader l.reader found

abbrev pub decreases-members : goal.decreases-members
decreases-members l = length l.reader

use Rattle.std.proofs.Common.{◌≡◌, ◌+◌, ◌*◌, length}
use Rattle.json.specs.Json.{value}
use Rattle.serde_json.specs.Data.{Items}
use Rattle.serde_json.specs.View.{members_view}
use Rattle.jm_scenario.proofs.Loops.{AreRead, ItemsRead, before}
use Rattle.jm_scenario.proofs.parsed.+next_value.Given as goal

abbrev pub decreases-next_value : goal.decreases-next_value
decreases-next_value l = 2 * l.depth

abbrev pub decreases-next_items : goal.decreases-next_items
decreases-next_items l = 2 * l.depth + 1

abbrev pub decreases-next_members : goal.decreases-next_members
decreases-next_members l = 2 * l.depth + 1

-- the values so far are read, and stand before the others
abbrev pub invariant-next_items-items : goal.invariant-next_items-items
invariant-next_items-items l =
    (front : Items → Items) × ItemsRead (value l.depth) l.initial.reader l.reader front × ((rest : Items) → front rest ≡ before l.found.items rest)

abbrev pub decreases-next_items-items : goal.decreases-next_items-items
decreases-next_items-items l = length l.reader

-- the members so far are read
abbrev pub invariant-next_members-members : goal.invariant-next_members-members
invariant-next_members-members l = AreRead (value l.depth) l.initial.reader l.reader (members_view l.found.entries)

abbrev pub decreases-next_members-members : goal.decreases-next_members-members
decreases-next_members-members l = length l.reader

use Rattle.std.proofs.Common.{◌≡◌}
use Rattle.serde_json.specs.View.{members_view}
use Rattle.jm_fields.specs.Fields.{has_each}
use Rattle.jm_fields.proofs.field.unknown_member.Given as goal

-- the members so far have names that the owner has
abbrev pub invariant-loop-name : goal.invariant-loop-name
invariant-loop-name l =
    has_each l.owner (members_view l.name-iterator) ≡ has_each l.owner (members_view l.members.entries)

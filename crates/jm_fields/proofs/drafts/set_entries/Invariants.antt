use Rattle.std.proofs.Common.{◌≡◌, drop}
use Rattle.serde_json.specs.View.{items_view}
use Rattle.jm_fields.specs.Drafts.{with_entries}
use Rattle.jm_fields.proofs.drafts.set_entries.Given as goal

-- the other entries still make of the draft what all made of the first one
abbrev pub invariant-loop-entry : goal.invariant-loop-entry
invariant-loop-entry l =
    with_entries (items_view (drop l.entry-index l.entries)) l.draft ≡ with_entries (items_view l.entries) l.initial.draft

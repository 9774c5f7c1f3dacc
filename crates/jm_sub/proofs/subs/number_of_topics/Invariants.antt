use Rattle.std.proofs.Common.{◌≡◌, ◌+◌, ◌≤◌, drop}
use Rattle.std.specs.Set.{distinct_count}
use Rattle.jm_dest.specs.Names.{text_eq}
use Rattle.jm_sub.specs.Entries.{topics_of}
use Rattle.jm_sub.proofs.subs.number_of_topics.Given as goal

abbrev pub invariant-loop-at : goal.invariant-loop-at
invariant-loop-at l = (l.number + distinct_count text_eq (topics_of (drop l.at l.items.entries)) ≡ distinct_count text_eq (topics_of l.items.entries)) × (l.number ≤ l.at)

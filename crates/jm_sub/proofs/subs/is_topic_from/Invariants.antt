use Rattle.std.proofs.Common.{◌≡◌, drop}
use Rattle.std.specs.Set.{is_member}
use Rattle.jm_dest.specs.Names.{text_eq}
use Rattle.jm_sub.specs.Entries.{topics_of}
use Rattle.jm_sub.proofs.subs.is_topic_from.Given as goal

abbrev pub invariant-loop-at : goal.invariant-loop-at
invariant-loop-at l = is_member text_eq (topics_of (drop l.place l.items.entries)) l.topic ≡ is_member text_eq (topics_of (drop l.at l.items.entries)) l.topic

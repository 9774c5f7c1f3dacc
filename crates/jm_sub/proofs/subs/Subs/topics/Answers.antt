use Rattle.std.proofs.Common.{◌∙◌, ap}
use Rattle.std.specs.Set.{distinct_count}
use Rattle.jm_dest.specs.Names.{text_eq}
use Rattle.jm_sub.proofs.Topics.{topics_listed}
use Rattle.jm_sub.proofs.subs.Subs.topics.Goals as goal

pub returns : goal.returns
returns c = rw (← c.self.view_is) (c.number_of_topics.ensures ∙ ap (distinct_count text_eq) (topics_listed c.self.inside.items.entries))

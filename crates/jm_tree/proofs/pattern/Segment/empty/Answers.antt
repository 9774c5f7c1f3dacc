use Rattle.std.proofs.Common.{Some, map, ap, sym, ◌∙◌}
use Rattle.std.specs.Str.{chars}
use Rattle.std.proofs.lemmas.Str.{chars-nil}
use Rattle.jm_tree.proofs.pattern.Segment.empty.Goals as goal

pub invariant_of-result : goal.invariant_of-result
invariant_of-result c = c.new.ensures.items ∙ sym (ap (λ text. map Some (chars text)) (c.new-3.ensures ∙ c.new-2.ensures.bytes) ∙ ap (map Some) chars-nil)

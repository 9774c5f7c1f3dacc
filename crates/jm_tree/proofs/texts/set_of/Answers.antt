use Rattle.std.proofs.Common.{true, cond, ◌∙◌, ap}
use Rattle.std.proofs.lemmas.Map.Text.{btree_set_updates_text}
use Rattle.std.specs.Str.{bytes_eq}
use Rattle.std.specs.BTreeSet.{contains_text}
use Rattle.jm_tree.proofs.Sets.{one_more}
use Rattle.jm_tree.proofs.texts.set_of.Goals as goal

pub loop-text-preserved : goal.loop-text-preserved
loop-text-preserved c = λ text.
    one_more c.args.texts.now c.loop-text.text-index c.text-item.result text _ _ c.loop-text-test.true c.text-item.is (c.loop-text.invariant text)
    (btree_set_updates_text _ _ _ _ c.in_ok-insert.ensures.updates text
    ∙ ap (λ bs. cond (bytes_eq bs text) true (contains_text c.loop-text.set text)) (c.into_inner.ensures ∙ c.in_ok-copy.ensures))

use Rattle.std.proofs.Common.{◌∙◌, ◌++◌, ◌∷◌, [], arith, sym}
use Rattle.std.proofs.lemmas.List.{take_all, take_more}
use Rattle.tried_values.proofs.keys.copy_of.Goals as goal

pub copy_with-requires : goal.copy_with-requires
copy_with-requires c = c.loop-index.invariant ∙ take_all c.loop-index.index c.args.set.now.keys (omega (arith, c.loop-index-test.false, c.len-index-end.ensures.len))

pub loop-index-preserved : goal.loop-index-preserved
loop-index-preserved c =
    c.in_ok-push.ensures.items
    ∙ (λ i. c.loop-index.invariant i ++ c.key_at.ensures 0 i ∷ [])
    ∙ sym (take_more c.args.set.now.keys c.loop-index.index 0 (omega (arith, c.loop-index-test.true, c.len-index-end.ensures.len)))

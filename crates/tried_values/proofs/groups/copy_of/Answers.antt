use Rattle.std.proofs.Common.{◌∙◌, ◌++◌, ◌∷◌, [], arith, sym}
use Rattle.std.proofs.lemmas.List.{take_all, take_more}
use Rattle.std.proofs.lemmas.Option.{get_or_from_slice_get}
use Rattle.tried_values.proofs.groups.copy_of.Goals as goal

pub copy_with-requires : goal.copy_with-requires
copy_with-requires c = c.loop-index.invariant ∙ take_all c.loop-index.index c.args.list.now.items (omega (arith, c.loop-index-test.false, c.len-index-end.ensures.len))

pub loop-index-preserved : goal.loop-index-preserved
loop-index-preserved c =
    c.in_ok-push.ensures.items
    ∙ (λ i. c.loop-index.invariant i ++ sym (get_or_from_slice_get c.args.list.now.items c.loop-index.index c.at.result.now 0 c.at.ensures) i ∷ [])
    ∙ sym (take_more c.args.list.now.items c.loop-index.index 0 (omega (arith, c.loop-index-test.true, c.len-index-end.ensures.len)))

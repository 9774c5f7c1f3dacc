use Rattle.std.proofs.Common.{◌∙◌, ap, set}
use Rattle.jm_gaps.proofs.Items.{item_read}
use Rattle.jm_machine.specs.Machine.{are_meant}
use Rattle.jm_pending.specs.Rows.{Held}
use Rattle.jm_stations.specs.Kept.{given_back}
use Rattle.jm_stations.proofs.Shown.{changed_is_set}
use Rattle.jm_stations.proofs.lists.give_back_at.Goals as goal

pub returns : goal.returns
returns c =
    let h : Held = c.at_mut-held.result.now in
    let lists = c.args.lists.now.items in
    let f = given_back (are_meant c.args.which.now) in
    ap (λ (x : Held). set lists c.args.index x) (c.give_back.ensures ∙ ap f (item_read lists c.args.index h c.at_mut-held.ensures.value)) ∙ changed_is_set c.args.index f h lists c.requires

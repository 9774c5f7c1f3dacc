use Rattle.std.proofs.Common.{◌≡◌, ◌∙◌, ap, subst, get_or, set}
use Rattle.std.proofs.lemmas.List.{get_or_default}
use Rattle.jm_gaps.proofs.Items.{item_read}
use Rattle.jm_pending.specs.Rows.{Held}
use Rattle.jm_lane.specs.Holders.{Follows}
use Rattle.jm_stations.specs.Kept.{delivered_at}
use Rattle.jm_stations.proofs.Shown.{changed_is_set}
use Rattle.jm_stations.proofs.lists.deliver.Goals as goal

pub returns-clause-lists : goal.returns-clause-lists
returns-clause-lists c =
    let h : Held = c.at_mut-held.result.now in
    let lists = c.args.lists.now.items in
    let f = delivered_at c.args.place c.args.session c.args.consumer c.args.now in
    ap (λ (x : Held). set lists c.args.index x) (c.deliver_at.ensures.rows ∙ ap f (item_read lists c.args.index h c.at_mut-held.ensures.value)) ∙ changed_is_set c.args.index f h lists c.requires.within

pub returns-clause-table : goal.returns-clause-table
returns-clause-table c = λ e.
    let h : Held = c.at_mut-held.result.now in
    let lists = c.args.lists.now.items in
    let f = delivered_at c.args.place c.args.session c.args.consumer c.args.now in
    let same : h ≡ get_or lists c.args.index e = item_read lists c.args.index h c.at_mut-held.ensures.value ∙ get_or_default lists c.args.index h e c.requires.within in
    subst (λ (x : Held). Follows c.args.table.now c.deliver_at.new.table x.rows (f x).rows) same (subst (λ (x : Held). Follows c.args.table.now c.deliver_at.new.table h.rows x.rows) c.deliver_at.ensures.rows c.deliver_at.ensures.table)

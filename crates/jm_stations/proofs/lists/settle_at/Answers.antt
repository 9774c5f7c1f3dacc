use Rattle.std.proofs.Common.{◌≡◌, ◌∙◌, ap, subst, get_or, set}
use Rattle.std.proofs.lemmas.List.{get_or_default}
use Rattle.jm_gaps.proofs.Items.{item_read}
use Rattle.jm_machine.specs.Machine.{are_meant}
use Rattle.jm_pending.specs.Rows.{Held}
use Rattle.jm_lane.specs.Holders.{Follows}
use Rattle.jm_stations.specs.Kept.{settled_out}
use Rattle.jm_stations.proofs.Shown.{changed_is_set}
use Rattle.jm_stations.proofs.lists.settle_at.Goals as goal

pub returns-clause-lists : goal.returns-clause-lists
returns-clause-lists c =
    let h : Held = c.at_mut-held.result.now in
    let lists = c.args.lists.now.items in
    let f = settled_out (are_meant c.args.which.now) in
    ap (λ (x : Held). set lists c.args.index x) (c.settle.ensures.rows ∙ ap f (item_read lists c.args.index h c.at_mut-held.ensures.value)) ∙ changed_is_set c.args.index f h lists c.requires.within

pub returns-clause-table : goal.returns-clause-table
returns-clause-table c = λ e.
    let h : Held = c.at_mut-held.result.now in
    let lists = c.args.lists.now.items in
    let f = settled_out (are_meant c.args.which.now) in
    let same : h ≡ get_or lists c.args.index e = item_read lists c.args.index h c.at_mut-held.ensures.value ∙ get_or_default lists c.args.index h e c.requires.within in
    subst (λ (x : Held). Follows c.args.table.now c.settle.new.table x.rows (f x).rows) same (subst (λ (x : Held). Follows c.args.table.now c.settle.new.table h.rows x.rows) c.settle.ensures.rows c.settle.ensures.table)

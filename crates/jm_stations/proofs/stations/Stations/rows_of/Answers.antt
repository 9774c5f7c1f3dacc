use Rattle.std.proofs.Common.{◌≡◌, ◌∙◌, ap, sym, subst, get_or, List}
use Rattle.std.specs.Prelude.{IfOk}
use Rattle.std.proofs.lemmas.List.{get_or-map, get_or_default}
use Rattle.jm_gaps.proofs.Items.{item_read}
use Rattle.jm_machine.specs.declared.state.PlacedRow.{PlacedRow}
use Rattle.jm_pending.specs.Rows.{Held}
use Rattle.jm_lane.specs.Holders.{Covers}
use Rattle.jm_pending.specs.Placed.{all_placed}
use Rattle.jm_stations.specs.Backlogs.{Backlog}
use Rattle.jm_stations.specs.Kept.{shown, all_shown}
use Rattle.jm_stations.proofs.Holders.{covers_one}
use Rattle.jm_stations.proofs.Receiving.{no_rows, within_shown}
use Rattle.jm_stations.proofs.stations.Stations.rows_of.Goals as goal

pub placed_rows-requires : goal.placed_rows-requires
placed_rows-requires c =
    let t = c.self.inside.table in
    let lists = c.self.inside.lists.items in
    let k = c.args.index in
    let h : Held = c.at.result.now in
    let inside = within_shown t lists k (rw (← c.self.view_is) at c.requires) in
    subst (λ (x : Held). Covers t x.rows) (sym (item_read lists k h c.at.ensures)) (covers_one t lists k h inside c.self.invariant.0.counted)

pub returns : goal.returns
returns c = λ d.
    let t = c.self.inside.table in
    let lists = c.self.inside.lists.items in
    let k = c.args.index in
    let h : Held = c.at.result.now in
    let inside = within_shown t lists k (rw (← c.self.view_is) at c.requires) in
    let found : h ≡ get_or lists k no_rows = item_read lists k h c.at.ensures ∙ get_or_default lists k h no_rows inside in
    let same : all_placed t h.rows ≡ (get_or (all_shown t lists) k d).rows = ap (λ (x : Held). all_placed t x.rows) found ∙ ap (λ (b : Backlog). b.rows) (sym (get_or-map (shown t) lists k no_rows d inside)) in
    rw (← c.self.view_is) (subst (λ (rows : List PlacedRow). IfOk c.placed_rows.result (λ copies. copies.items ≡ rows)) same c.placed_rows.ensures)

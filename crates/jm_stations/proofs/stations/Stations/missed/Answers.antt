use Rattle.std.proofs.Common.{◌≡◌, ◌∙◌, ap, sym, get_or}
use Rattle.std.proofs.lemmas.List.{get_or-map, get_or_default}
use Rattle.jm_gaps.proofs.Items.{item_read}
use Rattle.jm_pending.specs.Rows.{Held}
use Rattle.jm_stations.specs.Backlogs.{Backlog}
use Rattle.jm_stations.specs.Kept.{shown}
use Rattle.jm_stations.proofs.Receiving.{no_rows, within_shown}
use Rattle.jm_stations.proofs.stations.Stations.missed.Goals as goal

pub returns : goal.returns
returns c = λ d.
    let t = c.self.inside.table in
    let lists = c.self.inside.lists.items in
    let k = c.args.index in
    let h : Held = c.at.result.now in
    let inside = within_shown t lists k (rw (← c.self.view_is) at c.requires) in
    let found : h ≡ get_or lists k no_rows = item_read lists k h c.at.ensures ∙ get_or_default lists k h no_rows inside in
    rw (← c.self.view_is) (c.missed.ensures ∙ ap (λ (x : Held). x.missed) found ∙ ap (λ (b : Backlog). b.missed) (sym (get_or-map (shown t) lists k no_rows d inside)))

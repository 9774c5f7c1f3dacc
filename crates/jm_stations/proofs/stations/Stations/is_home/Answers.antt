use Rattle.std.proofs.Common.{◌≡◌, ◌∙◌, ◌||◌, List, [], ◌∷◌, true, not, ap, refl, sym, get_or}
use Rattle.std.specs.List.{list_any}
use Rattle.std.proofs.lemmas.List.{get_or-map, get_or_default}
use Rattle.jm_gaps.proofs.Items.{item_read}
use Rattle.jm_machine.specs.declared.state.Row.{Row as MachineRow}
use Rattle.jm_machine.specs.Rows as machine
use Rattle.jm_machine.specs.Rows.{bare}
use Rattle.jm_lane.specs.declared.row.Row.{Row}
use Rattle.jm_lane.specs.Rows as rows_here
use Rattle.jm_pending.specs.Rows.{Held}
use Rattle.jm_lane.specs.Holders.{Messages}
use Rattle.jm_pending.specs.Placed.{all_placed}
use Rattle.jm_stations.specs.Backlogs.{Backlog, are_home}
use Rattle.jm_stations.specs.Kept.{shown}
use Rattle.jm_stations.proofs.Receiving.{no_rows, within_shown}
use Rattle.jm_stations.proofs.stations.Stations.is_home.Goals as goal

-- a row is out where it is so with its message
any_out : (t : Messages) (rows : List Row) → list_any (λ (r : MachineRow). machine.is_out (λ s c. true) r) (bare (all_placed t rows)) ≡ list_any (λ (r : Row). rows_here.is_out (λ s c. true) r) rows
any_out t [] = refl
any_out t (r ∷ rows) = ap (λ b. rows_here.is_out (λ s c. true) r || b) (any_out t rows)

pub returns : goal.returns
returns c = λ d.
    let t = c.self.inside.table in
    let lists = c.self.inside.lists.items in
    let k = c.args.index in
    let h : Held = c.at.result.now in
    let inside = within_shown t lists k (rw (← c.self.view_is) at c.requires) in
    let found : h ≡ get_or lists k no_rows = item_read lists k h c.at.ensures ∙ get_or_default lists k h no_rows inside in
    rw (← c.self.view_is) (c.is_home.ensures ∙ ap (λ (x : Held). rows_here.are_home x.rows) found ∙ sym (ap not (any_out t (get_or lists k no_rows).rows)) ∙ ap (λ (b : Backlog). are_home b.rows) (sym (get_or-map (shown t) lists k no_rows d inside)))

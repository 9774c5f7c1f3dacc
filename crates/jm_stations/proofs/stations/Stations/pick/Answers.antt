use Rattle.std.proofs.Common.{◌≡◌, ◌∙◌, ◌<◌, ℕ, List, length, Bool, ap, subst, sym, get_or, Option, Some, true}
use Rattle.std.specs.Prelude.{IfOk, OnErr, is_some}
use Rattle.std.specs.List.{slice_get}
use Rattle.std.proofs.lemmas.List.{get_or-map, get_or_default}
use Rattle.jm_gaps.proofs.Items.{item_read}
use Rattle.jm_header.specs.declared.content.Content.{Content}
use Rattle.jm_lane.specs.declared.row.Row.{Row}
use Rattle.jm_machine.specs.Wants.{next_chosen, next_placed}
use Rattle.jm_pending.specs.Rows.{Held, next}
use Rattle.jm_lane.specs.Holders.{Messages}
use Rattle.jm_stations.specs.declared.picked.Picked.{Picked}
use Rattle.jm_stations.specs.Backlogs.{Backlog, any, copy_wanted, picked_of}
use Rattle.jm_stations.specs.Kept.{shown, all_shown, copied, picked, IsKept}
use Rattle.jm_stations.proofs.Any.{next_any}
use Rattle.jm_stations.proofs.Wanted.{copied_is, each_ok, picked_is}
use Rattle.jm_stations.proofs.Receiving.{no_rows, within_shown}
use Rattle.jm_stations.proofs.stations.Stations.pick.Goals as goal

-- what the table has for the next row is what is picked
found : (settles : Bool) (t : Messages) (place now k : ℕ) (lists : List Held) (h : Held) (next_row : Option Row) (d : Backlog) → k < length (all_shown t lists) → slice_get lists k ≡ Some h → next_row ≡ next now h.rows → IsKept t lists place
    → (copied settles t next_row ≡ copy_wanted settles now (all_shown t lists) (get_or (all_shown t lists) k d).rows) × (picked settles t next_row ≡ picked_of settles (all_shown t lists) (next_placed now (get_or (all_shown t lists) k d).rows))
found settles t place now k lists h next_row d within at taken kept =
    let inside = within_shown t lists k within in
    let this : h ≡ get_or lists k no_rows = item_read lists k h at ∙ get_or_default lists k h no_rows inside in
    let row : next_row ≡ next now (get_or lists k no_rows).rows = taken ∙ ap (λ (x : Held). next now x.rows) this in
    let seen = sym (get_or-map (shown t) lists k no_rows d inside) in (
      ap (copied settles t) row ∙ copied_is settles t place now k no_rows lists inside kept ∙ ap (λ (b : Backlog). copy_wanted settles now (all_shown t lists) b.rows) seen,
      ap (picked settles t) row ∙ picked_is settles t place now k no_rows lists inside kept ∙ ap (λ (b : Backlog). picked_of settles (all_shown t lists) (next_placed now b.rows)) seen,
    )

pub returns-clause-picked : goal.returns-clause-picked
returns-clause-picked c = λ d.
    let same = (found c.args.settles c.self.inside.table c.self.inside.next_place c.args.now c.args.index c.self.inside.lists.items c.at.result.now c.next-row.result d (rw (← c.self.view_is) at c.requires.within) c.at.ensures c.next-row.ensures.next c.self.invariant.0).1 in
    rw (← c.self.view_is) (subst (λ (o : Option Picked). IfOk c.pick.result (λ it. it ≡ o)) same c.pick.ensures.picked)

pub returns-clause-err : goal.returns-clause-err
returns-clause-err c = λ d.
    let same = (found c.args.settles c.self.inside.table c.self.inside.next_place c.args.now c.args.index c.self.inside.lists.items c.at.result.now c.next-row.result d (rw (← c.self.view_is) at c.requires.within) c.at.ensures c.next-row.ensures.next c.self.invariant.0).0 in
    rw (← c.self.view_is) (subst (λ (o : Option Content). OnErr c.pick.result (is_some o ≡ true)) same c.pick.ensures.err)

pub returns-clause-any : goal.returns-clause-any
returns-clause-any c =
    let list : List Backlog = all_shown c.self.inside.table c.self.inside.lists.items in
    rw (← c.self.view_is) (each_ok c.pick.result (λ (it : Option Picked) (d : Backlog). it ≡ picked_of c.args.settles list (next_chosen any c.args.now (get_or list c.args.index d).rows)) (λ d.
    let same = (found c.args.settles c.self.inside.table c.self.inside.next_place c.args.now c.args.index c.self.inside.lists.items c.at.result.now c.next-row.result d (rw (← c.self.view_is) at c.requires.within) c.at.ensures c.next-row.ensures.next c.self.invariant.0).1 ∙ ap (picked_of c.args.settles list) (sym (next_any c.args.now (get_or list c.args.index d).rows)) in
    subst (λ (o : Option Picked). IfOk c.pick.result (λ it. it ≡ o)) same c.pick.ensures.picked))

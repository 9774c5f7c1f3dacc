use Rattle.std.proofs.Common.{◌≡◌, ◌<◌, ◌+◌, ◌++◌, ◌∷◌, [], ℕ, List, ◌∙◌, ap, sym, subst, get_or, set, take, length, arith}
use Rattle.std.proofs.lemmas.List.{take_more}
use Rattle.jm_gaps.proofs.Items.{item_read}
use Rattle.jm_lane.specs.declared.row.Row.{Row}
use Rattle.jm_pending.specs.Rows.{Held}
use Rattle.jm_lane.specs.Holders.{Follows}
use Rattle.jm_stations.specs.declared.loading.StoredRow.{StoredRow}
use Rattle.jm_stations.specs.Kept.{all_rows, with_row, AreBelow}
use Rattle.jm_stations.specs.Loading.{AreOffered}
use Rattle.jm_stations.proofs.Holders.{IsFollowed, followed_more}
use Rattle.jm_stations.proofs.Offers.{added_is}
use Rattle.jm_stations.proofs.StoredRows.{first_stored, none_stored, not_yet, stored_more}
use Rattle.jm_stations.proofs.loading.offer_stored.Goals as goal

pub add-requires-clause-room : goal.add-requires-clause-room
add-requires-clause-room c =
    let h : Held = c.at_mut-held.result.now in
    let n = c.loop-stored.stored-index in
    let rows = c.args.rows.now in
    let x : StoredRow = get_or rows n none_stored in
    let new = first_stored rows n none_stored c.requires.once c.loop-stored-test.true in
    let was = not_yet (take n rows) c.args.row.now c.args.lists.now.items c.loop-stored.lists.items x.index h c.loop-stored.invariant.offered (c.requires.within n none_stored c.loop-stored-test.true) new in
    subst (λ (y : Held). 0 < y.room) (sym (item_read c.loop-stored.lists.items x.index h c.at_mut-held.ensures.value ∙ was)) (c.requires.room n none_stored c.loop-stored-test.true h)

pub add-requires-clause-above : goal.add-requires-clause-above
add-requires-clause-above c =
    let h : Held = c.at_mut-held.result.now in
    let n = c.loop-stored.stored-index in
    let rows = c.args.rows.now in
    let x : StoredRow = get_or rows n none_stored in
    let new = first_stored rows n none_stored c.requires.once c.loop-stored-test.true in
    let was = not_yet (take n rows) c.args.row.now c.args.lists.now.items c.loop-stored.lists.items x.index h c.loop-stored.invariant.offered (c.requires.within n none_stored c.loop-stored-test.true) new in
    subst (λ (y : Held). AreBelow c.args.row.now.place y.rows) (sym (item_read c.loop-stored.lists.items x.index h c.at_mut-held.ensures.value ∙ was)) (c.requires.above x.index h (c.requires.within n none_stored c.loop-stored-test.true))

pub loop-stored-preserved : goal.loop-stored-preserved
loop-stored-preserved c =
    let h : Held = c.at_mut-held.result.now in
    let n = c.loop-stored.stored-index in
    let rows = c.args.rows.now in
    let x : StoredRow = get_or rows n none_stored in
    let i : ℕ = x.index in
    let row = c.args.row.now in
    let counted : Row = record row { count = x.count } in
    let init = c.args.lists.now.items in
    let lists = c.loop-stored.lists.items in
    let within : i < length init = c.requires.within n none_stored c.loop-stored-test.true in
    let inside : i < length lists = omega (arith, c.loop-stored.invariant.offered.number, within) in
    let new = first_stored rows n none_stored c.requires.once c.loop-stored-test.true in
    let value : h ≡ get_or lists i h = item_read c.loop-stored.lists.items x.index h c.at_mut-held.ensures.value in
    let added : c.add.new.self ≡ with_row counted h = added_is counted h c.add.new.self c.add.ensures.missed c.add.ensures.added in
    let after : c.add.new.self ≡ with_row counted (get_or lists i h) = added ∙ ap (with_row counted) value in
    let follows : Follows c.loop-stored.table c.add.new.table (get_or lists i h).rows (with_row counted (get_or lists i h)).rows =
    subst (λ (y : Held). Follows c.loop-stored.table c.add.new.table y.rows (with_row counted y).rows) value (subst (λ (y : Held). Follows c.loop-stored.table c.add.new.table h.rows y.rows) added c.add.ensures.table) in
    record {
      offered = subst (λ (xs : List StoredRow). AreOffered xs row init (set lists i c.add.new.self)) (sym (take_more rows n none_stored c.loop-stored-test.true)) (subst (λ (y : Held). AreOffered (take n rows ++ x ∷ []) row init (set lists i y)) (sym after) (stored_more (take n rows) x row init lists h c.loop-stored.invariant.offered within new));
      followed = subst (λ (y : Held). IsFollowed c.args.table.now c.add.new.table row.place (n + 1) (all_rows init) (all_rows (set lists i y))) (sym after) (followed_more c.args.table.now c.loop-stored.table c.add.new.table counted n (all_rows init) lists i h inside c.loop-stored.invariant.followed follows);
    }

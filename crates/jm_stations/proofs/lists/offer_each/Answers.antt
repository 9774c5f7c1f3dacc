use Rattle.std.proofs.Common.{◌≡◌, ◌<◌, ◌+◌, ◌++◌, ◌∷◌, [], ℕ, List, ◌∙◌, ap, sym, subst, get_or, set, take, length, arith}
use Rattle.std.proofs.lemmas.List.{take_more}
use Rattle.jm_gaps.proofs.Items.{item_read}
use Rattle.jm_pending.specs.Rows.{Held}
use Rattle.jm_lane.specs.Holders.{Follows}
use Rattle.jm_stations.specs.Kept.{all_rows, with_row, AreBelow, IsOffered}
use Rattle.jm_stations.proofs.Holders.{IsFollowed, followed_more}
use Rattle.jm_stations.proofs.Offers.{offered_other, offered_more, first_named, added_is}
use Rattle.jm_stations.proofs.lists.offer_each.Goals as goal

pub add-requires-clause-room : goal.add-requires-clause-room
add-requires-clause-room c =
    let h : Held = c.at_mut-held.result.now in
    let n = c.loop-index.index-index in
    let is = c.args.indexes.now in
    let new = first_named is n 0 c.requires.once c.loop-index-test.true in
    let was = offered_other (take n is) c.args.row.now c.args.lists.now.items c.loop-index.lists.items (get_or is n 0) h c.loop-index.invariant.offered (c.requires.within n 0 c.loop-index-test.true) new in
    subst (λ (x : Held). 0 < x.room) (sym (item_read c.loop-index.lists.items (get_or is n 0) h c.at_mut-held.ensures.value ∙ was)) (c.requires.room n 0 c.loop-index-test.true h)

pub add-requires-clause-above : goal.add-requires-clause-above
add-requires-clause-above c =
    let h : Held = c.at_mut-held.result.now in
    let n = c.loop-index.index-index in
    let is = c.args.indexes.now in
    let new = first_named is n 0 c.requires.once c.loop-index-test.true in
    let was = offered_other (take n is) c.args.row.now c.args.lists.now.items c.loop-index.lists.items (get_or is n 0) h c.loop-index.invariant.offered (c.requires.within n 0 c.loop-index-test.true) new in
    subst (λ (x : Held). AreBelow c.args.row.now.place x.rows) (sym (item_read c.loop-index.lists.items (get_or is n 0) h c.at_mut-held.ensures.value ∙ was)) (c.requires.above (get_or is n 0) h (c.requires.within n 0 c.loop-index-test.true))

pub loop-index-preserved : goal.loop-index-preserved
loop-index-preserved c =
    let h : Held = c.at_mut-held.result.now in
    let n = c.loop-index.index-index in
    let is = c.args.indexes.now in
    let i : ℕ = get_or is n 0 in
    let row = c.args.row.now in
    let init = c.args.lists.now.items in
    let lists = c.loop-index.lists.items in
    let within : i < length init = c.requires.within n 0 c.loop-index-test.true in
    let inside : i < length lists = omega (arith, c.loop-index.invariant.offered.number, within) in
    let new = first_named is n 0 c.requires.once c.loop-index-test.true in
    let value : h ≡ get_or lists i h = item_read c.loop-index.lists.items (get_or is n 0) h c.at_mut-held.ensures.value in
    let added : c.add.new.self ≡ with_row row h = added_is row h c.add.new.self c.add.ensures.missed c.add.ensures.added in
    let after : c.add.new.self ≡ with_row row (get_or lists i h) = added ∙ ap (with_row row) value in
    let follows : Follows c.loop-index.table c.add.new.table (get_or lists i h).rows (with_row row (get_or lists i h)).rows =
    subst (λ (x : Held). Follows c.loop-index.table c.add.new.table x.rows (with_row row x).rows) value (subst (λ (x : Held). Follows c.loop-index.table c.add.new.table h.rows x.rows) added c.add.ensures.table) in
    record {
      offered = subst (λ (xs : List ℕ). IsOffered xs row init (set lists i c.add.new.self)) (sym (take_more is n 0 c.loop-index-test.true)) (subst (λ (x : Held). IsOffered (take n is ++ i ∷ []) row init (set lists i x)) (sym after) (offered_more (take n is) row init lists i h c.loop-index.invariant.offered within new));
      followed = subst (λ (x : Held). IsFollowed c.args.table.now c.add.new.table row.place (n + 1) (all_rows init) (all_rows (set lists i x))) (sym after) (followed_more c.args.table.now c.loop-index.table c.add.new.table row n (all_rows init) lists i h inside c.loop-index.invariant.followed follows);
    }

use Rattle.std.proofs.Common.{◌≡◌, ◌++◌, ◌∷◌, [], ◌<◌, ◌∙◌, List, length, get_or, map, take, ap, sym, arith}
use Rattle.std.proofs.lemmas.List.{map_more}
use Rattle.jm_gaps.proofs.Items.{item_read}
use Rattle.jm_pending.specs.Rows.{Held}
use Rattle.jm_stations.specs.Kept.{without_room}
use Rattle.jm_stations.proofs.copies.copy_lists.Goals as goal

pub loop-index-preserved : goal.loop-index-preserved
loop-index-preserved c =
    let lists = c.args.lists.now.items in
    let i = c.loop-index.index in
    let h : Held = c.at.result.now in
    let copy : Held = c.in_ok-copy.copy in
    let inside : i < length lists = omega arith in
    let same : copy ≡ without_room h = c.in_ok-copy.ensures in
    let done : c.loop-index.copies.items ++ copy ∷ [] ≡ map without_room (take i lists) ++ copy ∷ [] = ap (λ (xs : List Held). xs ++ copy ∷ []) c.loop-index.invariant.copies in
    let one : map without_room (take i lists) ++ copy ∷ [] ≡ map without_room (take i lists) ++ without_room (get_or lists i h) ∷ [] = ap (λ (x : Held). map without_room (take i lists) ++ x ∷ []) (same ∙ ap without_room (item_read lists i h c.at.ensures)) in
    record {
      copies = c.push.ensures.items ∙ done ∙ one ∙ sym (map_more without_room lists i h inside);
      room = omega (arith, c.push.ensures.spare, c.loop-index.invariant.room);
    }

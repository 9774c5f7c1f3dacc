use Rattle.std.proofs.Common.{◌≡◌, ◌<◌, ◌∙◌, ap, sym, subst, refl, false, length, arith}
use Rattle.std.specs.List.{remove}
use Rattle.std.proofs.lemmas.List.Edits.{length-remove}
use Rattle.jm_gaps.proofs.Items.{item_read}
use Rattle.jm_pending.specs.Rows.{Held}
use Rattle.jm_lane.specs.Holders.{Covers}
use Rattle.jm_stations.specs.Kept.{all_shown}
use Rattle.jm_stations.specs.Stations.{is_shared}
use Rattle.jm_stations.proofs.Holders.{covers_one}
use Rattle.jm_stations.proofs.Indexes.{distinct_keys}
use Rattle.jm_stations.proofs.Receiving.{within_shown}
use Rattle.jm_stations.proofs.Removed.{all_removed, cleared, removed_kept, removed_shown}
use Rattle.jm_stations.proofs.Homes.{but_removed}
use Rattle.jm_stations.proofs.stations.Stations.remove.Goals as goal

pub remove-requires : goal.remove-requires
remove-requires c =
    let inside = within_shown c.self.inside.table c.self.inside.lists.items c.args.index (rw (← c.self.view_is) at c.requires) in
    omega (arith, c.self.invariant.3, inside)

pub clear-requires : goal.clear-requires
clear-requires c =
    let lists = c.self.inside.lists.items in
    let inside = within_shown c.self.inside.table lists c.args.index (rw (← c.self.view_is) at c.requires) in
    subst (λ (x : Held). Covers c.self.inside.table x.rows) (sym (item_read c.self.inside.lists.items c.args.index c.remove-held.result c.remove-held.ensures.item)) (covers_one c.self.inside.table lists c.args.index c.remove-held.result inside c.self.invariant.0.counted)

pub invariant_of-self : goal.invariant_of-self
invariant_of-self c =
    let keys = c.self.inside.keys.keys in
    let lists = c.self.inside.lists.items in
    let inside = within_shown c.self.inside.table lists c.args.index (rw (← c.self.view_is) at c.requires) in
    let within : c.args.index < length keys = omega (arith, c.self.invariant.3, inside) in
    let follows = cleared c.self.inside.table c.clear.new.table c.args.index c.remove-held.result c.clear.new.self lists (item_read c.self.inside.lists.items c.args.index c.remove-held.result c.remove-held.ensures.item) c.clear.ensures.rows c.clear.ensures.table in (
      rw c.remove-held.ensures.items (removed_kept c.self.inside.table c.clear.new.table c.self.inside.next_place c.args.index c.remove-held.result lists inside c.self.invariant.0 follows),
      omega (arith, c.remove_list.ensures.number, c.self.invariant.1, ap length c.remove-held.ensures.items, length-remove lists c.args.index inside),
      rw c.remove-held.ensures.items (but_removed c.self.inside.outstanding.indexes c.remove_list.new.self.indexes c.args.index lists inside c.remove_list.ensures.named c.self.invariant.2),
      rw (c.remove.ensures.keys, c.remove-held.ensures.items) (omega (arith, length-remove keys c.args.index within, length-remove lists c.args.index inside, c.self.invariant.3)),
      distinct_keys c.remove.new.self.keys c.len-number.ensures.once,
      λ none. rw c.remove.ensures.keys (all_removed (λ k. is_shared k ≡ false) keys c.args.index (c.self.invariant.5 none)),
    )

pub returns-clause-removed : goal.returns-clause-removed
returns-clause-removed c =
    let t = c.self.inside.table in
    let t' = c.clear.new.table in
    let lists = c.self.inside.lists.items in
    let k = c.args.index in
    let inside = within_shown t lists k (rw (← c.self.view_is) at c.requires) in
    let follows = cleared t t' k c.remove-held.result c.clear.new.self lists (item_read c.self.inside.lists.items c.args.index c.remove-held.result c.remove-held.ensures.item) c.clear.ensures.rows c.clear.ensures.table in
    let shown : all_shown t' c.remove-held.new.self.items ≡ remove (all_shown t lists) k = ap (all_shown t') c.remove-held.ensures.items ∙ removed_shown t t' c.self.inside.next_place k c.remove-held.result lists inside c.self.invariant.0 follows in
    rw (← c.self.view_is, c.remove.ensures.keys, shown) refl

pub returns-clause-message_room : goal.returns-clause-message_room
returns-clause-message_room c = rw (← c.self.view_is) c.clear.ensures.table.messages.room

pub returns-clause-key_room : goal.returns-clause-key_room
returns-clause-key_room c = rw (← c.self.view_is) (omega (arith, c.remove.ensures.spare, c.remove-held.ensures.spare, c.remove_list.ensures.room))

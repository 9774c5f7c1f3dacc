use Rattle.std.proofs.Common.{refl, ◌≡◌, ◌<◌, ◌+◌, ◌∷◌, [], ◌∙◌, ap, length, sym, false, None, min}
use Rattle.std.proofs.lemmas.List.{length_push}
use Rattle.std.proofs.lemmas.List.Elements.{All-push}
use Rattle.jm_pending.specs.Rows.{Held}
use Rattle.jm_stations.specs.Outstanding.{Outstanding}
use Rattle.jm_stations.specs.Stations.{index_in, is_shared}
use Rattle.jm_stations.proofs.Homes.{but_created}
use Rattle.jm_stations.proofs.Indexes.{distinct_keys, place_same, room_left}
use Rattle.jm_stations.proofs.Publishing.{created_kept}
use Rattle.jm_stations.proofs.stations.Stations.create.Goals as goal

pub insert-requires-clause-room : goal.insert-requires-clause-room
insert-requires-clause-room c =
    let room : 0 < min c.self.inside.keys.spare (min c.self.inside.lists.spare c.self.inside.outstanding.room) = rw (← c.self.view_is) at c.requires.room in
    room_left c.self.inside.keys.spare (min c.self.inside.lists.spare c.self.inside.outstanding.room) room

pub insert-requires-clause-absent : goal.insert-requires-clause-absent
insert-requires-clause-absent c =
    let absent : index_in c.self.inside.keys.keys c.args.key ≡ None = rw (← c.self.view_is) at c.requires.absent in
    place_same c.self.inside.keys.keys c.args.key ∙ absent

pub invariant_of-self : goal.invariant_of-self
invariant_of-self c =
    let keys = c.insert.ensures.keys in
    let lists = c.self.inside.lists.items in (
      rw (c.push.ensures.items, c.new.ensures) (created_kept c.self.inside.table c.self.inside.next_place lists _ c.self.invariant.0),
      ap (λ (o : Outstanding). o.number) c.add_list.ensures ∙ ap (λ n. n + 1) c.self.invariant.1 ∙ sym (ap length c.push.ensures.items ∙ length_push lists _),
      rw (c.push.ensures.items, c.add_list.ensures) (but_created c.self.inside.outstanding.indexes lists _ (ap (λ (h : Held). h.rows) c.new.ensures) c.self.invariant.2),
      ap length keys ∙ length_push c.self.inside.keys.keys c.args.key ∙ ap (λ n. n + 1) c.self.invariant.3 ∙ sym (ap length c.push.ensures.items ∙ length_push lists _),
      distinct_keys c.insert.new.self.keys c.len-number.ensures.once,
      λ none. rw keys (All-push (λ k. is_shared k ≡ false) c.self.inside.keys.keys c.args.key (c.self.invariant.5 (c.or_shared-self-inside.ensures.before none)) (c.or_shared-self-inside.ensures.key none)),
    )

use Rattle.std.proofs.Common.{◌≡◌, ◌∙◌, ap, map, refl, sym, length}
use Rattle.jm_stations.specs.Backlogs as spec
use Rattle.jm_stations.specs.Kept.{all_shown, without_room}
use Rattle.jm_stations.proofs.Room.{table_kept, table_shown}
use Rattle.jm_stations.proofs.Copied.{copied_kept, copied_shown}
use Rattle.jm_stations.specs.Outstanding.{Outstanding}
use Rattle.std.proofs.lemmas.List.{length-map}
use Rattle.jm_stations.proofs.Homes.{but_copied}
use Rattle.jm_stations.proofs.stations.Stations.copy.Goals as goal

pub invariant_of-result : goal.invariant_of-result
invariant_of-result c =
    let t = c.self.inside.table in
    let t' = c.in_ok-table.table in
    let lists = c.self.inside.lists.items in
    let copied : c.in_ok-lists.lists.items ≡ map without_room lists = c.in_ok-lists.ensures in (
      rw copied (table_kept t t' c.self.inside.next_place (map without_room lists) c.in_ok-table.ensures (copied_kept t c.self.inside.next_place lists c.self.invariant.0)),
      ap (λ (o : Outstanding). o.number) c.in_ok-outstanding.ensures ∙ c.self.invariant.1 ∙ sym (ap length copied ∙ length-map lists without_room),
      rw (ap (λ (o : Outstanding). o.indexes) c.in_ok-outstanding.ensures, copied) (but_copied c.self.inside.outstanding.indexes lists c.self.invariant.2),
      rw c.in_ok-keys.ensures (c.self.invariant.3 ∙ sym (ap length copied ∙ length-map lists without_room)),
      rw c.in_ok-keys.ensures c.self.invariant.4,
      λ none. rw c.in_ok-keys.ensures (c.self.invariant.5 none),
    )

pub returns : goal.returns
returns c =
    let t = c.self.inside.table in
    let t' = c.in_ok-table.table in
    let lists = c.self.inside.lists.items in
    let copied : c.in_ok-lists.lists.items ≡ map without_room lists = c.in_ok-lists.ensures in
    let shown : all_shown t' c.in_ok-lists.lists.items ≡ map spec.without_room (all_shown t lists) =
    ap (all_shown t') copied ∙ table_shown t t' (map without_room lists) c.in_ok-table.ensures ∙ copied_shown t lists in
    rw (← c.self.view_is, c.in_ok-keys.ensures, shown) refl

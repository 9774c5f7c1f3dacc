use Rattle.std.proofs.Common.{◌∙◌, ap, arith, sym}
use Rattle.std.proofs.lemmas.List.{length-map}
use Rattle.jm_stations.specs.Kept.{shown as shown_with, all_shown}
use Rattle.jm_stations.specs.Stations.{Stations}
use Rattle.jm_stations.proofs.Own.{keys_after, lists_after, no_list_shown_goes, no_shown_goes}
use Rattle.jm_stations.proofs.stations.Stations.close_own.Goals as goal

pub loop-index-preserved : goal.loop-index-preserved
loop-index-preserved c =
    let which = c.args.which.now in
    let keys = c.self.inside.keys.keys in
    let lists = all_shown c.self.inside.table c.self.inside.lists.items in
    let number = c.self.invariant.3 ∙ sym (length-map c.self.inside.lists.items (shown_with c.self.inside.table)) in
    let shown = c.loop-index.self in
    let left = c.remove.new.self in
    let at = c.in-Some.index in
    let w = c.loop-index.invariant in
    let found = c.in-Some.ensures in
    let same = ap (λ (v : Stations). v.keys) c.self.view_is in
    let alike = ap (λ (v : Stations). v.list) c.self.view_is in
    let gone = ap (λ (v : Stations). v.keys) c.remove.ensures.removed in
    let taken = ap (λ (v : Stations). v.list) c.remove.ensures.removed in
    record {
      keys = keys_after which keys shown.keys left.keys at same gone found.within found.found ∙ w.keys;
      list = lists_after which keys shown.keys left.keys lists shown.list left.list at same alike gone taken number found.within found.found ∙ w.list;
      next_place = ap (λ (v : Stations). v.next_place) c.remove.ensures.removed ∙ w.next_place;
      message_room = omega (arith, w.message_room, c.remove.ensures.message_room);
      key_room = omega (arith, w.key_room, c.remove.ensures.key_room);
    }

pub returns-clause-keys : goal.returns-clause-keys
returns-clause-keys c =
    sym (no_shown_goes c.args.which.now c.self.inside.keys.keys c.loop-index.self.keys (ap (λ (v : Stations). v.keys) c.self.view_is) c.in_default.ensures.none)
    ∙ c.loop-index.invariant.keys

pub returns-clause-list : goal.returns-clause-list
returns-clause-list c =
    sym (no_list_shown_goes c.args.which.now c.self.inside.keys.keys c.loop-index.self.keys (all_shown c.self.inside.table c.self.inside.lists.items) c.loop-index.self.list
    (ap (λ (v : Stations). v.keys) c.self.view_is) (ap (λ (v : Stations). v.list) c.self.view_is) (c.self.invariant.3 ∙ sym (length-map c.self.inside.lists.items (shown_with c.self.inside.table))) c.in_default.ensures.none)
    ∙ c.loop-index.invariant.list

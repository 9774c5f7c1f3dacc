use Rattle.std.proofs.Common.{◌≡◌, ◌∙◌, Bool, arith, ap, length, not, sym}
use Rattle.std.specs.List.{filter}
use Rattle.jm_dest.specs.declared.key.Key.{Key}
use Rattle.jm_machine.specs.Attached.{ended}
use Rattle.jm_pending.specs.Counts.{IsCounted}
use Rattle.jm_stations.specs.Kept.{all_rows, lists_under}
use Rattle.jm_stations.specs.Stations.{is_shared}
use Rattle.jm_stations.proofs.Closing.{as_many_left, closed_kept, closed_shown}
use Rattle.jm_stations.proofs.Indexes.{distinct_keys}
use Rattle.jm_stations.proofs.Removed.{all_false}
use Rattle.jm_stations.proofs.stations.Stations.close_each.Goals as goal

pub close_each-requires : goal.close_each-requires
close_each-requires c = record { number = c.self.invariant.3; counted = c.self.invariant.0.counted }

pub look_at-requires : goal.look_at-requires
look_at-requires c = omega (arith, c.close_each.ensures.fewer, c.self.invariant.1)

pub invariant_of-self : goal.invariant_of-self
invariant_of-self c =
    let lists = c.self.inside.lists.items in
    let keys = c.self.inside.keys.keys in
    let p : Key → Bool = λ k. not (ended c.args.which.now c.args.attached.now k) in
    let left : c.retain.new.self.keys ≡ filter p keys = c.retain.ensures.keys in
    let counted : IsCounted c.close_each.new.table (all_rows (lists_under p keys lists)) = rw c.close_each.ensures.lists at c.close_each.ensures.counted in (
      rw c.close_each.ensures.lists (closed_kept c.self.inside.table c.close_each.new.table c.self.inside.next_place p keys lists c.self.invariant.0 counted c.close_each.ensures.messages),
      c.look_at.ensures.number,
      c.look_at.ensures.others,
      ap length left ∙ as_many_left p keys lists c.self.invariant.3 ∙ sym (ap length c.close_each.ensures.lists),
      distinct_keys c.retain.new.self.keys c.len-number.ensures.once,
      λ none. all_false is_shared c.retain.new.self.keys (sym c.any-self-inside.ensures ∙ none),
    )

pub returns-clause-keys : goal.returns-clause-keys
returns-clause-keys c =
    let p : Key → Bool = λ k. not (ended c.args.which.now c.args.attached.now k) in
    let left : c.retain.new.self.keys ≡ filter p c.self.inside.keys.keys = c.retain.ensures.keys in
    rw (← c.self.view_is) left

pub returns-clause-list : goal.returns-clause-list
returns-clause-list c =
    let lists = c.self.inside.lists.items in
    let keys = c.self.inside.keys.keys in
    let p : Key → Bool = λ k. not (ended c.args.which.now c.args.attached.now k) in
    let counted : IsCounted c.close_each.new.table (all_rows (lists_under p keys lists)) = rw c.close_each.ensures.lists at c.close_each.ensures.counted in
    rw (c.close_each.ensures.lists, ← c.self.view_is) (closed_shown c.self.inside.table c.close_each.new.table p keys lists counted c.close_each.ensures.messages)

pub returns-clause-message_room : goal.returns-clause-message_room
returns-clause-message_room c = rw (← c.self.view_is) c.close_each.ensures.messages.room

pub returns-clause-key_room : goal.returns-clause-key_room
returns-clause-key_room c = rw (← c.self.view_is) (omega (arith, c.retain.ensures.spare, c.close_each.ensures.spare, c.look_at.ensures.room))

use Rattle.std.proofs.Common.{◌-◌, ◌<◌, None, Some, ap, arith, refl, subst, sym}
use Rattle.std.specs.Cmp.{nat_eq_equiv}
use Rattle.indexmap.proofs.CallerLemmas.{keys-with_value_at, updates-with_value_at}
use Rattle.indexmap.specs.IndexMap.{with_value_at}
use Rattle.jm_lane.specs.declared.table.Stored.{Stored}
use Rattle.jm_lane.specs.Holders.{holders_in, message_in}
use Rattle.jm_lane.proofs.Releasing.{StandsAt, keeps_messages, loses, same_key, still_table, value_there}
use Rattle.jm_lane.proofs.table.Table.release.Goals as goal

pub returns-then-stored-eq1-clause-holders : goal.returns-then-stored-eq1-clause-holders
returns-then-stored-eq1-clause-holders c =
    let old = c.self.inside.messages.entries in
    let place_is = same_key c.args.place c.args.place c.in_ok-last.field-0-0 c.in_ok-index.stored.now c.in_ok-last.last _ (rw (← c.self.view_is) at c.in_ok-index.ensures.entry) c.in_ok-last.ensures.entry refl in
    let gone = subst (λ k. StandsAt old c.swap_remove_index.new.self.entries k None) place_is c.in_ok-last.ensures.updates.0 in
    rw (← c.self.view_is) (loses _ _ c.args.place None gone (omega (arith, c.if-stored-eq1.true, ap holders_in (rw (← c.self.view_is) at c.in_ok-index.ensures.value))))

pub overflow_sub-stored : goal.overflow_sub-stored
overflow_sub-stored c =
    let some : 0 < c.in_ok-index.stored.now.holders = c.self.invariant.held c.args.place c.in_ok-index.stored.now (sym (rw (← c.self.view_is) at c.in_ok-index.ensures.value)) in
    let same = value_there c.self.inside.messages.entries c.in_ok-index.index c.args.place c.in_ok-index.stored.now c.in_ok-stored.stored.now (rw (← c.self.view_is) at c.in_ok-index.ensures.entry) c.in_ok-stored.ensures.value in
    rw same (omega (arith, some))

pub invariant_of-self-2 : goal.invariant_of-self-2
invariant_of-self-2 c =
    let m = c.self.inside.messages in
    let w : Stored = record { message = c.in_ok-stored.stored.now.message; holders = c.in_ok-stored.stored.now.holders - 1 } in
    let same = value_there m.entries c.in_ok-index.index c.args.place c.in_ok-index.stored.now c.in_ok-stored.stored.now (rw (← c.self.view_is) at c.in_ok-index.ensures.entry) c.in_ok-stored.ensures.value in
    let some : 0 < c.in_ok-index.stored.now.holders = c.self.invariant.held c.args.place c.in_ok-index.stored.now (sym (rw (← c.self.view_is) at c.in_ok-index.ensures.value)) in
    let at = (updates-with_value_at m c.in_ok-index.index w nat_eq_equiv c.in_ok-stored.ensures.unique c.args.place c.in_ok-index.stored.now (rw (← c.self.view_is) at c.in_ok-index.ensures.entry)).0 in
    let left : 0 < w.holders = rw same (let more = c.if-stored-eq1.false in omega (arith, some, more)) in
    still_table m.entries (with_value_at m c.in_ok-index.index w).entries c.args.place w c.self.invariant at (rw (keys-with_value_at m c.in_ok-index.index w) c.self.invariant.once) left

pub returns-clause-holders : goal.returns-clause-holders
returns-clause-holders c =
    let m = c.self.inside.messages in
    let w : Stored = record { message = c.in_ok-stored.stored.now.message; holders = c.in_ok-stored.stored.now.holders - 1 } in
    let same = value_there m.entries c.in_ok-index.index c.args.place c.in_ok-index.stored.now c.in_ok-stored.stored.now (rw (← c.self.view_is) at c.in_ok-index.ensures.entry) c.in_ok-stored.ensures.value in
    let some : 0 < c.in_ok-index.stored.now.holders = c.self.invariant.held c.args.place c.in_ok-index.stored.now (sym (rw (← c.self.view_is) at c.in_ok-index.ensures.value)) in
    let at = (updates-with_value_at m c.in_ok-index.index w nat_eq_equiv c.in_ok-stored.ensures.unique c.args.place c.in_ok-index.stored.now (rw (← c.self.view_is) at c.in_ok-index.ensures.entry)).0 in
    rw (← c.self.view_is) (loses _ _ c.args.place (Some w) at (rw same (omega (arith, some, ap holders_in (rw (← c.self.view_is) at c.in_ok-index.ensures.value)))))

pub returns-clause-messages : goal.returns-clause-messages
returns-clause-messages c =
    let m = c.self.inside.messages in
    let w : Stored = record { message = c.in_ok-stored.stored.now.message; holders = c.in_ok-stored.stored.now.holders - 1 } in
    let same = value_there m.entries c.in_ok-index.index c.args.place c.in_ok-index.stored.now c.in_ok-stored.stored.now (rw (← c.self.view_is) at c.in_ok-index.ensures.entry) c.in_ok-stored.ensures.value in
    let some : 0 < c.in_ok-index.stored.now.holders = c.self.invariant.held c.args.place c.in_ok-index.stored.now (sym (rw (← c.self.view_is) at c.in_ok-index.ensures.value)) in
    let at = (updates-with_value_at m c.in_ok-index.index w nat_eq_equiv c.in_ok-stored.ensures.unique c.args.place c.in_ok-index.stored.now (rw (← c.self.view_is) at c.in_ok-index.ensures.entry)).0 in
    rw (← c.self.view_is) (keeps_messages _ _ c.args.place (Some w) at (λ left. rw same (ap message_in (rw (← c.self.view_is) at c.in_ok-index.ensures.value))) (omega arith))

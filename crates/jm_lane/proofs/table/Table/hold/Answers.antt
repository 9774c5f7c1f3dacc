use Rattle.std.proofs.Common.{◌+◌, Some, ap, arith}
use Rattle.std.specs.Cmp.{nat_eq_equiv}
use Rattle.indexmap.proofs.CallerLemmas.{keys-with_value_at, updates-with_value_at}
use Rattle.indexmap.specs.IndexMap.{with_value_at}
use Rattle.jm_lane.specs.declared.table.Stored.{Stored}
use Rattle.jm_lane.specs.Holders.{holders_in, message_in}
use Rattle.jm_lane.proofs.Releasing.{gains, keeps_messages, no_value, still_table, value_there}
use Rattle.jm_lane.proofs.table.Table.hold.Goals as goal

pub invariant_of-self : goal.invariant_of-self
invariant_of-self c =
    let m = c.self.inside.messages in
    let i = c.in-Some.index in
    let w : Stored = record { message = c.in-Some-get_index_mut.stored.now.message; holders = c.in-Some-get_index_mut.stored.now.holders + 1 } in
    let entry = rw (← c.self.view_is) at c.in-Some.ensures.entry in
    let at = (updates-with_value_at m i w nat_eq_equiv c.in-Some-get_index_mut.ensures.unique c.args.place c.in-Some.field-0-1.now entry).0 in
    still_table m.entries (with_value_at m i w).entries c.args.place w c.self.invariant at (rw (keys-with_value_at m i w) c.self.invariant.once) (omega arith)

pub returns-in-Some-get_index_mut-clause-holders : goal.returns-in-Some-get_index_mut-clause-holders
returns-in-Some-get_index_mut-clause-holders c =
    let m = c.self.inside.messages in
    let i = c.in-Some.index in
    let w : Stored = record { message = c.in-Some-get_index_mut.stored.now.message; holders = c.in-Some-get_index_mut.stored.now.holders + 1 } in
    let entry = rw (← c.self.view_is) at c.in-Some.ensures.entry in
    let same = value_there m.entries i c.args.place c.in-Some.field-0-1.now c.in-Some-get_index_mut.stored.now entry c.in-Some-get_index_mut.ensures.value in
    let at = (updates-with_value_at m i w nat_eq_equiv c.in-Some-get_index_mut.ensures.unique c.args.place c.in-Some.field-0-1.now entry).0 in
    rw (← c.self.view_is) (gains _ _ c.args.place (Some w) at (rw same (omega (arith, ap holders_in (rw (← c.self.view_is) at c.in-Some.ensures.value)))))

pub returns-in-Some-get_index_mut-clause-messages : goal.returns-in-Some-get_index_mut-clause-messages
returns-in-Some-get_index_mut-clause-messages c =
    let m = c.self.inside.messages in
    let i = c.in-Some.index in
    let w : Stored = record { message = c.in-Some-get_index_mut.stored.now.message; holders = c.in-Some-get_index_mut.stored.now.holders + 1 } in
    let entry = rw (← c.self.view_is) at c.in-Some.ensures.entry in
    let same = value_there m.entries i c.args.place c.in-Some.field-0-1.now c.in-Some-get_index_mut.stored.now entry c.in-Some-get_index_mut.ensures.value in
    let at = (updates-with_value_at m i w nat_eq_equiv c.in-Some-get_index_mut.ensures.unique c.args.place c.in-Some.field-0-1.now entry).0 in
    rw (← c.self.view_is) (keeps_messages _ _ c.args.place (Some w) at (λ left. rw same (ap message_in (rw (← c.self.view_is) at c.in-Some.ensures.value))) (omega arith))

pub returns-in_default-get_index_mut-clause-holders : goal.returns-in_default-get_index_mut-clause-holders
returns-in_default-get_index_mut-clause-holders c =
    no_value c.self.inside.messages.entries c.in-Some.index c.args.place c.in-Some.field-0-1.now (rw (← c.self.view_is) at c.in-Some.ensures.entry) c.in_default-get_index_mut.ensures.value

use Rattle.std.proofs.Common.{◌<◌, ◌≤◌, ◌++◌, ◌∙◌, ap, arith, length, refl, sym, None}
use Rattle.std.proofs.lemmas.Bool.Decides.{nat_tests}
use Rattle.std.proofs.lemmas.List.{length-append}
use Rattle.jm_dest.specs.declared.key.Key.{Key}
use Rattle.jm_machine.specs.Under.{placed_under}
use Rattle.jm_stations.specs.Backlogs.{Backlog, empty}
use Rattle.jm_plans.specs.Provider.{state_of}
use Rattle.jm_plans.proofs.Planned.{of_parts}
use Rattle.jm_core.proofs.ReadKeys.{key_behind, rows_first}
use Rattle.jm_core.proofs.reading.rows_at_in.Goals as goal

pub returns-then-index-subscriptions : goal.returns-then-index-subscriptions
returns-then-index-subscriptions c = λ d.
    let i = c.core.inside in
    let p = of_parts i.opening i.limit i.sessions i.subs i.stations i.queues in
    let b : Backlog = empty None in
    let keys = c.len-subscriptions.ensures.keys in
    let less : c.args.index < c.len-subscriptions.result = grind (arith, nat_tests, c.if-index-subscriptions.true) in
    rw (← c.core.view_is) (c.new.ensures b ∙ rows_first i.limit i.stations.next_place p c.core.invariant.0 c.args.index d b (omega (arith, less, keys)))

pub rows_at-requires : goal.rows_at-requires
rows_at-requires c =
    let i = c.core.inside in
    let keys = c.len-subscriptions.ensures.keys in
    let within : c.args.index < length (i.stations.keys ++ i.queues.keys) = rw (← c.core.view_is) at c.requires in
    let more : c.len-subscriptions.result ≤ c.args.index = grind (arith, nat_tests, c.if-index-subscriptions.false) in
    omega (arith, keys, within, more, length-append i.stations.keys i.queues.keys)

pub returns : goal.returns
returns c = λ d.
    let i = c.core.inside in
    let p = of_parts i.opening i.limit i.sessions i.subs i.stations i.queues in
    let more : c.len-subscriptions.result ≤ c.args.index = grind (arith, nat_tests, c.if-index-subscriptions.false) in
    rw (← c.core.view_is) (
    c.rows_at.ensures (state_of p) d refl
    ∙ ap (λ (key : Key). placed_under (state_of p) key) (sym (key_behind i.limit i.stations.next_place p c.core.invariant.0 c.len-subscriptions.result c.args.index d (sym c.len-subscriptions.ensures.keys) more))
    )

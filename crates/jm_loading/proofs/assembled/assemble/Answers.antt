use Rattle.std.proofs.Common.{◌≡◌, List, ap, arith, length}
use Rattle.std.proofs.lemmas.Result.{err_from_is_err_and}
use Rattle.jm_parts.specs.declared.stored.StoredMessage.{StoredMessage}
use Rattle.jm_loading.specs.Fitting.{AreAllFit}
use Rattle.jm_loading.specs.Holding.{AreHeldAs}
use Rattle.jm_loading.specs.Messages.{ArePlacedAs}
use Rattle.jm_loading.specs.Stations.{AreStationsOf}
use Rattle.jm_loading.proofs.Kept.{delay_order, delays_fit, delays_told, kept_told}
use Rattle.jm_loading.proofs.Taken.{held_back}
use Rattle.jm_loading.proofs.Together.{together}
use Rattle.jm_loading.proofs.Told.{told_delayed, told_kept}
use Rattle.jm_loading.proofs.Unfit.{fit_sorted}
use Rattle.jm_loading.proofs.assembled.assemble.Goals as goal

pub check_kept-requires : goal.check_kept-requires
check_kept-requires c = fit_sorted delay_order _ c.args.delays.now c.in_ok-check_delays.ensures.ok

pub returns-in_err-check_delays-clause-err : goal.returns-in_err-check_delays-clause-err
returns-in_err-check_delays-clause-err c =
    let rows = c.args.messages.items in
    let stations = c.in_ok-stations.stations in
    let subscriptions = stations.subscriptions.items in
    let old = c.in_ok-messages.messages in
    let new = c.take_all.new.messages in
    let placed : ArePlacedAs rows c.deref_mut.result.now = rw c.deref_mut.ensures.value c.in_ok-messages.ensures.ok in
    let length_is : length c.deref_mut.result.now ≡ length old.items = ap (λ (xs : List StoredMessage). length xs) c.deref_mut.ensures.value in
    let held : AreHeldAs rows subscriptions c.args.held.now c.deref.result.now = held_back rows subscriptions c.args.held.now old.items new c.deref.result.now old.len (omega (arith, length_is)) (omega arith) c.deref.ensures.value (c.in_ok-take_all.ensures.ok rows placed) in
    let of : AreStationsOf c.args.stations.items stations.queues.items subscriptions = record { known = c.in_ok-stations.ensures.fit.may; queues_are = c.in_ok-stations.ensures.queues; subscriptions_are = c.in_ok-stations.ensures.subscriptions } in
    let fit_held = c.in_ok-take_all.ensures.fit c.args.stations.items of rows placed in
    let fault = c.in_err-check_delays.field-0.0 in
    let passed = err_from_is_err_and c.from_residual-in_err-check_delays.result c.from_residual-in_err-check_delays.ensures.1 in
    rw (passed.1, passed.2) (told_delayed c.args.stations.items rows c.args.held.now c.args.delays.now fault c.in_ok-stations.ensures.fit c.in_ok-messages.ensures.fit fit_held
    (delays_told rows c.deref.result.now held.placed held.same c.args.delays.now fault c.in_err-check_delays.ensures.err))

pub returns-in_err-check_kept-clause-err : goal.returns-in_err-check_kept-clause-err
returns-in_err-check_kept-clause-err c =
    let rows = c.args.messages.items in
    let stations = c.in_ok-stations.stations in
    let subscriptions = stations.subscriptions.items in
    let old = c.in_ok-messages.messages in
    let new = c.take_all.new.messages in
    let placed : ArePlacedAs rows c.deref_mut.result.now = rw c.deref_mut.ensures.value c.in_ok-messages.ensures.ok in
    let length_is : length c.deref_mut.result.now ≡ length old.items = ap (λ (xs : List StoredMessage). length xs) c.deref_mut.ensures.value in
    let held : AreHeldAs rows subscriptions c.args.held.now c.deref.result.now = held_back rows subscriptions c.args.held.now old.items new c.deref.result.now old.len (omega (arith, length_is)) (omega arith) c.deref.ensures.value (c.in_ok-take_all.ensures.ok rows placed) in
    let kept : AreHeldAs rows subscriptions c.args.held.now c.deref-2.result.now = held_back rows subscriptions c.args.held.now old.items new c.deref-2.result.now old.len (omega (arith, length_is)) (omega arith) c.deref-2.ensures.value (c.in_ok-take_all.ensures.ok rows placed) in
    let of : AreStationsOf c.args.stations.items stations.queues.items subscriptions = record { known = c.in_ok-stations.ensures.fit.may; queues_are = c.in_ok-stations.ensures.queues; subscriptions_are = c.in_ok-stations.ensures.subscriptions } in
    let fit_held = c.in_ok-take_all.ensures.fit c.args.stations.items of rows placed in
    let fault = c.in_err-check_kept.field-0.0 in
    let all : AreAllFit c.args.stations.items rows c.args.held.now c.args.delays.now = record { fit_stations = c.in_ok-stations.ensures.fit; fit_messages = c.in_ok-messages.ensures.fit; fit_held = fit_held; fit_delays = delays_fit rows c.deref.result.now held.placed held.same c.args.delays.now c.in_ok-check_delays.ensures.ok } in
    let passed = err_from_is_err_and c.from_residual-in_err-check_kept.result c.from_residual-in_err-check_kept.ensures.1 in
    rw (passed.1, passed.2) (told_kept c.args.stations.items rows c.args.held.now c.args.delays.now fault all
    (kept_told c.args.stations.items rows stations.queues.items subscriptions of c.in_ok-stations.ensures.durable c.in_ok-stations.ensures.sorted c.args.held.now c.deref-2.result.now kept c.args.delays.now fault c.in_err-check_kept.ensures.err))

pub returns-clause-ok : goal.returns-clause-ok
returns-clause-ok c =
    let rows = c.args.messages.items in
    let stations = c.in_ok-stations.stations in
    let subscriptions = stations.subscriptions.items in
    let old = c.in_ok-messages.messages in
    let new = c.take_all.new.messages in
    let placed : ArePlacedAs rows c.deref_mut.result.now = rw c.deref_mut.ensures.value c.in_ok-messages.ensures.ok in
    let length_is : length c.deref_mut.result.now ≡ length old.items = ap (λ (xs : List StoredMessage). length xs) c.deref_mut.ensures.value in
    let held : AreHeldAs rows subscriptions c.args.held.now c.deref.result.now = held_back rows subscriptions c.args.held.now old.items new c.deref.result.now old.len (omega (arith, length_is)) (omega arith) c.deref.ensures.value (c.in_ok-take_all.ensures.ok rows placed) in
    let kept = rw c.deref-2.ensures.value at c.in_ok-check_kept.ensures.ok in
    together c.args.stations.items rows c.args.held.now c.args.delays.now subscriptions _ c.in_ok-stations.ensures.subscriptions c.in_ok-stations.ensures.fit.may c.in_ok-stations.ensures.durable
    (rw c.deref.ensures.value at held) (rw c.deref.ensures.value at c.in_ok-check_delays.ensures.ok).may (λ k d l. (kept k d l).held) (λ k d l. (kept k d l).delayed)

pub returns-clause-fit : goal.returns-clause-fit
returns-clause-fit c =
    let rows = c.args.messages.items in
    let stations = c.in_ok-stations.stations in
    let subscriptions = stations.subscriptions.items in
    let old = c.in_ok-messages.messages in
    let new = c.take_all.new.messages in
    let placed : ArePlacedAs rows c.deref_mut.result.now = rw c.deref_mut.ensures.value c.in_ok-messages.ensures.ok in
    let length_is : length c.deref_mut.result.now ≡ length old.items = ap (λ (xs : List StoredMessage). length xs) c.deref_mut.ensures.value in
    let held : AreHeldAs rows subscriptions c.args.held.now c.deref.result.now = held_back rows subscriptions c.args.held.now old.items new c.deref.result.now old.len (omega (arith, length_is)) (omega arith) c.deref.ensures.value (c.in_ok-take_all.ensures.ok rows placed) in
    let of : AreStationsOf c.args.stations.items stations.queues.items subscriptions = record { known = c.in_ok-stations.ensures.fit.may; queues_are = c.in_ok-stations.ensures.queues; subscriptions_are = c.in_ok-stations.ensures.subscriptions } in
    let fit_held = c.in_ok-take_all.ensures.fit c.args.stations.items of rows placed in
    record { fit_stations = c.in_ok-stations.ensures.fit; fit_messages = c.in_ok-messages.ensures.fit; fit_held = fit_held; fit_delays = delays_fit rows c.deref.result.now held.placed held.same c.args.delays.now c.in_ok-check_delays.ensures.ok }

use Rattle.std.proofs.Common.{◌≡◌, ◌∙◌, ap, arith, length, sym}
use Rattle.std.proofs.lemmas.List.{length-map}
use Rattle.jm_seats.specs.Desks.{seats_at}
use Rattle.jm_seats.specs.Seats.{owner_of}
use Rattle.jm_seats.proofs.Places.{mapped_none, owner_within}
use Rattle.jm_seats.proofs.Senders.{asked_senders, fits_senders}
use Rattle.jm_seats.proofs.seats.Seats.call.Goals as goal

pub returns-else-place-len-clause-none : goal.returns-else-place-len-clause-none
returns-else-place-len-clause-none g c =
    let old = c.args.self.now in
    let call = c.args.call in
    let ds = c.self.inside.desks.items in
    let place : c.owner_of-place.result ≡ owner_of old.seats call =
    c.owner_of-place.ensures ∙ ap (λ xs. owner_of (seats_at xs) call) c.as_slice.ensures.value ∙ ap (λ s. owner_of s.seats call) c.self.view_is in
    let many : length ds ≡ length old.seats = sym (length-map ds (λ d. d.seat)) ∙ ap (λ s. length s.seats) c.self.view_is in
    let nowhere : owner_of old.seats call ≡ length old.seats =
    omega (arith, owner_within old.seats call, place, many, c.if-place-len.false, c.len.ensures, c.self.inside.desks.ok.0) in
    mapped_none c.ask_by.result (λ none. (none.0, nowhere, none.1)) c.ask_by.ensures.none

pub returns-then-place-len-clause-senders : goal.returns-then-place-len-clause-senders
returns-then-place-len-clause-senders g c = fits_senders c.args.self.now c.args.call c.call_at.result c.call_at.new.self c.call_at.ensures

pub returns-else-place-len-clause-senders : goal.returns-else-place-len-clause-senders
returns-else-place-len-clause-senders g c =
    asked_senders c.ask_by.result c.args.self.now c.args.call c.ask_by.new.self _ c.ask_by.ensures.some c.ask_by.ensures.none

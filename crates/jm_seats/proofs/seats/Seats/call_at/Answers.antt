use Rattle.std.proofs.Common.{◌∙◌, ◌<◌, ap, arith, length, set, subst, sym}
use Rattle.std.proofs.lemmas.List.{length-map}
use Rattle.jm_seats.specs.declared.desk.Desk.{Desk}
use Rattle.jm_seats.specs.Seats.{Seating, owner_of, SeatsFit}
use Rattle.jm_seats.specs.Desks.{seats_at}
use Rattle.jm_seats.proofs.Places.{at_place}
use Rattle.jm_seats.proofs.seats.Seats.call_at.Goals as goal

pub returns : goal.returns
returns g c =
    let ds = c.self.inside.desks.items in
    let i = c.args.place in
    let call = c.args.call in
    let desk = c.index_mut.result.now in
    let made : Desk g.row.L.Denot = record { seat = c.call.new.self; calls = desk.calls; replies = desk.replies } in
    let new : Seating = record { seats = seats_at (set ds i made); connections = c.self.inside.connections } in
    let P : Seating → Type 0 = λ old. SeatsFit old call c.call.result new in
    let less : i < length ds = omega (arith, c.requires.within, ap (λ s. length s.seats) c.self.view_is, length-map ds (λ d. d.seat)) in
    subst P c.self.view_is
    (at_place ds c.self.inside.connections i call c.call.result desk made (c.requires.place ∙ ap (λ s. owner_of s.seats call) (sym c.self.view_is)) less
    c.index_mut.ensures.value c.call.ensures)

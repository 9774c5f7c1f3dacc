use Rattle.std.proofs.Common.{◌∙◌, ap, arith, map, subst, sym}
use Rattle.std.specs.Prelude.{All}
use Rattle.jm_seats.specs.declared.desk.Desk.{Desk}
use Rattle.jm_seats.specs.Desks.{seats_at}
use Rattle.jm_seats.specs.Seats.{unopened_at, IsUnused}
use Rattle.jm_seats.proofs.Places.{halves_more, unused_more}
use Rattle.jm_seats.proofs.seats.Seats.new.Goals as goal

pub loop-session-preserved : goal.loop-session-preserved
loop-session-preserved g c =
    let inv = c.loop-session.invariant in
    let desks = c.loop-session.desks.items in
    let all = c.args.sessions.now in
    let i = c.loop-session.session-index in
    let session = c.session-item.result in
    let desk : Desk g.row.L.Denot = record { seat = c.new.result; calls = c.new-in-loop-session.result; replies = c.new-in-loop-session-2.result } in
    record {
      halves = ap (λ xs. map (λ seat. seat.half) (seats_at xs)) c.push_reserved.ensures.items
          ∙ halves_more desks desk (unopened_at c.args.opening) all i session c.loop-session-test.true c.session-item.is inv.halves c.new.ensures.half;
      unused = subst (λ xs. All (λ seat. IsUnused seat.pass) (seats_at xs)) (sym c.push_reserved.ensures.items)
          (unused_more desks desk inv.unused (subst IsUnused (sym c.new.ensures.pass) c.in_ok-pass.ensures.pass));
      count = omega (arith, inv.count, c.push_reserved.ensures.len);
      room = omega (arith, inv.room, c.push_reserved.ensures.capacity);
    }

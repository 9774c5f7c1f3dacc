use Rattle.std.proofs.Common.{List, [], ◌∷◌, ◌++◌, arith, length-append, subst, sym}
use Rattle.std.specs.Prelude.{Result}
use Rattle.jm_base.specs.declared.refusal.Refusal.{Refusal}
use Rattle.jm_machine.specs.declared.answer.Answer.{Answer}
use Rattle.jm_seats.specs.Seat.{SeatRan}
use Rattle.jm_seats.proofs.Ran.{ran_on}
use Rattle.jm_seats.proofs.desk.call_all.Goals as goal

pub loop-call-preserved : goal.loop-call-preserved
loop-call-preserved g c =
    let inv = c.loop-call.invariant in
    let calls = c.loop-call.yielded in
    let call = c.in-Some.call in
    let P : List (Result Answer Refusal) → Type 0 = λ replies. SeatRan c.args.seat.now (calls ++ call ∷ []) replies c.call.new.self in
    record {
      ran = subst P (sym c.push_reserved.ensures.items)
          (ran_on c.args.seat.now c.loop-call.seat c.call.new.self calls c.loop-call.replies.items call c.call.result inv.ran c.call.ensures);
      count = omega (arith, inv.count, c.push_reserved.ensures.len, length-append calls (call ∷ []));
      room = omega (arith, inv.room, c.push_reserved.ensures.capacity);
    }

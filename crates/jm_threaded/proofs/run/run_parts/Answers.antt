use Rattle.std.proofs.Common.{[], ◌∷◌, ◌++◌, append_assoc, ap, refl, subst, sym, ◌∙◌}
use Rattle.std.specs.Vec.Iter.{into_iter_items}
use Rattle.jm_seats.specs.Faults.{OnNoSeat}
use Rattle.jm_threaded.specs.Runs.{IsNowhere, PartsFit}
use Rattle.jm_threaded.proofs.Made.{made_on}
use Rattle.jm_threaded.proofs.run.run_parts.Goals as goal

pub loop-part-init : goal.loop-part-init
loop-part-init g c = record {
  made = (c.new-replies.ensures.items, refl);
  senders = refl;
  rest = sym c.into_iter-part-iterator.ensures.into_iter_gives.0;
}

pub loop-part-preserved : goal.loop-part-preserved
loop-part-preserved g c =
    let inv = c.loop-part.invariant in
    let before = c.loop-part.yielded in
    let part = c.in-Some.part in
    let fits = c.in-Ok.ensures.fits in
    record {
      made = made_on c.args.seats.now c.loop-part.seats c.make_part.new.seats before c.loop-part.replies.items fits.0 c.make_part.new.replies.items part inv.made fits.2 fits.1;
      senders = c.in-Ok.ensures.senders ∙ inv.senders;
      rest = inv.rest ∙ ap (λ rest. before ++ rest) c.in-Some.ensures.steps.0 ∙ sym (append_assoc before (part ∷ []) (into_iter_items c.next.new.self));
    }

pub returns-in-Err-clause-stopped : goal.returns-in-Err-clause-stopped
returns-in-Err-clause-stopped g c =
    let inv = c.loop-part.invariant in
    let before = c.loop-part.yielded in
    let part = c.in-Some.part in
    let same = c.in-Err.ensures.same in
    record {
      before = before;
      part = part;
      behind = into_iter_items c.next.new.self;
      stands = inv.rest ∙ ap (λ rest. before ++ rest) c.in-Some.ensures.steps.0;
      fit = subst (λ s. PartsFit c.args.seats.now before c.make_part.new.replies.items s) (sym same.1)
          (subst (λ r. PartsFit c.args.seats.now before r c.loop-part.seats) (sym same.0) inv.made);
      cause = subst (λ s. OnNoSeat c.in-Err.fault (IsNowhere s.seats part)) (sym same.1) c.in-Err.ensures.fault;
    }

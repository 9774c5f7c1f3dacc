use Rattle.std.proofs.Common.{◌∙◌, ◌<◌, ap, arith, get_or, length, refl, rules, sym}
use Rattle.std.proofs.Math.Seq.{map-set_same}
use Rattle.jm_seats.specs.declared.desk.Desk.{Desk}
use Rattle.jm_seats.proofs.Steps.{pushed_each}
use Rattle.jm_seats.proofs.stretch.gather.Goals as goal

pub loop-desk-preserved : goal.loop-desk-preserved
loop-desk-preserved g c =
    let inv = c.loop-desk.invariant in
    let desks = c.loop-desk.desks in
    let told = c.loop-desk.told in
    let all = c.args.desks.now in
    let i = c.loop-desk.desk-index in
    let desk = c.desk-item.result in
    let here : i < length desks = omega (arith, c.loop-desk-test.true, c.loop-desk.auto.desks) in
    let there : i < length all = omega (arith, here, c.loop-desk.auto.desks) in
    let placed = get_or desks i desk in
    let emptied : Desk g.row.L.Denot = record { seat = placed.seat; calls = placed.calls; replies = c.replace.new.dest } in
    record {
      len = omega (arith, inv.len, c.push_reserved.ensures.len);
      room = search rules;
      seats = map-set_same (λ d. d.seat) desks i emptied desk refl ∙ inv.seats;
      told = λ k d e less. ap (λ xs. (get_or xs k d).items) c.push_reserved.ensures.items
          ∙ pushed_each (λ v. v.items) (λ d. d.replies.items) told.items all c.replace.result desk i (sym told.ok.0 ∙ inv.len) there
          (c.desk-item.is ∙ inv.left i desk (omega arith) here)
          (ap (λ v. v.items) c.replace.ensures.value ∙ ap (λ d. d.replies.items) (sym c.desk-item.is)) inv.told k d e less;
      left = search rules;
    }

use Rattle.std.proofs.Common.{◌∙◌, ◌<◌, ap, arith, length, rules}
use Rattle.std.proofs.Math.Seq.{map-set_same}
use Rattle.jm_seats.specs.Desks.{IsReady}
use Rattle.jm_seats.proofs.Steps.{set_all, set_each, set_left}
use Rattle.jm_seats.proofs.stretch.lay_out.Goals as goal

pub loop-place-preserved : goal.loop-place-preserved
loop-place-preserved g c =
    let inv = c.loop-place.invariant in
    let desks = c.loop-place.desks in
    let parts = c.loop-place.parts.items in
    let all = c.args.parts.items in
    let i = c.loop-place.place in
    let new = c.lay.new.desk in
    let desk = c.index-desks-place.result in
    let part = c.index_mut.result.now in
    let here : i < length desks = omega (arith, c.loop-place-test.true, inv.len) in
    let there : i < length all = omega (arith, here, inv.len, c.requires, c.args.parts.ok.0) in
    record {
      len = search rules;
      seats = map-set_same (λ d. d.seat) desks i new desk c.lay.ensures.seat ∙ inv.seats;
      count = inv.count;
      calls = set_each (λ d. d.calls.items) (λ v. v.items) desks all new part i here there (c.index_mut.ensures.value ∙ inv.left i part (omega arith))
          (c.lay.ensures.calls ∙ ap (λ v. v.items) c.replace-calls.ensures.value) inv.calls;
      ready = set_all (λ d. IsReady d) desks new i here c.lay.ensures.ready inv.ready;
      left = set_left parts all c.replace-calls.new.dest i inv.left;
    }

use Rattle.std.proofs.Common.{◌∙◌, ap, arith, length, sym}
use Rattle.std.specs.Prelude.{map}
use Rattle.std.proofs.lemmas.List.Edits.{length-remove}
use Rattle.indexmap.specs.IndexMap.{values}
use Rattle.jm_machine.specs.Machine.{are_meant, closed_consumer, of_number}
use Rattle.jm_machine.specs.Sections.{own_place}
use Rattle.jm_session.specs.declared.number.ConsumerNumber.{ConsumerNumber}
use Rattle.jm_session.proofs.Closed.{active_numbers, closed_first, consumers_left, number_gone}
use Rattle.jm_session.proofs.Opened.{map_twice}
use Rattle.jm_session.proofs.closing.close_consumers.Goals as goal

pub loop-index-preserved : goal.loop-index-preserved
loop-index-preserved c =
    let number : ConsumerNumber = c.key_at-number.result.now in
    let which = c.args.which.now in
    let place = ap (λ (k : ConsumerNumber). own_place which k.session k.consumer) (c.key_at-number.ensures number) ∙ c.in-Some.ensures.found number in
    record {
      closing =
          ap (map (closed_consumer (are_meant which))) c.mark_closed.ensures.values
          ∙ map_twice (closed_consumer (are_meant which)) (closed_consumer (of_number number.session number.consumer)) (closed_first which number place) (values c.loop-index.consumers)
          ∙ c.loop-index.invariant.closing;
      numbered = c.mark_closed.ensures.numbered;
      counted = c.mark_closed.ensures.counted;
      active =
          c.remove.ensures.keys
          ∙ number_gone number (values c.loop-index.consumers) c.loop-index.active.keys c.in-Some.index c.loop-index.invariant.active c.len-length.ensures.once c.in-Some.ensures.within (sym (c.key_at-number.ensures number))
          ∙ ap active_numbers (sym c.mark_closed.ensures.values);
      room = omega arith;
      active_room = omega arith;
      counts_room = omega arith;
    }

pub loop-index-smaller : goal.loop-index-smaller
loop-index-smaller c = omega (arith, ap length c.remove.ensures.keys, length-remove c.loop-index.active.keys c.in-Some.index c.in-Some.ensures.within)

pub returns-clause-values : goal.returns-clause-values
returns-clause-values c =
    sym (consumers_left c.args.which.now (values c.loop-index.consumers) c.loop-index.active.keys c.loop-index.invariant.active c.in_default.ensures.none)
    ∙ c.loop-index.invariant.closing

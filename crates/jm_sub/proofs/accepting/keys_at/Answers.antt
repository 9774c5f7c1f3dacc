use Rattle.std.proofs.Common.{◌∙◌, ◌<◌, Some, ap, arith, get_or, length}
use Rattle.std.specs.Prelude.{map}
use Rattle.jm_sub.proofs.AcceptingPlaces.{keys_next}
use Rattle.jm_sub.proofs.accepting.keys_at.Goals as goal

pub loop-place-preserved : goal.loop-place-preserved
loop-place-preserved c =
    let place = get_or c.args.places.now c.loop-place.place-index 0 in
    let within : place < length c.args.items.now.entries = c.requires c.loop-place.place-index 0 (omega arith) in
    record {
      there =
          ap (map Some) c.push_reserved.ensures.items
          ∙ keys_next c.args.items.now.entries c.args.places.now c.loop-place.place-index c.loop-place.keys.items c.in_ok-copy.field-0 (omega arith) within (λ d. c.in_ok-copy.ensures ∙ c.key_at.ensures d) c.loop-place.invariant.there;
      number = omega (arith, c.push_reserved.ensures.len, c.loop-place.invariant.number);
      capacity = omega (arith, c.push_reserved.ensures.capacity, c.loop-place.invariant.capacity);
    }

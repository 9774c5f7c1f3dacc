use Rattle.std.proofs.Common.{◌≡◌, ◌∙◌, ◌+◌, ap, sym, subst, arith, length, List, ◌++◌, ◌∷◌, [], append_assoc}
use Rattle.std.specs.Vec.Iter.{into_iter_items}
use Rattle.jm_machine.specs.declared.state.Row.{Row}
use Rattle.jm_machine.specs.declared.state.PlacedRow.{PlacedRow}
use Rattle.jm_rows.specs.Rows.{IsOneAtMost}
use Rattle.jm_machine.proofs.Bare.{bare-append}
use Rattle.jm_rows.proofs.Single.{room_rest, row_comes}
use Rattle.jm_rows.proofs.rows.Rows.of.Goals as goal

pub loop-placed-preserved : goal.loop-placed-preserved
loop-placed-preserved c =
    let old = c.loop-placed.invariant in
    let left = into_iter_items c.next.new.self in
    let row = c.in-Some.placed.row in
    let number : length (into_iter_items c.loop-placed.placed-iterator) ≡ length left + 1 = ap length c.in-Some.ensures.steps.0 ∙ omega arith in
    let given = row_comes c.loop-placed.stations.next_place row c.loop-placed.stations.list c.load.new.self.list old.one old.room.first c.load.ensures.list in
    record {
      all = old.all ∙ ap (λ (rest : List PlacedRow). c.loop-placed.yielded ++ rest) c.in-Some.ensures.steps.0 ∙ sym (append_assoc c.loop-placed.yielded (c.in-Some.placed ∷ []) left);
      one = subst (λ n. IsOneAtMost n c.load.new.self.list) (sym c.load.ensures.next_place) given.0;
      room = room_rest (length left) _ c.loop-placed.stations c.load.new.self row number old.one old.room c.load.ensures.list c.load.ensures.next_place c.load.ensures.room;
      rows = given.1 ∙ ap (λ (rs : List Row). rs ++ row ∷ []) old.rows ∙ sym (bare-append c.loop-placed.yielded (c.in-Some.placed ∷ []));
    }

use Rattle.std.proofs.Common.{◌≡◌, None, refl, arith}
use Rattle.std.proofs.lemmas.Grind.{common_steps}
use Rattle.std.specs.HashMap.{get}
use Rattle.jm_machine.specs.Machine.{has_number}
use Rattle.jm_scope.specs.Numbers.{same_number}
use Rattle.jm_scope.specs.Parts.{is_of}
use Rattle.jm_scope.proofs.Seen.{number_noted}
use Rattle.jm_scope.proofs.numbers.add_consumer.Goals as goal

pub returns-in_ok-insert : goal.returns-in_ok-insert
returns-in_ok-insert c s d =
    let x = c.args.consumer.now in
    let none : get same_number c.args.numbers.now (record { session = x.session; consumer = x.id }) ≡ None = grind (arith, common_steps) in
    number_noted c.args.key.now (is_of c.args.key.now) x c.is.result x.session s x.id d (has_number s d x) (get same_number c.args.numbers.now) _
    (grind (arith, common_steps)) none c.is.ensures refl (c.in_ok-insert.ensures.updates.0 (record { session = s; consumer = d }))

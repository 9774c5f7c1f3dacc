use Rattle.std.proofs.Common.{◌∙◌, ap, sym, subst, List}
use Rattle.std.specs.Prelude.{map}
use Rattle.jm_machine.specs.declared.state.Row.{Row}
use Rattle.jm_machine.specs.Machine.{are_meant}
use Rattle.jm_machine.specs.Rows.{given_back}
use Rattle.jm_rows.specs.Rows.{IsOneAtMost}
use Rattle.jm_rows.proofs.Single.{rows_returned}
use Rattle.jm_rows.proofs.rows.Rows.give_back.Goals as goal

pub invariant_of-self : goal.invariant_of-self
invariant_of-self c =
    subst (λ n. IsOneAtMost n c.give_back.new.self.list) (sym c.give_back.ensures.next_place)
    (rows_returned c.self.inside.stations.next_place (are_meant c.args.which.now) c.self.inside.stations.list c.give_back.new.self.list c.self.invariant c.give_back.ensures.list).0

pub returns : goal.returns
returns c =
    (rows_returned c.self.inside.stations.next_place (are_meant c.args.which.now) c.self.inside.stations.list c.give_back.new.self.list c.self.invariant c.give_back.ensures.list).1
    ∙ ap (λ (x : List Row). map (given_back (are_meant c.args.which.now)) x) c.self.view_is

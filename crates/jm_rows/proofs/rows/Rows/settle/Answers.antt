use Rattle.std.proofs.Common.{◌∙◌, ap, sym, subst, List}
use Rattle.std.specs.Prelude.{filter, not}
use Rattle.jm_machine.specs.declared.state.Row.{Row}
use Rattle.jm_machine.specs.Machine.{are_meant}
use Rattle.jm_machine.specs.Rows.{is_out}
use Rattle.jm_rows.specs.Rows.{IsOneAtMost}
use Rattle.jm_rows.proofs.Single.{rows_settled}
use Rattle.jm_rows.proofs.rows.Rows.settle.Goals as goal

pub invariant_of-self : goal.invariant_of-self
invariant_of-self c =
    subst (λ n. IsOneAtMost n c.settle.new.self.list) (sym c.settle.ensures.next_place)
    (rows_settled c.self.inside.stations.next_place (are_meant c.args.which.now) c.self.inside.stations.list c.settle.new.self.list c.self.invariant c.settle.ensures.list).0

pub returns : goal.returns
returns c =
    (rows_settled c.self.inside.stations.next_place (are_meant c.args.which.now) c.self.inside.stations.list c.settle.new.self.list c.self.invariant c.settle.ensures.list).1
    ∙ ap (λ (x : List Row). filter (λ r. not (is_out (are_meant c.args.which.now) r)) x) c.self.view_is

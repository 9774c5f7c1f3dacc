use Rattle.std.proofs.Common.{◌∙◌, ap, length, List}
use Rattle.jm_machine.specs.declared.state.Row.{Row}
use Rattle.jm_rows.proofs.Single.{rows_number}
use Rattle.jm_rows.proofs.rows.Rows.len.Goals as goal

pub returns : goal.returns
returns c =
    rows_number c.kept.result c.self.inside.stations.next_place c.self.inside.stations.list c.self.invariant c.kept.ensures
    ∙ ap (λ (x : List Row). length x) c.self.view_is

use Rattle.std.proofs.Common.{◌∙◌, ap, arith, true, not, List, None}
use Rattle.std.specs.List.{list_any}
use Rattle.jm_machine.specs.declared.state.Row.{Row}
use Rattle.jm_machine.specs.Rows.{is_out}
use Rattle.jm_stations.specs.Backlogs.{empty}
use Rattle.jm_rows.proofs.Single.{home_first}
use Rattle.jm_rows.proofs.rows.Rows.is_home.Goals as goal

pub returns-else-len-eq0 : goal.returns-else-len-eq0
returns-else-len-eq0 c =
    c.is_home.ensures (empty None)
    ∙ home_first c.self.inside.stations.list (empty None) (omega (arith, c.len.ensures.list, c.if-len-eq0.false))
    ∙ ap (λ (x : List Row). not (list_any (λ r. is_out (λ s c. true) r) x)) c.self.view_is

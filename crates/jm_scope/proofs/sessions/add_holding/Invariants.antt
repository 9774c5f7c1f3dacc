use Rattle.std.proofs.Common.{◌≡◌, ◌++◌, drop}
use Rattle.jm_machine.specs.Lone.{holding_rows}
use Rattle.jm_machine.specs.Rows.{bare}
use Rattle.jm_scope.proofs.sessions.add_holding.Given as goal

abbrev pub invariant-loop-placed : goal.invariant-loop-placed
invariant-loop-placed l = l.sessions.items ++ holding_rows (bare (drop l.placed-index l.rows)) ≡ l.fn.sessions.items ++ holding_rows (bare l.rows)

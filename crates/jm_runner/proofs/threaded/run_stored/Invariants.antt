use Rattle.std.specs.Prelude.{◌&&◌}
use Rattle.sqlite.specs.Held.{state}
use Rattle.jm_runner.proofs.threaded.run_stored.Given as goal

-- whether the store was clean and open as it was opened
abbrev pub ghosts-run_remembering : goal.ghosts-run_remembering
ghosts-run_remembering g a = record { was_clean = (state g.S.Store a.reopened.store.0).is_clean && (state g.S.Store a.reopened.store.0).is_open }

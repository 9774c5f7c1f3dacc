use Rattle.std.proofs.Common.{◌≡◌, take, false}
use Rattle.std.specs.List.{All}
use Rattle.jm_lane.specs.Chosen.{is_better, row_of}
use Rattle.jm_selector.specs.Selectors.{matches}
use Rattle.jm_lane.proofs.walks.first_choice.Given as goal

abbrev pub invariant-loop-i : goal.invariant-loop-i
invariant-loop-i l = All (λ r. is_better (row_of l.best) (matches l.selector) l.table l.now r ≡ false) (take l.i l.rows.items)

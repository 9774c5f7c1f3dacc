use Rattle.std.proofs.Common.{sym, subst}
use Rattle.jm_machine.specs.Isolation.{Reached}
use Rattle.jm_machine.specs.Isolation.Reached.{Reopened}
use Rattle.jm_parts.specs.Stored.{place_after, rows_at, rows_under, stations_stored}
use Rattle.jm_plans.proofs.Restored.{are_stored}
use Rattle.jm_core.proofs.provider.Core.reopen.Goals as goal

pub invariant_of-result : goal.invariant_of-result
invariant_of-result c =
    let ss = c.args.subscriptions.items in
    let ms = c.args.messages.items in
    subst Reached (sym c.in_ok-state.ensures.ok.0) (Reopened c.args.opening c.args.held_limit (stations_stored (rows_under ms) ss) (rows_at ms) (place_after 1 ms) (are_stored ss ms c.requires))

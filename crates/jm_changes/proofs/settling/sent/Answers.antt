use Rattle.std.proofs.Common.{◌++◌, ap, ◌∙◌}
use Rattle.jm_machine.specs.Under.{placed_under}
use Rattle.jm_keep.specs.Steps.{counted, lapsed_under}
use Rattle.jm_changes.specs.Standing.{key_in, taken_row}
use Rattle.jm_changes.proofs.Gone.{lapsed_gone}
use Rattle.jm_changes.proofs.Listed.{drops_then}
use Rattle.jm_changes.proofs.settling.sent.Goals as goal

pub returns : goal.returns
returns g c =
    let key = key_in (g.P.Planned.keys c.args.planned.now) c.args.index in
    let state = g.P.Planned.state c.args.planned.now in
    let count = counted key (taken_row (g.P.Planned.takes c.args.planned.now) (placed_under state key)) in
    drops_then (lapsed_under key c.args.now) state c.in_ok-lost.lost.rows.items c.in_ok-lost.lost.delays.items c.in_ok-lost.lost.gone.items count c.push_count.new.changes.items
    (lapsed_gone key c.args.now state c.in_ok-lost.lost.rows.items c.in_ok-lost.lost.delays.items c.in_ok-lost.lost.gone.items c.requires.lasting c.in_ok-lost.ensures.rows c.in_ok-lost.ensures.met)
    (c.in_ok-push_count.ensures ∙ ap (λ cs. cs ++ count) c.in_ok-changes.ensures)

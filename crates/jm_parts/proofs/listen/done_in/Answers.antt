use Rattle.std.proofs.Common.{◌≡◌, ◌∙◌, [], Bool, true, false, ap, refl, sym}
use Rattle.jm_machine.specs.declared.consumers.Consumers.{Consumers}
use Rattle.jm_stations.specs.Stations.{index_in}
use Rattle.jm_parts.specs.Listening.{ended_rows}
use Rattle.jm_queues.specs.Queues.{rows_in}
use Rattle.jm_queues.proofs.QueueRows.{nothing_changed, rows_missing}
use Rattle.jm_parts.proofs.listen.done_in.Goals as goal

nothing_ended : (which : Consumers) (ok : Bool) → ended_rows which ok [] ≡ []
nothing_ended which true = refl
nothing_ended which false = refl

pub returns-in-Some-clause-rows : goal.returns-in-Some-clause-rows
returns-in-Some-clause-rows c = λ name e.
    c.done_at.ensures.rows name (ap (index_in c.args.queues.now.keys) (sym e) ∙ sym c.index_of.ensures.index ∙ c.in-Some.is)

pub returns-in_default-clause-rows : goal.returns-in_default-clause-rows
returns-in_default-clause-rows c = λ name e.
    let queues = c.args.queues.now in
    let none = rows_missing queues.keys queues.list name (ap (index_in queues.keys) (sym e) ∙ sym c.index_of.ensures.index ∙ c.in_default.is) in
    sym (nothing_changed name (ended_rows c.args.which.now c.args.ok) (rows_in queues) (nothing_ended c.args.which.now c.args.ok) none)

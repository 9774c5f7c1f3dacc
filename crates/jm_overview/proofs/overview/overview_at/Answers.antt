use Rattle.std.proofs.Common.{sym, subst, []}
use Rattle.std.specs.Prelude.{slice_index_or}
use Rattle.jm_dest.specs.declared.key.Key.TheVariants.{Queue}
use Rattle.jm_machine.specs.Machine.{places_end}
use Rattle.jm_machine.specs.Rows.{InOrder}
use Rattle.jm_plans.specs.Provider.{state_of}
use Rattle.jm_core.specs.Reading.{keys_in}
use Rattle.jm_overview.proofs.Counting.{under_key}
use Rattle.jm_overview.proofs.overview.overview_at.Goals as goal

pub overview_of-requires : goal.overview_of-requires
overview_of-requires c = subst (InOrder places_end) (sym (c.rows_at.ensures (Queue [])))
    (under_key (state_of c.args.core.now) (record { stations = c.law_rows_in_order.ensures.ordered; queues = c.law_rows_in_order.ensures.queued }) c.law_places.ensures (slice_index_or (keys_in c.args.core.now) c.args.index (Queue [])))

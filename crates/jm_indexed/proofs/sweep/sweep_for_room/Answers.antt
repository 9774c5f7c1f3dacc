use Rattle.std.proofs.Common.{◌∙◌, arith}
use Rattle.jm_slots.proofs.Items.{items-shorter}
use Rattle.jm_indexed.specs.Entries.{entries_of}
use Rattle.jm_indexed.proofs.Marked.{filter-all}
use Rattle.jm_indexed.proofs.sweep.sweep_for_room.Goals as goal

pub overflow_sub-end : goal.overflow_sub-end
overflow_sub-end g c = omega (arith, c.len.ensures, c.end-then-lacks.ensures.end, items-shorter c.args.values.now.slots)

pub returns-then-end-len-clause-entries : goal.returns-then-end-len-clause-entries
returns-then-end-len-clause-entries g c = c.keep_entries.ensures.entries ∙ filter-all (entries_of c.args.keys.now.items c.args.values.now.slots)

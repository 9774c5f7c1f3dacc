use Rattle.std.proofs.Common.{◌∙◌}
use Rattle.jm_indexed.specs.Entries.{entries_of}
use Rattle.jm_indexed.proofs.Marked.{filter-all}
use Rattle.jm_indexed.proofs.sweep.sweep_to_leave.Goals as goal

pub returns-then-leaving-eq0-clause-entries : goal.returns-then-leaving-eq0-clause-entries
returns-then-leaving-eq0-clause-entries g c = c.keep_entries.ensures.entries ∙ filter-all (entries_of c.args.keys.now.items c.args.values.now.slots)

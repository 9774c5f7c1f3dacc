-- Which row is delivered next of those whose messages pass.
use Rattle.std.specs.Prelude.{ℕ, Bool, List, filter, Option}
use Rattle.jm_header.specs.declared.content.Content.{Content}
use Rattle.jm_lane.specs.declared.row.Row.{Row}
use Rattle.jm_lane.specs.Holders.{Messages}
use Rattle.jm_pending.specs.Rows.{next}
use Rattle.jm_lane.specs.Chosen.{passes}

-- the next row of those whose messages pass
abbrev pub next_where : (Content → Bool) → Messages → ℕ → List Row → Option Row
next_where p t now rows = next now (filter (passes p t) rows)

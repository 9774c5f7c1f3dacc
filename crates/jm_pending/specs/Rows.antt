-- What a subscription holds, and which of its rows is delivered next.
use Rattle.std.specs.Prelude.{ℕ, nat_le, Bool, false, not, ◌&&◌, ◌||◌, List, Option, Some, None, find}
use Rattle.std.specs.List.{list_all}
use Rattle.jm_lane.specs.declared.row.Row.{Row}
use Rattle.jm_lane.specs.Rows.{is_ready}

-- a row may be delivered, and none of higher priority may
abbrev pub is_next : ℕ → List Row → Row → Bool
is_next now rows r = is_ready now r && list_all (λ x. not (is_ready now x) || nat_le x.priority r.priority) rows

-- the next row: of those of highest priority the one of least place (Jakarta Messaging 3.1, section
-- 3.4.10, asks that higher priorities go first as far as possible; that they always do is ours)
abbrev pub next : ℕ → List Row → Option Row
next now rows = find (is_next now rows) rows

-- so many rows are at the limit, where there is one
abbrev pub is_at_limit : Option ℕ → ℕ → Bool
is_at_limit None n = false
is_at_limit (Some limit) n = nat_le limit n

-- what a subscription holds: its rows by place, the limit of their number, how many it missed at the limit, and
-- for how many more there is room
pub record Held : Type 0 where
  pub rows : List Row
  pub limit : Option ℕ
  pub missed : ℕ
  pub room : ℕ

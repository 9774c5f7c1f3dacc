-- The table of messages: each stands once at its place, beside the number of its holders.
use Rattle.std.specs.Prelude.{◌≡◌, ℕ, ◌+◌, ◌<◌, ◌≤◌, ◌==◌, ◌↔◌, nat_eq, if◌then◌else◌, List, Option, Some, None, Contains, count_by, length}
use Rattle.std.specs.List.{IsDistinct}
use Rattle.std.specs.Map.{keys_of, lookup}
use Rattle.jm_header.specs.declared.content.Content.{Content}
use Rattle.jm_lane.specs.declared.table.Stored.{Stored}
use Rattle.jm_lane.specs.declared.row.Row.{Row}

-- what a table shows: messages by place, each with the number of its holders, and for how many more messages there
-- is room
pub record Messages : Type 0 where
  pub entries : List (ℕ × Stored)
  pub spare : ℕ

-- the holders of what stands at a place, and 0 where nothing stands
abbrev pub holders_in : Option Stored → ℕ
holders_in None = 0
holders_in (Some s) = s.holders

-- the message of what stands at a place
abbrev pub message_in : Option Stored → Option Content
message_in None = None
message_in (Some s) = Some s.message

-- how many hold the message at a place
abbrev pub holders_of : Messages → ℕ → ℕ
holders_of t p = holders_in (lookup (nat_eq p) t.entries)

-- the message at a place, where one stands there
abbrev pub message_of : Messages → ℕ → Option Content
message_of t p = message_in (lookup (nat_eq p) t.entries)

-- a message stands only where it is held, and once at its place
pub record IsTable (entries : List (ℕ × Stored)) : Type 0 where
  pub once : IsDistinct nat_eq (keys_of entries)
  pub held : (p : ℕ) (s : Stored) → lookup (nat_eq p) entries ≡ Some s → 0 < s.holders

-- so many places have a message
pub record IsNumberOfPlaces (n : ℕ) (t : Messages) : Type 0 where
  pub places : List ℕ
  pub once : IsDistinct nat_eq places
  pub each : (p : ℕ) → (Contains places p) ↔ (0 < holders_of t p)
  pub number : length places ≡ n

-- how many of the rows are at a place
abbrev pub rows_at : ℕ → List Row → ℕ
rows_at p rows = count_by (λ (r : Row). r.place == p) rows

-- each message that still has a holder is the one that was there, and there is room for as many more
pub record KeepsMessages (old new : Messages) : Type 0 where
  pub same : (p : ℕ) → 0 < holders_of new p → message_of new p ≡ message_of old p
  pub room : old.spare ≤ new.spare

-- the place has one holder more
pub record GainsHolder (old new : Messages) (place : ℕ) : Type 0 where
  pub holders : (p : ℕ) → holders_of new p ≡ holders_of old p + (if p == place then 1 else 0)

-- the place has one holder less
pub record LosesHolder (old new : Messages) (place : ℕ) : Type 0 where
  pub holders : (p : ℕ) → holders_of new p + (if p == place then 1 else 0) ≡ holders_of old p

-- the message at a place, where it has one holder alone
abbrev pub last_message : Messages → ℕ → Option Content
last_message t p = if holders_of t p == 1 then message_of t p else None

-- the holders follow the rows of one list: those of all other lists are as they were
pub record Follows (old new : Messages) (before after : List Row) : Type 0 where
  pub holders : (p : ℕ) → holders_of new p + rows_at p before ≡ holders_of old p + rows_at p after
  pub messages : KeepsMessages old new

-- each row has its holder
pub record Covers (t : Messages) (rows : List Row) : Type 0 where
  pub held : (p : ℕ) → rows_at p rows ≤ holders_of t p

-- What callers see of the core: the machine's state in its parts, each with the room that there is for more.
use Rattle.std.specs.Prelude.{ℕ, Bool, ◌&&◌, nat_le}
use Rattle.jm_machine.specs.Machine.{State}
use Rattle.jm_session.specs.Known.{Known}
use Rattle.jm_stations.specs.Stations.{Stations}
use Rattle.jm_sub.specs.Subscriptions.{Subscriptions}
use Rattle.jm_queues.specs.Queues.{rows_in}
use Rattle.jm_parts.specs.State.{stations_of}

-- the number of the opening, how many rows a subscription may hold, what is known by number, the subscriptions, and what
-- is held under their keys, and what the queues hold
pub record Provider : Type 0 where
  pub opening : ℕ
  pub limit : ℕ
  pub known : Known
  pub subscriptions : Subscriptions
  pub held : Stations
  pub queues : Stations

-- the machine's state, in which no room shows
abbrev pub state_of : Provider → State
state_of p = record {
  opening = p.opening;
  limit = p.limit;
  life = p.known.life;
  consumers = p.known.consumers;
  stations = stations_of p.subscriptions.list p.held.list;
  queues = rows_in p.queues;
  next_place = p.held.next_place;
}

-- the greatest number of rows that may be a limit (ours)
abbrev pub greatest_limit : ℕ
greatest_limit = 1000000

-- a core may be made of these numbers: openings count from 1, and a limit is from 1 to the greatest
abbrev pub may_open : ℕ → ℕ → Bool
may_open opening limit = nat_le 1 opening && (nat_le 1 limit && nat_le limit greatest_limit)

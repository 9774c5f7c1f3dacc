-- What the notes on a record say.
use Rattle.std.specs.Prelude.{◌==◌, [], option_map, unwrap_or}
use Rattle.std.specs.Option.{option_and_then}
use Rattle.std.specs.HashMap.{get}
use Rattle.jm_dest.specs.Names.{session_eq}
use Rattle.jm_machine.specs.declared.state.ConnectionState.{ConnectionState}
use Rattle.jm_transactions.specs.declared.transactions.Connected.{Connected}
use Rattle.jm_transactions.specs.declared.transactions.Transactions.{Transactions}
use Rattle.jm_transactions.specs.Transactions.{Course}

-- each look-up by its number
abbrev pub course_of : Transactions → Course
course_of t = record {
  connection = λ c. option_map (λ k. k.is_open) (get (λ a b. a == b) t.connections c);
  client = λ c. option_and_then (λ k. k.client) (get (λ a b. a == b) t.connections c);
  session = λ s. get session_eq t.sessions s;
  sent = λ s. unwrap_or (option_map (λ places. places.items) (get session_eq t.sent s)) [];
}

-- what is noted of a connection
abbrev pub connected_as : ConnectionState → Connected
connected_as x = record { is_open = x.is_open; client = x.client }

-- Which clients have an open connection, and the index by which that is found.
use Rattle.std.specs.Prelude.{◌≡◌, ◌≤◌, ℕ, ◌+◌, Bool, ◌&&◌, List, [], ◌∷◌, Some, is_some, if◌then◌else◌}
use Rattle.std.specs.Map.{lookup}
use Rattle.jm_dest.specs.Names.{client_eq, text_eq}
use Rattle.jm_machine.specs.declared.state.ConnectionState.{ConnectionState}
use Rattle.jm_machine.specs.Life.{is_client_open}
use Rattle.jm_session.specs.declared.clients.Clients.{Clients}

-- the connection is open, and has the client
abbrev pub has_client : ConnectionState → List ℕ → Bool
has_client x client = x.is_open && client_eq x.client (Some client)

-- how many open connections have the client
abbrev pub open_with : List ConnectionState → List ℕ → ℕ
open_with [] client = 0
open_with (x ∷ xs) client = (if has_client x client then 1 else 0) + open_with xs client

-- no two open connections have one client
abbrev pub AreClientsApart : List ConnectionState → Type 0
AreClientsApart connections = (client : List ℕ) → open_with connections client ≤ 1

-- the client stands in the index
unfoldable pub is_indexed : Clients → List ℕ → Bool
is_indexed clients client = is_some (lookup (text_eq client) clients.owners.entries)

-- a client stands in the index exactly where an open connection has it
abbrev pub IsIndexOf : List ConnectionState → Clients → Type 0
IsIndexOf connections clients = (client : List ℕ) → is_indexed clients client ≡ is_client_open connections client

-- for how many more clients there is room
unfoldable pub room : Clients → ℕ
room clients = clients.owners.spare

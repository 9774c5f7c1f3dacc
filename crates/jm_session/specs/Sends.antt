-- How many sends of each session were stamped.
use Rattle.std.specs.Prelude.{ℕ, unwrap_or}
use Rattle.std.specs.HashMap.{get, spare}
use Rattle.jm_dest.specs.declared.session.SessionId.{SessionId}
use Rattle.jm_dest.specs.Names.{session_eq}
use Rattle.jm_session.specs.declared.sends.Sends.{Sends}

-- how many sends of the session were stamped
unfoldable pub sent_of : Sends → SessionId → ℕ
sent_of sends session = unwrap_or (get session_eq sends.numbers session) 0

-- for how many more sends there is room
unfoldable pub room : Sends → ℕ
room sends = spare sends.numbers

-- no send of any session was stamped
abbrev pub none_sent : SessionId → ℕ
none_sent session = 0

-- The parts of a scenario: its calls outside forks, and those that a fork and its join hold together (ours).
use Rattle.std.specs.Prelude.{◌≡◌, ◌++◌, true, List, [], ◌∷◌, Option, Some, None, All, Contains, filter_map, if◌then◌else◌}
use Rattle.std.specs.List.{list_any}
use Rattle.jm_dest.specs.Names.{session_eq}
use Rattle.jm_dest.specs.declared.session.SessionId.{SessionId}
use Rattle.jm_machine.specs.declared.call.ClientCall.{ClientCall}
use Rattle.jm_machine.specs.declared.call.ClientCall.TheVariants.{Ask, Send, CommitSession}
use Rattle.jm_machine.specs.declared.call.Who.TheVariants.{Connection as OfConnection, Session as OfSession}
use Rattle.jm_scenario.specs.Items.{is_by_session}
use Rattle.jm_scenario.specs.declared.item.Item.{Item}
use Rattle.jm_scenario.specs.declared.item.Item.TheVariants.{Call, Fork, Join}
use Rattle.jm_forks.specs.declared.part.Part.{Part}
use Rattle.jm_forks.specs.declared.part.Part.TheVariants.{Alone, Together}

-- the parts of items, before which no fork is open, or one is, with those calls behind it. Where none is open, a call is a
-- part of its own, a fork opens one, and a join says nothing; where one is open, a call goes behind its calls, and a join,
-- another fork or the end of the items ends it
abbrev pub parts_behind : Option (List ClientCall) → List Item → List Part
parts_behind None [] = []
parts_behind (Some calls) [] = Together calls ∷ []
parts_behind None (Call call ∷ items) = Alone call ∷ parts_behind None items
parts_behind (Some calls) (Call call ∷ items) = parts_behind (Some (calls ++ call ∷ [])) items
parts_behind None (Fork ∷ items) = parts_behind (Some []) items
parts_behind (Some calls) (Fork ∷ items) = Together calls ∷ parts_behind (Some []) items
parts_behind None (Join ∷ items) = parts_behind None items
parts_behind (Some calls) (Join ∷ items) = Together calls ∷ parts_behind None items

-- the parts of the items of a scenario
abbrev pub parts : List Item → List Part
parts items = parts_behind None items

-- the calls of a part
abbrev pub calls_in : Part → List ClientCall
calls_in (Alone call) = call ∷ []
calls_in (Together calls) = calls

-- the calls of parts, one part after another
abbrev pub calls_of_parts : List Part → List ClientCall
calls_of_parts [] = []
calls_of_parts (part ∷ others) = calls_in part ++ calls_of_parts others

-- what a fork and its join hold together is called by sessions alone
abbrev pub IsBySessions : Part → Type 0
IsBySessions (Alone call) = Unit {0}
IsBySessions (Together calls) = All (λ call. is_by_session call ≡ true) calls

-- the session that makes a call, where no connection makes it
abbrev pub session_of : ClientCall → Option SessionId
session_of (Ask (OfConnection c) request) = None
session_of (Ask (OfSession s) request) = Some s
session_of (Send s draft destination now) = Some s
session_of (CommitSession s) = Some s

-- the session makes a call in the parts
abbrev pub IsCaller : SessionId → List Part → Type 0
IsCaller session parts = Contains (filter_map session_of (calls_of_parts parts)) session

-- the sessions, and behind them one more, where it is none of them
abbrev pub with_session : List SessionId → Option SessionId → List SessionId
with_session sessions None = sessions
with_session sessions (Some s) = if list_any (session_eq s) sessions then sessions else sessions ++ s ∷ []

-- the sessions, and behind them those that make these calls, each once, in order of first call
abbrev pub with_sessions : List SessionId → List ClientCall → List SessionId
with_sessions sessions [] = sessions
with_sessions sessions (call ∷ calls) = with_sessions (with_session sessions (session_of call)) calls

-- the sessions that make a call in the parts, each once, in order of first call
abbrev pub sessions_of : List Part → List SessionId
sessions_of parts = with_sessions [] (calls_of_parts parts)

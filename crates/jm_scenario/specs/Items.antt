-- The items of a scenario: its calls, and where it forks and joins (ours).
use Rattle.std.specs.Prelude.{◌≡◌, ◌++◌, ◌||◌, not, Bool, true, false, List, [], ◌∷◌, map, Result, Ok}
use Rattle.jm_base.specs.declared.refusal.Refusal.{Refusal}
use Rattle.jm_machine.specs.declared.answer.Answer.{Answer}
use Rattle.jm_machine.specs.declared.answer.Answer.TheVariants.{Done}
use Rattle.jm_machine.specs.declared.call.ClientCall.{ClientCall}
use Rattle.jm_machine.specs.declared.call.ClientCall.TheVariants.{Ask, Send, CommitSession}
use Rattle.jm_machine.specs.declared.call.Who.TheVariants.{Connection as OfConnection, Session as OfSession}
use Rattle.jm_scenario.specs.declared.item.Item.{Item}
use Rattle.jm_scenario.specs.declared.item.Item.TheVariants.{Call, Fork, Join}
use Rattle.jm_scenario.specs.declared.item.ItemKind.{ItemKind}
use Rattle.jm_scenario.specs.declared.item.ItemKind.TheVariants as kind

-- a call by a session, and not by a connection
abbrev pub is_by_session : ClientCall → Bool
is_by_session (Ask (OfConnection c) request) = false
is_by_session (Ask (OfSession s) request) = true
is_by_session (Send s draft destination now) = true
is_by_session (CommitSession s) = true

-- a fork is open behind items that end with it, and then with calls alone
abbrev pub IsForked : List Item → Type 0
IsForked items = (before : List Item) × (calls : List ClientCall) × (items ≡ before ++ Fork ∷ map Call calls)

-- an item has its place behind others: a fork where none is open, a join where one is, and a call anywhere; but where a
-- fork is open, only a call by a session
abbrev pub StandsBehind : List Item → Item → Type 0
StandsBehind before (Call call) = IsForked before → is_by_session call ≡ true
StandsBehind before Fork = IsForked before → ⊥
StandsBehind before Join = IsForked before

-- fork and join alternate, beginning with a fork, and between them stand calls by sessions alone: each item has its place
-- behind those before it. What the last fork opens may stay open to the end
abbrev pub AreWellForked : List Item → Type 0
AreWellForked items = (before : List Item) (one : Item) (others : List Item) → items ≡ before ++ one ∷ others → StandsBehind before one

-- an item has its place where a fork is open, or where none is
abbrev pub is_in_place : Bool → Item → Bool
is_in_place is_forked (Call call) = not is_forked || is_by_session call
is_in_place is_forked Fork = not is_forked
is_in_place is_forked Join = is_forked

-- a fork is open behind an item, where one is open before it or none is
abbrev pub is_forked_behind : Bool → Item → Bool
is_forked_behind is_forked (Call call) = is_forked
is_forked_behind is_forked Fork = true
is_forked_behind is_forked Join = false

-- the calls among items, in order
abbrev pub calls_of : List Item → List ClientCall
calls_of [] = []
calls_of (Call call ∷ items) = call ∷ calls_of items
calls_of (Fork ∷ items) = calls_of items
calls_of (Join ∷ items) = calls_of items

-- whether an item is a call, a fork or a join
abbrev pub kind_of : Item → ItemKind
kind_of (Call call) = kind.Call
kind_of Fork = kind.Fork
kind_of Join = kind.Join

-- the item is a call
abbrev pub is_call : ItemKind → Bool
is_call kind.Call = true
is_call kind.Fork = false
is_call kind.Join = false

-- the replies to items of those kinds, as far as there are replies to the calls among them: a fork and a join are answered
-- Done
abbrev pub replies_in_place : List ItemKind → List (Result Answer Refusal) → List (Result Answer Refusal)
replies_in_place [] replies = []
replies_in_place (kind.Call ∷ kinds) [] = []
replies_in_place (kind.Call ∷ kinds) (reply ∷ replies) = reply ∷ replies_in_place kinds replies
replies_in_place (kind.Fork ∷ kinds) replies = Ok Done ∷ replies_in_place kinds replies
replies_in_place (kind.Join ∷ kinds) replies = Ok Done ∷ replies_in_place kinds replies

-- the replies to items, with those to their calls: each fork and each join is answered Done at its place
abbrev pub replies_with_marks : List Item → List (Result Answer Refusal) → List (Result Answer Refusal)
replies_with_marks items replies = replies_in_place (map kind_of items) replies

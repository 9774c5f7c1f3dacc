-- What the subscription alone owes to an entry.
use Rattle.std.specs.Prelude.{◌≡◌, ◌&&◌, ℕ, List, Option, Result, if◌then◌else◌}
use Rattle.jm_base.specs.declared.refusal.Refusal.{Refusal}
use Rattle.jm_dest.specs.declared.session.SessionId.{SessionId}
use Rattle.jm_header.specs.declared.content.Content.{Content}
use Rattle.jm_machine.specs.declared.answer.Answer.{Answer}
use Rattle.jm_machine.specs.declared.entry.Entry.{Entry}
use Rattle.jm_machine.specs.Life.{Life, client_of, mode_of}
use Rattle.jm_machine.specs.Machine.{is_transacted, of_session, publisher_of}
use Rattle.jm_machine.specs.Owns.{is_own}
use Rattle.jm_machine.specs.Lone.{Scope, Lone, lone_settled, came, accepted, lone_accepts, lone_brought, lone_replies, lone_end, fed, at_place, placed}
use Rattle.jm_transactions.specs.Transactions.{Course, Follows}

-- the clients that were noted are those of the connections
abbrev pub Clients : Life → Course → Type 0
Clients life x = (c : ℕ) → x.client c ≡ client_of life c

-- the reply to an entry, and what is held after it, are those to what the entry feeds, whatever was before of which was said
-- what was
abbrev pub Answers : Scope → List Entry → Course → Lone → Entry → Option (Result Answer Refusal) → Lone → Type 0
Answers scope entries course old e reply new = (life : Life) (before : List Entry) (place : ℕ) → Follows entries life before course →
    (placed place reply ≡ lone_replies scope old (at_place place (fed scope life before old e))) × (new ≡ lone_end scope old (fed scope life before old e))

-- a message is published, and comes where it is accepted
abbrev pub came_to : Scope → Life → Content → Lone → Lone
came_to scope life m lone = if lone_accepts scope.key lone.definition (publisher_of life m) m then lone_brought scope.key m lone else lone

-- messages are published in turn
abbrev pub brought : Scope → Life → List Content → Lone → Lone
brought scope life messages lone = lone_end scope lone (came (accepted scope.key lone.definition life messages))

-- a session's commit settles what is out to it, where it is an own one, open and transacted
abbrev pub settled_by : Scope → SessionId → Lone → Lone
settled_by scope s lone = if is_own scope.sessions s && is_transacted (mode_of lone.life s) then lone_settled (of_session s) lone else lone

-- what is held after a session's commit of those messages, in which it settles where it is an own one
abbrev pub after_commit : Scope → Life → SessionId → List Content → Lone → Lone
after_commit scope life s messages lone = brought scope life messages (settled_by scope s lone)

-- The connections and sessions that were opened, and the consumers that were made, in order.
use Rattle.std.specs.Prelude.{ℕ, Bool, List, ◌&&◌, ◌||◌, not, if◌then◌else◌}
use Rattle.jm_base.specs.declared.refusal.Refusal.{Refusal}
use Rattle.jm_base.specs.declared.refusal.Refusal.TheVariants.{IllegalState, InvalidClientId, Memory}
use Rattle.jm_machine.specs.declared.state.Consumer.{Consumer}
use Rattle.jm_dest.specs.declared.session.SessionId.{SessionId}
use Rattle.jm_machine.specs.Life.{Life, with_started}
use Rattle.jm_machine.specs.Machine.{may_be_done, may_take}

-- what was opened and made, and for how many more calls there is room
pub record Known : Type 0 where
  pub life : Life
  pub consumers : List Consumer
  pub spare : ℕ

-- the consumers that were made, in order, and for how many more there is room
pub record Listed : Type 0 where
  pub consumers : List Consumer
  pub spare : ℕ

-- why a call is refused that takes memory: its check fails, or a request for memory was refused
abbrev pub cause : Bool → Refusal
cause allowed = if allowed then Memory else IllegalState

-- why a connection is not opened: its number was used, else its client is taken, else a request for memory was refused
abbrev pub open_cause : Bool → Bool → Refusal
open_cause used taken = if used then IllegalState else if taken then InvalidClientId else Memory

-- the life with that connection started or stopped
abbrev pub life_set : Life → ℕ → Bool → Life
life_set life c on = record life { connections = with_started c on life.connections }

-- the session's consumer of that number may become busy, or not: its listener may take a message, of which one may come or
-- none; or it is done with one, and the consumer is not busy any more
abbrev pub may_set_busy : Life → List Consumer → SessionId → ℕ → Bool → Bool
may_set_busy life consumers session k on = may_take life consumers session k || (not on && may_be_done life consumers session k)

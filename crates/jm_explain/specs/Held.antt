-- What is held of a key that has a name, as far as a cause looks at it.
use Rattle.std.specs.Prelude.{◌≢◌, ◌&&◌, Bool, true, false, List, Option, Some, option_map}
use Rattle.jm_base.specs.declared.refusal.Refusal.TheVariants.{IllegalState}
use Rattle.std.specs.List.{list_any}
use Rattle.jm_dest.specs.declared.key.Key.{Key}
use Rattle.jm_dest.specs.Keys.{key_eq}
use Rattle.jm_machine.specs.declared.call.Request.{Request}
use Rattle.jm_machine.specs.declared.call.Request.TheVariants.{CreateDurable, CreateShared, CreateSharedDurable, Unsubscribe}
use Rattle.jm_machine.specs.declared.state.Consumer.{Consumer}
use Rattle.jm_machine.specs.declared.state.Definition.{Definition}
use Rattle.jm_machine.specs.declared.state.PlacedRow.{PlacedRow}
use Rattle.jm_machine.specs.Rows.{is_out}
use Rattle.jm_sub.specs.declared.sharing.Sharing.{Sharing}
use Rattle.jm_sub.specs.declared.sharing.Sharing.TheVariants.{Unshared, SharedDurable, Shared}
use Rattle.jm_why.specs.declared.cause.Why.{Why}
use Rattle.jm_why.specs.Why.{join_why, refusal_of, resume_why, share_why}

-- the consumer receives from the key, and is active
abbrev pub is_active_at : Key → Consumer → Bool
is_active_at key x = key_eq x.key key && x.is_active

-- one of the consumers does
abbrev pub is_any_active : Key → List Consumer → Bool
is_any_active key consumers = list_any (is_active_at key) consumers

-- one of the rows is out, to whichever session
abbrev pub is_any_out : List PlacedRow → Bool
is_any_out rows = list_any (λ x. is_out (λ s c. true) x.row) rows

-- why a subscription that is shared so cannot be had
abbrev pub had_why : Sharing → Option Definition → Bool → Bool → Definition → Option Why
had_why Unshared held idle home d = resume_why held idle home d
had_why SharedDurable held idle home d = join_why held idle home d
had_why Shared held idle home d = share_why held idle home d

-- the request names no subscription by its name
abbrev pub names_none : Request → Bool
names_none (CreateDurable c destination name selector no_local) = false
names_none (CreateShared c destination name selector) = false
names_none (CreateSharedDurable c destination name selector) = false
names_none (Unsubscribe name) = false
names_none request = true

-- there is no cause, or one that stands behind no IllegalState
abbrev pub IsNoState : Option Why → Type 0
IsNoState why = option_map refusal_of why ≢ Some IllegalState

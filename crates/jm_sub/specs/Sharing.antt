-- How subscriptions that have names are shared.
use Rattle.std.specs.Prelude.{Bool, true, false, Option}
use Rattle.jm_machine.specs.declared.state.Definition.{Definition}
use Rattle.jm_machine.specs.Machine.{may_join, may_resume, may_share}
use Rattle.jm_sub.specs.declared.sharing.Sharing.{Sharing}
use Rattle.jm_sub.specs.declared.sharing.Sharing.TheVariants.{Unshared, SharedDurable, Shared}

-- the subscription may have more than one active consumer
abbrev pub is_shared : Sharing → Bool
is_shared Unshared = false
is_shared SharedDurable = true
is_shared Shared = true

-- the subscription may be had: by what is held under its key, whether no consumer of the key is active, whether no row of
-- it is out, and what it asks for
abbrev pub may : Sharing → Option Definition → Bool → Bool → Definition → Bool
may Unshared = may_resume
may SharedDurable = may_join
may Shared = may_share

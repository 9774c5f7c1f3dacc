-- Where keys stand to the own subscriptions of consumers, in the order of the keys.
use Rattle.std.specs.Prelude.{ℕ, Bool, false}
use Rattle.std.specs.Ordering.{nat_cmp, ordering_then}
use Rattle.std.specs.declared.cmp.Ordering.{Ordering}
use Rattle.std.specs.declared.cmp.Ordering.TheVariants.{Less, Greater}
use Rattle.jm_dest.specs.declared.session.SessionId.{SessionId}
use Rattle.jm_dest.specs.declared.key.Key.{Key}
use Rattle.jm_dest.specs.declared.key.Key.TheVariants.{Own, SharedOwn, Durable, Queue as OfQueue}
use Rattle.jm_machine.specs.declared.consumers.Consumers.{Consumers}
use Rattle.jm_machine.specs.declared.consumers.Consumers.TheVariants.{OfConnection, OfSession, One}
use Rattle.jm_machine.specs.Machine.{are_meant}

-- the key is a consumer's own, and the consumer is one of these
abbrev pub is_own_of : Consumers → Key → Bool
is_own_of which (OfQueue name) = false
is_own_of which (Own s c) = are_meant which s c
is_own_of which (SharedOwn client name) = false
is_own_of which (Durable client name) = false

-- sessions by their connections, and then by their numbers
abbrev pub session_cmp : SessionId → SessionId → Ordering
session_cmp s t = ordering_then (nat_cmp s.connection t.connection) (nat_cmp s.number t.number)

-- where the session's consumer of that number stands to these
abbrev pub own_place : Consumers → SessionId → ℕ → Ordering
own_place (OfConnection connection) s c = nat_cmp s.connection connection
own_place (OfSession t) s c = session_cmp s t
own_place (One t d) s c = ordering_then (session_cmp s t) (nat_cmp c d)

-- where a key stands to these consumers' own ones: those of queues come before them, and those that have names behind
abbrev pub key_place : Consumers → Key → Ordering
key_place which (OfQueue name) = Less
key_place which (Own s c) = own_place which s c
key_place which (SharedOwn client name) = Greater
key_place which (Durable client name) = Greater

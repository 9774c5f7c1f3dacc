-- Keys as columns.
use Rattle.std.specs.Prelude.{ℕ, ℤ, pos, List, [], ◌∷◌, Option, Some, None, if◌then◌else◌}
use Rattle.std.specs.Ordering.{int_eq}
use Rattle.jm_dest.specs.declared.key.Key.{Key}
use Rattle.jm_dest.specs.declared.key.Key.TheVariants.{Queue, Durable}
use Rattle.sqlite_value.specs.Order.{Row, column, bytes}
use Rattle.sqlite_rules.specs.Edit.{id_in}

-- the client that a column stands for: the empty text is none
abbrev pub client_in : List ℕ → Option (List ℕ)
client_in [] = None
client_in (byte ∷ more) = Some (byte ∷ more)

-- a queue has no client
abbrev pub queue_in : List ℕ → List ℕ → Option Key
queue_in [] name = Some (Queue name)
queue_in (byte ∷ more) name = None

-- the key that a family, a client and a name stand for: family 1 is a queue, and family 2 a durable subscription
abbrev pub key_in : ℤ → List ℕ → List ℕ → Option Key
key_in family client name = if int_eq family (pos 1) then queue_in client name else (if int_eq family (pos 2) then Some (Durable (client_in client) name) else None)

-- the key of a row of station, or of held
abbrev pub key_of : Row → Option Key
key_of r = key_in (id_in (column r 1)) (bytes (column r 2)) (bytes (column r 3))

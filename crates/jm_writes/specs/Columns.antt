-- A key as the columns of its rows, and what is told where it has none.
use Rattle.std.specs.Prelude.{ℕ, ℤ, pos, Bool, not, ◌&&◌, List, [], ◌∷◌, Option, Some, None}
use Rattle.jm_dest.specs.declared.key.Key.{Key}
use Rattle.jm_dest.specs.Names.{is_name}
use Rattle.jm_dest.specs.declared.key.Key.TheVariants.{Queue, Own, SharedOwn, Durable}
use Rattle.sqlite.specs.declared.error.Error.{Error}
use Rattle.sqlite.specs.declared.error.Error.TheVariants.{SqliteFailure}
use Rattle.sqlite.specs.declared.error.ErrorCode.TheVariants.{TypeMismatch}

-- the error of a change that the tables cannot hold
abbrev pub not_stored : Error
not_stored = SqliteFailure TypeMismatch

-- the family of a durable subscription; an empty client, which no client identifier is, would be read as none
abbrev pub durable_family : Option (List ℕ) → Option ℤ
durable_family None = Some (pos 2)
durable_family (Some []) = None
durable_family (Some (byte ∷ more)) = Some (pos 2)

-- the family of a key: 1 is that of queues, 2 that of durable subscriptions, and no other is stored
abbrev pub family_of : Key → Option ℤ
family_of (Queue name) = Some (pos 1)
family_of (Own s c) = None
family_of (SharedOwn client name) = None
family_of (Durable client name) = durable_family client

-- a client as a text: none is the empty text
abbrev pub text_of : Option (List ℕ) → List ℕ
text_of None = []
text_of (Some client) = client

-- the client of a key, and the empty text where it has none
abbrev pub client_of : Key → List ℕ
client_of (Queue name) = []
client_of (Own s c) = []
client_of (SharedOwn client name) = text_of client
client_of (Durable client name) = text_of client

-- the name of a key, and the empty text where it has none
abbrev pub name_of : Key → List ℕ
name_of (Queue name) = name
name_of (Own s c) = []
name_of (SharedOwn client name) = name
name_of (Durable client name) = name

-- a subscription of that client, none where the text is empty, may have those marks: one of no client is shared, and one that
-- is shared has no noLocal
abbrev pub may_have : List ℕ → Bool → Bool → Bool
may_have [] shared no_local = shared && not no_local
may_have (byte ∷ more) shared no_local = is_name (byte ∷ more) && not (shared && no_local)

-- a durable subscription of that client and name may stand with those marks
abbrev pub may_stand : List ℕ → List ℕ → Bool → Bool → Bool
may_stand client name shared no_local = is_name name && may_have client shared no_local

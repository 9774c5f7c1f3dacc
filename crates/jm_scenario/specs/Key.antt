-- The key of a subscription, as a JSON text spells it (ours).
use Rattle.std.specs.Prelude.{ℕ, List, Option, Some, None, option_and_then, if◌then◌else◌, codes}
use Rattle.std.specs.Str.{bytes_eq}
use Rattle.serde_json.specs.Data.{Data, Items, no_items, item, Members, no_members, member}
use Rattle.serde_json.specs.Find.{as_array, as_object}
use Rattle.serde_json.specs.Read.{read}
use Rattle.jm_dest.specs.declared.session.SessionId.{SessionId}
use Rattle.jm_dest.specs.declared.key.Key.{Key}
use Rattle.jm_dest.specs.declared.key.Key.TheVariants.{Own, Durable}
use Rattle.jm_fields.specs.Values.{number, name, session_of_numbers}

-- the subscription of a consumer
abbrev pub own_of : Option SessionId → Option ℕ → Option Key
own_of (Some session) (Some k) = Some (Own session k)
own_of _ _ = None

-- an array of the numbers of a connection, of its session and of its consumer
abbrev pub own_of_items : Items → Option Key
own_of_items (item c (item s (item k no_items))) = own_of (session_of_numbers (number c) (number s)) (number k)
own_of_items _ = None

-- a durable subscription, by the client identifier and its name
abbrev pub durable_of_names : Option (List ℕ) → Option (List ℕ) → Option Key
durable_of_names (Some client) (Some n) = Some (Durable (Some client) n)
durable_of_names _ _ = None

-- an array of those two names
abbrev pub durable_of_items : Items → Option Key
durable_of_items (item client (item n no_items)) = durable_of_names (name client) (name n)
durable_of_items _ = None

-- the key of the field `own` or `durable`
abbrev pub key_of_items : List ℕ → Items → Option Key
key_of_items field items =
    if bytes_eq field (codes "own") then own_of_items items else
    (if bytes_eq field (codes "durable") then durable_of_items items else None)

-- the key of a field that stands alone
abbrev pub key_of_members : Members → Option Key
key_of_members (member field value no_members) = option_and_then (key_of_items field) (as_array value)
key_of_members _ = None

-- the key that a value spells
abbrev pub key : Data → Option Key
key value = option_and_then key_of_members (as_object value)

-- the key that a JSON text spells
abbrev pub key_of_text : List ℕ → Option Key
key_of_text text = option_and_then key (read text)

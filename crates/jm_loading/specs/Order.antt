-- The order of keys.
use Rattle.std.specs.Prelude.{ℕ, List, [], Option, Some, None}
use Rattle.std.specs.Cmp.Lexicographic.{slice_cmp}
use Rattle.std.specs.Ordering.{nat_cmp, ordering_then}
use Rattle.std.specs.declared.cmp.Ordering.{Ordering}
use Rattle.jm_dest.specs.declared.key.Key.{Key}
use Rattle.jm_dest.specs.declared.key.Key.TheVariants.{Queue, Own, SharedOwn, Durable}

-- the family of a key, as it is stored; one that is not stored has none
abbrev pub family : Key → ℕ
family (Queue n) = 1
family (Own s c) = 0
family (SharedOwn k n) = 0
family (Durable k n) = 2

-- a client, as it is stored
abbrev pub client_text : Option (List ℕ) → List ℕ
client_text None = []
client_text (Some text) = text

-- the client of a key, as it is stored
abbrev pub client : Key → List ℕ
client (Queue n) = []
client (Own s c) = []
client (SharedOwn k n) = []
client (Durable k n) = client_text k

-- the name of a key
abbrev pub name : Key → List ℕ
name (Queue n) = n
name (Own s c) = []
name (SharedOwn k n) = []
name (Durable k n) = n

-- keys stand by family, client and name
abbrev pub key_cmp : Key → Key → Ordering
key_cmp a b = ordering_then (ordering_then (nat_cmp (family a) (family b)) (slice_cmp nat_cmp (client a) (client b))) (slice_cmp nat_cmp (name a) (name b))

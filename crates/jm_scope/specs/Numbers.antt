-- Which numbers of consumers were made for a key, as a map has them.
use Rattle.std.specs.Prelude.{ℕ, Bool, false, ◌&&◌, ◌==◌, unwrap_or}
use Rattle.std.specs.declared.hash.FoldHasher.{FoldHasher}
use Rattle.std.specs.declared.hash.BuildHasherDefault.{BuildHasherDefault}
use Rattle.std.specs.HashMap.{get, HashMap}
use Rattle.jm_dest.specs.declared.session.SessionId.{SessionId}
use Rattle.jm_dest.specs.Names.{session_eq}
use Rattle.jm_scope.specs.declared.numbers.ConsumerNumber.{ConsumerNumber}

-- two are the same number of the same session
abbrev pub same_number : ConsumerNumber → ConsumerNumber → Bool
same_number a b = session_eq a.session b.session && (a.consumer == b.consumer)

-- the map says of a session's number that it was made for the key
abbrev pub is_seen : HashMap ConsumerNumber Bool (BuildHasherDefault FoldHasher) → SessionId → ℕ → Bool
is_seen numbers s c = unwrap_or (get same_number numbers (record { session = s; consumer = c })) false

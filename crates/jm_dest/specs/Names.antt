-- What a name may be, and when two names and two sessions are the same.
use Rattle.std.specs.Prelude.{ℕ, Bool, true, false, ◌&&◌, not, ◌==◌, nat_le, List, Option, Some, None, length, nat_eq}
use Rattle.std.specs.List.{list_all}
use lib.Pointwise.{pointwise}
use Rattle.jm_dest.specs.declared.session.SessionId.{SessionId}

-- a byte that a name may have: none below 0x20, and not 0x7F
abbrev pub is_name_byte : ℕ → Bool
is_name_byte byte = nat_le 32 byte && not (byte == 127)

-- a text that is a name: 1 to 255 such bytes
abbrev pub is_name : List ℕ → Bool
is_name text = not (length text == 0) && nat_le (length text) 255 && list_all is_name_byte text

-- two texts are the same
abbrev pub text_eq : List ℕ → List ℕ → Bool
text_eq a b = pointwise nat_eq a b

-- two clients are the same, or both are none
abbrev pub client_eq : Option (List ℕ) → Option (List ℕ) → Bool
client_eq None None = true
client_eq (Some a) (Some b) = text_eq a b
client_eq _ _ = false

-- two sessions are the same
abbrev pub session_eq : SessionId → SessionId → Bool
session_eq a b = (a.connection == b.connection) && (a.number == b.number)

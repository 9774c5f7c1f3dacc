-- An own session's connection is an own connection.
use Rattle.std.proofs.Common.{◌≡◌, true, List, [], ◌∷◌, arith}
use Rattle.std.proofs.lemmas.Bool.Decides.{nat_tests}
use Rattle.jm_dest.specs.declared.session.SessionId.{SessionId}
use Rattle.jm_machine.specs.Owns.{is_own, is_own_connection}

pub own_connection : (sessions : List SessionId) (s : SessionId) → is_own sessions s ≡ true → is_own_connection sessions s.connection ≡ true
own_connection [] s h = cc
own_connection (t ∷ sessions) s h = grind (arith, nat_tests, own_connection sessions s)

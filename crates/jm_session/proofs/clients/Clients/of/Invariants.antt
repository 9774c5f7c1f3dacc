use Rattle.std.proofs.Common.{◌≡◌, true, take}
use Rattle.jm_session.specs.Clients.{IsIndexOf}
use Rattle.jm_session.proofs.clients.Clients.of.Given as goal

abbrev pub invariant-loop-connection : goal.invariant-loop-connection
invariant-loop-connection l = IsIndexOf (take l.connection-index l.connections) l.clients × (l.clients.has_all ≡ true)

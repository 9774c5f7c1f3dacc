use Rattle.std.proofs.Common.{◌≡◌, ◌+◌, drop}
use Rattle.jm_client_audited.specs.Callers.{place_of}
use Rattle.jm_client_audited.proofs.callers.place_of.Given as goal

abbrev pub invariant-loop-place : goal.invariant-loop-place
invariant-loop-place l = place_of l.callers l.who ≡ l.place + place_of (drop l.place l.callers) l.who

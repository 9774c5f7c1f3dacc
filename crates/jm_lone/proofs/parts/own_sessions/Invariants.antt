use Rattle.std.proofs.Common.{◌≡◌, take}
use Rattle.std.specs.Prelude.{filter}
use Rattle.jm_machine.specs.Owns.{is_own}
use Rattle.jm_scope.specs.Scopes.{scope_seen}
use Rattle.jm_lone.proofs.parts.own_sessions.Given as goal

abbrev pub invariant-loop-session : goal.invariant-loop-session
invariant-loop-session l = l.own.items ≡ filter (λ x. is_own (scope_seen l.scope).sessions x.id) (take l.session-index l.sessions)

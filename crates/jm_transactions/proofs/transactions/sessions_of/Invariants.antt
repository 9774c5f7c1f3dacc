use Rattle.std.proofs.Common.{◌≡◌, drop, Some}
use Rattle.std.specs.Prelude.{option_map}
use Rattle.std.specs.Option.{option_or}
use Rattle.std.specs.HashMap.{get}
use Rattle.jm_dest.specs.declared.session.SessionId.{SessionId}
use Rattle.jm_dest.specs.Names.{session_eq}
use Rattle.jm_machine.specs.Life.{open_mode, session_of}
use Rattle.jm_transactions.proofs.transactions.sessions_of.Given as goal

abbrev pub invariant-loop-session : goal.invariant-loop-session
invariant-loop-session l = (s : SessionId) →
    option_or (get session_eq l.made s) (option_map (λ x. open_mode (Some x)) (session_of (drop l.session-index l.sessions) s))
    ≡ option_map (λ x. open_mode (Some x)) (session_of l.sessions s)

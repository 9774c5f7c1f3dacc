-- The faults of `serve`.
use Rattle.jm_listen.specs.declared.served.ServeFault.{ServeFault}
use Rattle.jm_listen.specs.declared.served.ServeFault.TheVariants.{SameSession, Memory}

-- P, where the fault is that two jobs are of one session, and Q, where memory was wanted
abbrev pub MatchFault : ServeFault → Type 0 → Type 0 → Type 0
MatchFault SameSession P Q = P
MatchFault Memory P Q = Q

-- What a client is told of a call that is refused.
use Rattle.std.specs.Prelude.{Option, None, Result, Ok, Err}
use Rattle.jm_base.specs.declared.refusal.Refusal.{Refusal}
use Rattle.jm_why.specs.declared.cause.Why.{Why}

-- a refusal, and its cause, where one is told
pub record Refused : Type 0 where
  pub refusal : Refusal
  pub cause : Option Why

-- the refusal without a cause
abbrev pub bare : Refusal → Refused
bare r = record { refusal = r; cause = None }

-- a reply whose refusal is told without a cause
abbrev pub bare_reply : {T : Type 0} → Result T Refusal → Result T Refused
bare_reply (Ok t) = Ok t
bare_reply (Err r) = Err (bare r)

-- a reply by its refusal alone
abbrev pub without_cause : {T : Type 0} → Result T Refused → Result T Refusal
without_cause (Ok t) = Ok t
without_cause (Err r) = Err r.refusal

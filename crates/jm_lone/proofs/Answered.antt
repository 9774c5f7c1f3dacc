-- A request that the subscription answers is told and taken up as it says.
use Rattle.std.proofs.Common.{◌≡◌, ℕ, Bool, true, false, cond, refl, ap, Option, Some}
use Rattle.std.specs.Prelude.{is_none, Result}
use Rattle.jm_base.specs.declared.refusal.Refusal.{Refusal}
use Rattle.jm_dest.specs.declared.session.SessionId.{SessionId}
use Rattle.jm_machine.specs.declared.answer.Answer.{Answer}
use Rattle.jm_dest.specs.declared.key.Key.{Key}
use Rattle.jm_machine.specs.declared.call.Request.{Request}
use Rattle.jm_machine.specs.declared.call.Request.TheVariants.{Missed}
use Rattle.jm_machine.specs.declared.call.Who.TheVariants.{Session}
use Rattle.jm_machine.specs.Lone.{Scope, Lone, about, is_answered, lone_did, lone_refusal, lone_told, lone_after}
use Rattle.jm_machine.specs.Lone.About.{ThisKey}
use Rattle.jm_machine.specs.Lone.Item.{Called}
use Rattle.jm_lone.specs.Parts.{IsAnswered, after}

pub answered : (S : Scope) (lone new : Lone) (reply : Result Answer Refusal) (s : SessionId) (request : Request) → about S s request ≡ ThisKey → IsAnswered S.key lone s request reply new →
    (Some reply ≡ lone_told S lone (Called (Session s) request)) × (new ≡ lone_after S lone (Called (Session s) request))
unfolding is_answered
answered S lone new reply s request a e = rw a (ap (λ r. Some r) e.0, e.1)

-- a request how many publications were missed changes nothing
pub missed_after : (key : Key) (lone : Lone) (s : SessionId) (c : ℕ) → lone ≡ after key lone s (Missed c)
unfolding lone_did
missed_after key lone s c = go (is_none (lone_refusal lone (Session s) (Missed c)))
  where
    go : (b : Bool) → lone ≡ cond b lone lone
    go true = refl
    go false = refl

-- Why a session may not publish a message, by who stamped it.
use Rattle.std.proofs.Common.{◌≡◌, ℕ, Bool, true, false, [], ◌∷◌, Option, refl, ap, sym, ◌∙◌}
use Rattle.std.specs.Prelude.{◌&&◌, ◌==◌}
use Rattle.jm_dest.specs.declared.session.SessionId.{SessionId}
use Rattle.jm_dest.specs.Names.{session_eq}
use Rattle.jm_header.specs.declared.content.Content.{Content}
use Rattle.jm_header.specs.declared.content.Sender.{Sender}
use Rattle.jm_machine.specs.declared.call.Who.TheVariants.{Session}
use Rattle.jm_machine.specs.declared.call.Call.TheVariants.{Publish}
use Rattle.jm_machine.specs.Machine.{State, is_stamped}
use Rattle.jm_why.specs.declared.cause.Why.{Why}
use Rattle.jm_why.specs.declared.cause.Why.TheVariants.{ForeignStamp}
use Rattle.jm_why.specs.Why.{first_why, unless, untransacted_why, why as why_of}

and_true : (b : Bool) → (b && true) ≡ b
and_true true = refl
and_true false = refl

-- a message alone is stamped by the session where that is its sender
stamped_alone : (opening : ℕ) (s : SessionId) (m : Content) → is_stamped opening s (m ∷ []) ≡ ((m.sender.opening == opening) && session_eq m.sender.session s)
stamped_alone opening s m = and_true ((m.sender.opening == opening) && session_eq m.sender.session s)

-- why it is not published
pub publish_is : (state : State) (s : SessionId) (sender : Sender) (w : Option Why) →
    w ≡ first_why (untransacted_why state.life s) (unless ((sender.opening == state.opening) && session_eq sender.session s) ForeignStamp) →
    (m : Content) → m.sender ≡ sender → w ≡ why_of state (Session s) (Publish (m ∷ []))
publish_is state s sender w h m e =
    h
    ∙ ap (λ (x : Sender). first_why (untransacted_why state.life s) (unless ((x.opening == state.opening) && session_eq x.session s) ForeignStamp)) (sym e)
    ∙ ap (λ (b : Bool). first_why (untransacted_why state.life s) (unless b ForeignStamp)) (sym (stamped_alone state.opening s m))

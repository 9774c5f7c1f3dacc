-- Calls of clients that count as not made, taken out.
use Rattle.std.proofs.Common.{◌≡◌, ◌⊎◌, inl, inr, ℕ, ◌≤◌, ◌+◌, Bool, true, false, cond, List, [], ◌∷◌, not, refl, sym, subst, ap, ◌∙◌}
use Rattle.std.specs.Prelude.{Result, Ok, Err, MatchBool}
use Rattle.jm_base.specs.declared.refusal.Refusal.{Refusal}
use Rattle.std.proofs.Math.Nat.{le_trans}
use native.Mathlib.Omega.{arith}
use Rattle.jm_dest.specs.declared.session.SessionId.{SessionId}
use Rattle.jm_dest.specs.Names.{session_eq}
use Rattle.jm_header.specs.declared.content.Content.{Content}
use Rattle.jm_machine.specs.declared.answer.Answer.{Answer}
use Rattle.jm_machine.specs.declared.call.ClientCall.{ClientCall}
use Rattle.jm_machine.specs.declared.call.ClientCall.TheVariants.{Ask, Send, CommitSession}
use Rattle.jm_machine.specs.Entries.{is_not_made}
use Rattle.jm_machine.specs.Machine.{State}
use Rattle.jm_machine.specs.Client.{Progress, one_more, stamp_of, is_in_transaction, stamped_progress, send_progress, reply_to, progress_to, RepliesFit}
use Rattle.jm_machine.proofs.Keys.{session_same}
use Rattle.jm_refused.specs.Refused.{PassesOver, FitPassingOver, CallsAreTakenOut, RequestsAreTakenOut, is_send, made, made_replies}

-- numbers are used by a send alone, and then one

one_rises : (s t : SessionId) (sent : SessionId → ℕ) → sent t ≤ one_more s sent t
one_rises s t sent = go (session_eq s t) refl
  where
    go : (b : Bool) → session_eq s t ≡ b → sent t ≤ cond b (sent s + 1) (sent t)
    go true e = subst (λ (x : SessionId). sent t ≤ sent x + 1) (sym (session_same s t e)) (omega arith)
    go false e = omega arith

stamped_rises : (b : Bool) (p : Progress) (s t : SessionId) (m : Content) → p.sent t ≤ (stamped_progress b p s m).sent t
stamped_rises true p s t m = one_rises s t p.sent
stamped_rises false p s t m = one_rises s t p.sent

send_rises : (p : Progress) (s t : SessionId) (x : Result Content Refusal) → p.sent t ≤ (send_progress p s x).sent t
send_rises p s t (Ok m) = stamped_rises (is_in_transaction p.state s) p s t m
send_rises p s t (Err r) = omega arith

call_rises : (p : Progress) (call : ClientCall) (t : SessionId) → p.sent t ≤ (progress_to p call).sent t
unfolding progress_to
call_rises p (Ask who request) t = omega arith
call_rises p (Send s draft destination now) t = send_rises p s t (stamp_of p s draft destination now)
call_rises p (CommitSession s) t = omega arith

call_keeps : (p : Progress) (call : ClientCall) → is_send call ≡ false → (progress_to p call).sent ≡ p.sent
unfolding progress_to
call_keeps p (Ask who request) e = refl
call_keeps p (Send s draft destination now) e = cc
call_keeps p (CommitSession s) e = refl

-- what counts as not made passes over a number, or none
abbrev NotMade : Progress → ClientCall → Progress → Type 0
NotMade p call next = (next.state ≡ p.state) × (next.kept ≡ p.kept) × ((next.sent ≡ p.sent) ⊎ (next.sent ≡ (progress_to p call).sent))

risen : (p : Progress) (call : ClientCall) (next : Progress) → (next.sent ≡ p.sent) ⊎ (next.sent ≡ (progress_to p call).sent) → (s : SessionId) → p.sent s ≤ next.sent s
risen p call next (inl e) s = subst (λ (sent : SessionId → ℕ). p.sent s ≤ sent s) (sym e) (omega arith)
risen p call next (inr e) s = subst (λ (sent : SessionId → ℕ). p.sent s ≤ sent s) (sym e) (call_rises p call s)

passed : (p : Progress) (call : ClientCall) (next : Progress) → NotMade p call next → PassesOver p next
passed p call next f = record { state_is = f.0; kept_is = f.1; numbers = risen p call next f.2 }

then_passed : (p q r : Progress) → PassesOver p q → PassesOver q r → PassesOver p r
then_passed p q r f g = record { state_is = g.state_is ∙ f.state_is; kept_is = g.kept_is ∙ f.kept_is; numbers = λ s. le_trans (f.numbers s) (g.numbers s) }

none_passed : (p : Progress) → PassesOver p p
none_passed p = record { state_is = refl; kept_is = refl; numbers = λ s. omega arith }

-- what fits after numbers were passed over fits before
passed_before : (p q : Progress) (calls : List ClientCall) (replies : List (Result Answer Refusal)) (end : Progress) → PassesOver p q → FitPassingOver q calls replies end → FitPassingOver p calls replies end
passed_before p q [] [] end f g = then_passed p q end f g
passed_before p q [] (r ∷ replies) end f g = absurd g
passed_before p q (call ∷ calls) [] end f g = absurd g
passed_before p q (call ∷ calls) (r ∷ replies) end f (from, g, rest) = (from, then_passed p q from f g, rest)

pub calls_are_taken_out : CallsAreTakenOut
calls_are_taken_out p [] [] end f = subst (λ (x : Progress). PassesOver p x) (sym f) (none_passed p)
calls_are_taken_out p [] (r ∷ replies) end f = absurd f
calls_are_taken_out p (call ∷ calls) [] end f = absurd f
calls_are_taken_out p (call ∷ calls) (r ∷ replies) end (next, f, rest) = go (is_not_made r) refl f (calls_are_taken_out next calls replies end rest)
  where
    go : (b : Bool) → is_not_made r ≡ b → MatchBool b (NotMade p call next) ((r ≡ reply_to p call) × (next ≡ progress_to p call))
        → FitPassingOver next (made calls replies) (made_replies replies) end
        → FitPassingOver p (cond b (made calls replies) (call ∷ made calls replies)) (cond (not b) (r ∷ made_replies replies) (made_replies replies)) end
    go true e f left = passed_before p next (made calls replies) (made_replies replies) end (passed p call next f) left
    go false e f left = (p, none_passed p, (next, subst (λ (b : Bool). MatchBool b (NotMade p call next) ((r ≡ reply_to p call) × (next ≡ progress_to p call))) (sym e) f, left))

-- runs that have come as far in each part have come as far
as_far : (p next : Progress) → next.state ≡ p.state → next.sent ≡ p.sent → next.kept ≡ p.kept → next ≡ p
as_far p next state sent kept =
    ap (λ (x : State). record { state = x; sent = next.sent; kept = next.kept }) state
    ∙ ap (λ (x : SessionId → ℕ). record { state = p.state; sent = x; kept = next.kept }) sent
    ∙ ap (λ (x : SessionId → List Content). record { state = p.state; sent = p.sent; kept = x }) kept

-- where it was no send, all is as before
as_before : (p : Progress) (call : ClientCall) (next : Progress) → is_send call ≡ false → NotMade p call next → next ≡ p
as_before p call next e (state, kept, inl sent) = as_far p next state sent kept
as_before p call next e (state, kept, inr sent) = as_far p next state (sent ∙ call_keeps p call e) kept

pub requests_are_taken_out : RequestsAreTakenOut
requests_are_taken_out p [] [] end f m = f
requests_are_taken_out p [] (r ∷ replies) end f m = absurd f
requests_are_taken_out p (call ∷ calls) [] end f m = absurd f
requests_are_taken_out p (call ∷ calls) (r ∷ replies) end (next, f, rest) m = go (is_not_made r) refl f (requests_are_taken_out next calls replies end rest m.1)
  where
    go : (b : Bool) → is_not_made r ≡ b → MatchBool b (NotMade p call next) ((r ≡ reply_to p call) × (next ≡ progress_to p call))
        → RepliesFit next (made calls replies) (made_replies replies) end
        → RepliesFit p (cond b (made calls replies) (call ∷ made calls replies)) (cond (not b) (r ∷ made_replies replies) (made_replies replies)) end
    go true e f left = subst (λ (x : Progress). RepliesFit x (made calls replies) (made_replies replies) end) (as_before p call next (m.0 e) f) left
    go false e f left = (next, subst (λ (b : Bool). MatchBool b (NotMade p call next) ((r ≡ reply_to p call) × (next ≡ progress_to p call))) (sym e) f, left)

-- Replies that fit lead from a state that the provider reaches to another; and what a run owes fits.
use Rattle.std.proofs.Common.{◌≡◌, ◌⊎◌, inl, inr, Bool, true, false, List, [], ◌∷◌, refl, sym, subst}
use Rattle.std.specs.Prelude.{Result, Ok, Err, MatchBool}
use Rattle.jm_base.specs.declared.refusal.Refusal.{Refusal}
use Rattle.jm_base.specs.declared.refusal.Refusal.TheVariants.{Memory, Store}
use Rattle.jm_dest.specs.declared.session.SessionId.{SessionId}
use Rattle.jm_header.specs.declared.content.Content.{Content}
use Rattle.jm_machine.specs.declared.call.Who.TheVariants.{Session}
use Rattle.jm_machine.specs.declared.call.Call.TheVariants.{Publish, Commit, Ask as AskStep}
use Rattle.jm_machine.specs.declared.call.ClientCall.{ClientCall}
use Rattle.jm_machine.specs.declared.call.ClientCall.TheVariants.{Ask, Send, CommitSession}
use Rattle.jm_machine.specs.declared.answer.Answer.{Answer}
use Rattle.jm_machine.specs.Entries.{is_not_made}
use Rattle.jm_machine.specs.Client.{Progress, begun, stamp_of, is_in_transaction, stamped_progress, send_progress, send_may_want, send_wanting, reply_to, progress_to, call_may_want, progress_wanting, CallFits, CallOwed, RepliesFit, RunOwed}
use Rattle.jm_machine.specs.Isolation.{Reached, RunsReach}
use Rattle.jm_machine.specs.Isolation.Reached.{Stepped}
use Rattle.jm_machine.proofs.Outside.{no_store_to}

stamped_reached : (b : Bool) (p : Progress) (s : SessionId) (m : Content) → Reached p.state → Reached (stamped_progress b p s m).state
stamped_reached true p s m r = r
stamped_reached false p s m r = Stepped p.state (Session s) (Publish (m ∷ [])) r

sent_reached : (p : Progress) (s : SessionId) (x : Result Content Refusal) → Reached p.state → Reached (send_progress p s x).state
sent_reached p s (Ok m) r = stamped_reached (is_in_transaction p.state s) p s m r
sent_reached p s (Err e) r = r

moved_reached : (p : Progress) (call : ClientCall) → Reached p.state → Reached (progress_to p call).state
unfolding progress_to
moved_reached p (Ask who request) r = Stepped p.state who (AskStep request) r
moved_reached p (Send s draft destination now) r = sent_reached p s (stamp_of p s draft destination now) r
moved_reached p (CommitSession s) r = Stepped p.state (Session s) (Commit (p.kept s)) r

call_reached : (p next : Progress) (call : ClientCall) (r : Result Answer Refusal) → CallFits p call r next → Reached p.state → Reached next.state
call_reached p next call r f reached = go (is_not_made r) f
  where
    go : (b : Bool) → MatchBool b ((next.state ≡ p.state) × (next.kept ≡ p.kept) × ((next.sent ≡ p.sent) ⊎ (next.sent ≡ (progress_to p call).sent))) ((r ≡ reply_to p call) × (next ≡ progress_to p call)) → Reached next.state
    go true f = subst Reached (sym f.0) reached
    go false f = subst (λ (x : Progress). Reached x.state) (sym f.1) (moved_reached p call reached)

run_reached : (calls : List ClientCall) (replies : List (Result Answer Refusal)) (p end : Progress) → Reached p.state → RepliesFit p calls replies end → Reached end.state
run_reached [] [] p end r f = subst (λ (x : Progress). Reached x.state) (sym f) r
run_reached [] (x ∷ replies) p end r f = absurd f
run_reached (call ∷ calls) [] p end r f = absurd f
run_reached (call ∷ calls) (x ∷ replies) p end r f = run_reached calls replies f.0 end (call_reached p f.0 call x f.1 r) f.2

pub runs_reach : RunsReach
runs_reach opening calls replies end r f = run_reached calls replies (begun opening) end r f

-- where memory was wanted, the number of a send is used or not
abbrev UsesOne : Progress → Progress → Progress → Type 0
UsesOne p wanted done = (wanted.state ≡ p.state) × (wanted.kept ≡ p.kept) × ((wanted.sent ≡ p.sent) ⊎ (wanted.sent ≡ done.sent))

stamped_wanting : (b : Bool) (p : Progress) (s : SessionId) (m : Content) → UsesOne p (send_wanting b p s) (stamped_progress b p s m)
stamped_wanting true p s m = (refl, refl, inl refl)
stamped_wanting false p s m = (refl, refl, inr refl)

sent_wanting : (p : Progress) (s : SessionId) (x : Result Content Refusal) → send_may_want p.state s x ≡ true → UsesOne p (send_wanting (is_in_transaction p.state s) p s) (send_progress p s x)
sent_wanting p s (Ok m) h = stamped_wanting (is_in_transaction p.state s) p s m
sent_wanting p s (Err r) h = cc

call_wanting : (p : Progress) (call : ClientCall) → call_may_want p call ≡ true → UsesOne p (progress_wanting p call) (progress_to p call)
unfolding call_may_want progress_wanting progress_to
call_wanting p (Ask who request) h = (refl, refl, inl refl)
call_wanting p (Send s draft destination now) h = sent_wanting p s (stamp_of p s draft destination now) h
call_wanting p (CommitSession s) h = (refl, refl, inl refl)

-- what a run owes to a call fits
owed_call : (p : Progress) (call : ClientCall) (r : Result Answer Refusal) (next : Progress) → CallOwed p call r next → CallFits p call r next
owed_call p call (Err Memory) next f = subst (λ (x : Progress). UsesOne p x (progress_to p call)) (sym f.1) (call_wanting p call f.0)
owed_call p call (Err Store) next f = absurd (no_store_to p call f.0)
owed_call p call r next f = f

-- what a run owes fits
pub owed_fits : (p : Progress) (calls : List ClientCall) (replies : List (Result Answer Refusal)) (end : Progress) → RunOwed p calls replies end → RepliesFit p calls replies end
owed_fits p [] [] end f = f
owed_fits p [] (r ∷ replies) end f = absurd f
owed_fits p (call ∷ calls) [] end f = absurd f
owed_fits p (call ∷ calls) (r ∷ replies) end f = (f.0, owed_call p call r f.0 f.1, owed_fits f.0 calls replies end f.2)

-- What a send leaves in the session.
use Rattle.std.proofs.Common.{◌≡◌, ℕ, Bool, true, false, refl, ap, sym, subst, inl, inr, Result, Ok, Err}
use Rattle.jm_base.specs.declared.refusal.Refusal.{Refusal}
use Rattle.jm_dest.specs.declared.destination.Destination.{Destination}
use Rattle.jm_dest.specs.declared.session.SessionId.{SessionId}
use Rattle.jm_error.specs.Refused.{Refused, bare}
use Rattle.jm_header.specs.declared.content.Content.{Content}
use Rattle.jm_header.specs.declared.content.Settings.{Settings}
use Rattle.jm_tx.specs.declared.buffer.Buffer.{Buffer}
use Rattle.jm_tx.specs.declared.buffer.Sent.{Sent}
use Rattle.jm_tx.specs.declared.buffer.Sent.TheVariants.{Kept, Publish}
use Rattle.jm_tx.specs.Buffers.{is_transacted, stamp_of, KnownSendFits, SendFits}
use Rattle.jm_client.specs.Sends.{IsPublished, IsUnstamped, Sends}

-- who sends stays
pub sender_stays : (waits : Bool) (old new : Buffer) (stamp : Result Content Refusal) (r : Result Sent Refusal) → KnownSendFits waits old stamp r new → new.sender ≡ old.sender
sender_stays waits old new (Err q) r f = ap (λ (b : Buffer). b.sender) f.1
sender_stays true old new (Ok m) (Ok s) f = ap (λ (b : Buffer). b.sender) f.1
sender_stays false old new (Ok m) (Ok s) f = ap (λ (b : Buffer). b.sender) f.1
sender_stays waits old new (Ok m) (Err q) f = ap (λ (b : Buffer). b.sender) f.2

kept_at : (old new : Buffer) (draft : Settings) (to : Destination) (now n : ℕ) (waits : Bool) (w : is_transacted old.mode ≡ waits) (stamp : Result Content Refusal) → stamp_of old draft to now ≡ stamp → KnownSendFits waits old stamp (Ok (Kept n)) new → Sends old draft to (Ok n) new
kept_at old new draft to now n waits w (Err q) e f = absurd cc
kept_at old new draft to now n true w (Ok m) e f = (now, m, e, rw w f.1, rw w cc)
kept_at old new draft to now n false w (Ok m) e f = absurd cc

-- a message that waits for the commit was sent
pub kept_sends : (old new : Buffer) (draft : Settings) (to : Destination) (now n : ℕ) → SendFits old (stamp_of old draft to now) (Ok (Kept n)) new → Sends old draft to (Ok n) new
kept_sends old new draft to now n f = kept_at old new draft to now n (is_transacted old.mode) refl (stamp_of old draft to now) refl f

same_message : (p m : Content) → Publish p ≡ Publish m → p ≡ m
same_message p m h = cc

-- what is told of the publication is told of this message, by the session that sent it
told_of : (s t : SessionId) (p m : Content) (r : Result ℕ Refused) → s ≡ t → Publish p ≡ Publish m → IsPublished t p r → IsPublished s m r
told_of s t p m r e h i = subst (λ u. IsPublished u m r) (sym e) (subst (λ q. IsPublished t q r) (same_message p m h) i)

published_at : (old new : Buffer) (draft : Settings) (to : Destination) (now : ℕ) (s : SessionId) (p : Content) (r : Result ℕ Refused) (waits : Bool) (w : is_transacted old.mode ≡ waits) (stamp : Result Content Refusal) → stamp_of old draft to now ≡ stamp →
    KnownSendFits waits old stamp (Ok (Publish p)) new → old.sender.session ≡ s → IsPublished s p r → Sends old draft to r new
published_at old new draft to now s p r waits w (Err q) e f k i = absurd cc
published_at old new draft to now s p r true w (Ok m) e f k i = absurd cc
published_at old new draft to now s p (Ok n) false w (Ok m) e f k i = (now, m, e, rw w f.1, rw w (told_of old.sender.session s p m (Ok n) k f.0 i))
published_at old new draft to now s p (Err q) false w (Ok m) e f k i = inr (w, f.1, (now, m, e, told_of old.sender.session s p m (Err q) k f.0 i))

-- so was one that is published, or refused then
pub published_sends : (old new : Buffer) (draft : Settings) (to : Destination) (now : ℕ) (s : SessionId) (p : Content) (r : Result ℕ Refused) → SendFits old (stamp_of old draft to now) (Ok (Publish p)) new →
    old.sender.session ≡ s → IsPublished s p r → Sends old draft to r new
published_sends old new draft to now s p r f k i = published_at old new draft to now s p r (is_transacted old.mode) refl (stamp_of old draft to now) refl f k i

refused_at : (waits : Bool) (old new : Buffer) (draft : Settings) (to : Destination) (now : ℕ) (stamp : Result Content Refusal) (q : Refusal) → stamp_of old draft to now ≡ stamp → KnownSendFits waits old stamp (Err q) new →
    Sends old draft to (Err (bare q)) new
refused_at waits old new draft to now (Err r) q e f = inl (f.1, inr (inr (now, r, e, cc)))
refused_at waits old new draft to now (Ok m) q e f = inl (f.2, inr (inl (ap bare f.0)))

-- a send that is not stamped leaves all
pub refused_sends : (old new : Buffer) (draft : Settings) (to : Destination) (now : ℕ) (q : Refusal) → SendFits old (stamp_of old draft to now) (Err q) new → Sends old draft to (Err (bare q)) new
refused_sends old new draft to now q f = refused_at (is_transacted old.mode) old new draft to now (stamp_of old draft to now) q refl f

-- nor does one that was not stamped for want of memory or of a moment
pub unstamped_sends : (old : Buffer) (draft : Settings) (to : Destination) (r : Refused) → IsUnstamped old draft to r → Sends old draft to (Err r) old
unstamped_sends old draft to r u = inl (refl, u)

-- A call leaves whose seats they are.
use Rattle.std.proofs.Common.{◌≡◌, ℕ, zero, suc, ◌<◌, Bool, true, false, List, [], ◌∷◌, length, map, get_or, refl, ap, sym, ◌∙◌, arith}
use Rattle.std.proofs.Math.Seq.{map-set_same}
use Rattle.std.proofs.lemmas.Option.{get_or_from_slice_get}
use Rattle.std.specs.Prelude.{Result, Ok, Err, Option, Some, None, IfSome, IfNone}
use Rattle.jm_base.specs.declared.refusal.Refusal.{Refusal}
use Rattle.jm_header.specs.declared.content.Content.{Content}
use Rattle.jm_header.specs.declared.content.Sender.{Sender}
use Rattle.jm_tx.specs.declared.buffer.Buffer.{Buffer}
use Rattle.jm_tx.specs.Buffers.{is_transacted}
use Rattle.jm_machine.specs.declared.answer.Answer.{Answer}
use Rattle.jm_machine.specs.declared.call.Who.{Who}
use Rattle.jm_machine.specs.declared.call.Who.TheVariants.{Connection, Session}
use Rattle.jm_machine.specs.declared.call.Request.{Request}
use Rattle.jm_machine.specs.declared.call.ClientCall.{ClientCall}
use Rattle.jm_machine.specs.declared.call.ClientCall.TheVariants.{Ask, Send, CommitSession}
use Rattle.jm_dest.specs.Names.{session_eq}
use Rattle.jm_seats.specs.declared.effect.Effect.{Effect}
use Rattle.jm_seats.specs.declared.effect.Effect.TheVariants.{Nothing, Opens, Closes, RollsBack}
use Rattle.jm_parted.specs.Parts.{of_owner}
use Rattle.jm_seats.specs.Seat.{Seated, effect_of, half_after, half_after_commit, stamp_at, with_effect, CommitFits, SeatFits, SeatRan, SendFits, StampedFits}
use Rattle.jm_seats.specs.Seats.{Seating, heard, place_of, senders_of, AllRan, PlaceFits, SeatsFit}

abbrev sender_of : Seated → Sender
sender_of seat = seat.half.sender

effect_sender : (effect : Effect) (half : Buffer) → (with_effect effect half).sender ≡ half.sender
effect_sender Nothing half = refl
effect_sender (Opens mode) half = refl
effect_sender Closes half = refl
effect_sender RollsBack half = refl

after_sender : (who : Who) (request : Request) (r : Result Answer Refusal) (half : Buffer) → (half_after who request r half).sender ≡ half.sender
after_sender who request (Ok a) half = effect_sender (effect_of half.sender.session who request) half
after_sender who request (Err refusal) half = refl

committed_sender : (r : Result Answer Refusal) (half : Buffer) → (half_after_commit r half).sender ≡ half.sender
committed_sender (Ok a) half = refl
committed_sender (Err refusal) half = refl

stamped_sender : (waits : Bool) (m : Content) (old : Seated) (r : Result Answer Refusal) (new : Seated) → StampedFits waits m old r new → sender_of new ≡ sender_of old
stamped_sender true m old (Ok a) new fits = ap sender_of fits.1
stamped_sender true m old (Err refusal) new fits = ap sender_of fits.1
stamped_sender false m old r new fits = ap (λ half. half.sender) fits.0

sent_sender : (stamp : Result Content Refusal) (old : Seated) (r : Result Answer Refusal) (new : Seated) → SendFits stamp old r new → sender_of new ≡ sender_of old
sent_sender (Ok m) old r new fits = stamped_sender (is_transacted old.half.mode) m old r new fits
sent_sender (Err refusal) old r new fits = ap sender_of fits.1

own_commit_sender : (own : Bool) (old : Seated) (r : Result Answer Refusal) (new : Seated) → CommitFits own old r new → sender_of new ≡ sender_of old
own_commit_sender true old r new fits = ap (λ half. half.sender) fits.1 ∙ committed_sender r old.half
own_commit_sender false old r new fits = ap sender_of fits.1

-- a call at a seat leaves whose seat it is
fit_sender : (old : Seated) (call : ClientCall) (r : Result Answer Refusal) (new : Seated) → SeatFits old call r new → sender_of new ≡ sender_of old
fit_sender old (Ask who request) r new fits = ap (λ half. half.sender) fits.1 ∙ after_sender who request r old.half
fit_sender old (Send s draft destination now) r new fits = sent_sender (stamp_at old.half s draft destination now) old r new fits
fit_sender old (CommitSession s) r new fits = own_commit_sender (session_eq old.half.sender.session s) old r new fits

-- so do calls in turn
ran_sender : (old : Seated) (calls : List ClientCall) (replies : List (Result Answer Refusal)) (new : Seated) → SeatRan old calls replies new → sender_of new ≡ sender_of old
ran_sender old [] [] new ran = ap sender_of ran
ran_sender old [] (r ∷ replies) new ran = absurd ran
ran_sender old (call ∷ calls) [] new ran = absurd ran
ran_sender old (call ∷ calls) (r ∷ replies) new ran = ran_sender ran.0 calls replies new ran.2 ∙ fit_sender old call r ran.0 ran.1

heard_senders : (who : Who) (request : Request) (r : Result Answer Refusal) (seats : List Seated) → senders_of (map (heard who request r) seats) ≡ senders_of seats
heard_senders who request r [] = refl
heard_senders who request r (seat ∷ seats) =
    ap (λ s. s ∷ senders_of (map (heard who request r) seats)) (after_sender who request r seat.half)
    ∙ ap (λ senders. seat.half.sender ∷ senders) (heard_senders who request r seats)

placed_senders : (i : ℕ) (call : ClientCall) (old : Seating) (r : Result Answer Refusal) (new : Seating) → PlaceFits i call old r new → senders_of new.seats ≡ senders_of old.seats
placed_senders i call old r new fits =
    ap senders_of fits.seats
    ∙ map-set_same sender_of old.seats i fits.after fits.before
    (fit_sender fits.before call r fits.after fits.fits ∙ ap sender_of (sym (get_or_from_slice_get old.seats i fits.before fits.before fits.stands)))

-- a call among all seats leaves whose seats they are
pub fits_senders : (old : Seating) (call : ClientCall) (r : Result Answer Refusal) (new : Seating) → SeatsFit old call r new → senders_of new.seats ≡ senders_of old.seats
fits_senders old (Ask (Connection c) request) r new fits = ap senders_of fits.1 ∙ heard_senders (Connection c) request r old.seats
fits_senders old (Ask (Session s) request) r new fits = placed_senders (place_of old.seats s) (Ask (Session s) request) old r new fits
fits_senders old (Send s draft destination now) r new fits = placed_senders (place_of old.seats s) (Send s draft destination now) old r new fits
fits_senders old (CommitSession s) r new fits = placed_senders (place_of old.seats s) (CommitSession s) old r new fits

-- so it does where it is made, and where it is not
pub asked_senders : (o : Option (Result Answer Refusal)) (old : Seating) (call : ClientCall) (new : Seating) (P : Type 0)
    → IfSome o (λ r. SeatsFit old call r new) → IfNone o (P × (new ≡ old)) → senders_of new.seats ≡ senders_of old.seats
asked_senders (Some r) old call new P some none = fits_senders old call r new some
asked_senders None old call new P some none = ap (λ s. senders_of s.seats) none.1

-- seats that are each another's
each_same : {A B : Type 0} (f : A → B) (olds news : List A) → length news ≡ length olds
    → ((k : ℕ) (d : A) → k < length olds → f (get_or news k d) ≡ f (get_or olds k d)) → map f news ≡ map f olds
each_same f [] [] same each = refl
each_same f [] (n ∷ news) same each = absurd (omega (arith, same))
each_same f (o ∷ olds) [] same each = absurd (omega (arith, same))
each_same f (o ∷ olds) (n ∷ news) same each =
    ap (λ x. x ∷ map f news) (each zero o (omega arith)) ∙ ap (λ xs. f o ∷ xs) (each_same f olds news (omega (arith, same)) (λ k d less. each (suc k) d (omega (arith, less))))

-- calls at once leave whose seats they are
pub all_senders : (owners : List ℕ) (olds : List Seated) (calls : List ClientCall) (replies : List (Result Answer Refusal)) (news : List Seated)
    → length news ≡ length olds → AllRan owners olds calls replies news → senders_of news ≡ senders_of olds
all_senders owners olds calls replies news same ran = each_same sender_of olds news same
    (λ k d less. ran_sender (get_or olds k d) (of_owner k owners calls) (of_owner k owners replies) (get_or news k d) (ran k d less))

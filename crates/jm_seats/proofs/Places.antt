-- Where seats stand.
use Rattle.std.proofs.Common.{◌≡◌, ◌≤◌, ℕ, zero, suc, ◌+◌, ◌<◌, Bool, true, false, List, [], ◌∷◌, ◌++◌, length, map, get_or, drop, set, take, Some, refl, ap, subst, sym, ◌∙◌, add-one, arith, if◌then◌else◌}
use Rattle.std.proofs.Math.Seq.{drop-cons, take-suc}
use Rattle.std.proofs.lemmas.List.{get_or-map, length-map, map-append, map-set}
use Rattle.std.proofs.lemmas.List.Elements.{All-push}
use Rattle.std.proofs.lemmas.Option.{slice_get_read}
use Rattle.std.specs.Prelude.{Result, Ok, Err, Option, None, IfNone, OnOk, All}
use Rattle.jm_base.specs.declared.refusal.Refusal.{Refusal}
use Rattle.jm_dest.specs.declared.session.SessionId.{SessionId}
use Rattle.jm_dest.specs.Names.{session_eq}
use Rattle.jm_machine.specs.declared.answer.Answer.{Answer}
use Rattle.jm_machine.specs.declared.call.Who.TheVariants.{Connection, Session}
use Rattle.jm_machine.specs.declared.call.ClientCall.{ClientCall}
use Rattle.jm_machine.specs.declared.call.ClientCall.TheVariants.{Ask, Send, CommitSession}
use Rattle.jm_tx.specs.declared.buffer.Buffer.{Buffer}
use Rattle.jm_seats.specs.declared.desk.Desk.{Desk}
use Rattle.jm_seats.specs.Desks.{seats_at}
use Rattle.jm_audit.specs.Passes.{Calls}
use Rattle.jm_seats.specs.Seat.{Seated, SeatFits}
use Rattle.jm_seats.specs.Seats.{Seating, owner_of, place_of, IsUnused, PlaceFits, SeatsFit}

-- the desk at that place is the first of those that are left
left : {L : Type 0} (desks : List (Desk L)) (i : ℕ) (d : Desk L) → i < length desks → d ≡ get_or desks i d → drop i desks ≡ d ∷ drop (i + 1) desks
left desks i d less is = drop-cons desks i d less ∙ ap (λ x. x ∷ drop (suc i) desks) (sym is) ∙ ap (λ n. d ∷ drop n desks) (sym (add-one i))

-- it has the session's seat
pub place_here : {L : Type 0} (desks : List (Desk L)) (s : SessionId) (i : ℕ) (d : Desk L) → i < length desks → d ≡ get_or desks i d
    → session_eq d.seat.half.sender.session s ≡ true → place_of (seats_at (drop i desks)) s ≡ 0
place_here desks s i d less is same =
    ap (λ xs. place_of (seats_at xs) s) (left desks i d less is) ∙ ap (λ b. if b then 0 else suc (place_of (seats_at (drop (i + 1) desks)) s)) same

-- it has not, and so the seat is further on
pub place_further : {L : Type 0} (desks : List (Desk L)) (s : SessionId) (i : ℕ) (d : Desk L) → i < length desks → d ≡ get_or desks i d
    → session_eq d.seat.half.sender.session s ≡ false → place_of (seats_at (drop i desks)) s ≡ suc (place_of (seats_at (drop (i + 1) desks)) s)
place_further desks s i d less is other =
    ap (λ xs. place_of (seats_at xs) s) (left desks i d less is) ∙ ap (λ b. if b then 0 else suc (place_of (seats_at (drop (i + 1) desks)) s)) other

-- a place is at most the number of seats
pub place_within : (seats : List Seated) (s : SessionId) → place_of seats s ≤ length seats
place_within [] s = omega arith
place_within (seat ∷ seats) s = go (session_eq seat.half.sender.session s) (place_within seats s)
  where
    go : (b : Bool) → place_of seats s ≤ length seats → (if b then 0 else suc (place_of seats s)) ≤ suc (length seats)
    go true within = omega arith
    go false within = omega (arith, within)

pub owner_within : (seats : List Seated) (call : ClientCall) → owner_of seats call ≤ length seats
owner_within seats (Ask (Connection c) request) = omega arith
owner_within seats (Ask (Session s) request) = place_within seats s
owner_within seats (Send s draft destination now) = place_within seats s
owner_within seats (CommitSession s) = place_within seats s

-- a call that is made at a seat is no connection's
pub placed : (old new : Seating) (call : ClientCall) (r : Result Answer Refusal) → owner_of old.seats call < length old.seats
    → PlaceFits (owner_of old.seats call) call old r new → SeatsFit old call r new
placed old new (Ask (Connection c) request) r less fits = absurd (omega (arith, less))
placed old new (Ask (Session s) request) r less fits = fits
placed old new (Send s draft destination now) r less fits = fits
placed old new (CommitSession s) r less fits = fits

-- seats that are each as a function says
pub each_mapped : {L : Type 0} (f : Seated → Seated) (olds news : List (Desk L)) → length news ≡ length olds
    → ((k : ℕ) (d : Desk L) → k < length olds → (get_or news k d).seat ≡ f (get_or olds k d).seat) → seats_at news ≡ map f (seats_at olds)
each_mapped f [] [] same each = refl
each_mapped f [] (n ∷ news) same each = absurd (omega (arith, same))
each_mapped f (o ∷ olds) [] same each = absurd (omega (arith, same))
each_mapped f (o ∷ olds) (n ∷ news) same each =
    ap (λ x. x ∷ seats_at news) (each zero o (omega arith))
    ∙ ap (λ xs. f o.seat ∷ xs) (each_mapped f olds news (omega (arith, same)) (λ k d less. each (suc k) d (omega (arith, less))))

-- one desk more, with the half of the next session
pub halves_more : {L : Type 0} (desks : List (Desk L)) (d : Desk L) (f : SessionId → Buffer) (sessions : List SessionId) (i : ℕ) (s : SessionId) → i < length sessions → s ≡ get_or sessions i s
    → map (λ seat. seat.half) (seats_at desks) ≡ map f (take i sessions) → d.seat.half ≡ f s
    → map (λ seat. seat.half) (seats_at (desks ++ d ∷ [])) ≡ map f (take (i + 1) sessions)
halves_more {L} desks d f sessions i s less is inv same =
    let seat : Desk L → Seated = λ x. x.seat in
    let half : Seated → Buffer = λ x. x.half in
    ap (λ xs. map half xs) (map-append seat desks (d ∷ [])) ∙ map-append half (seats_at desks) (d.seat ∷ [])
    ∙ ap (λ xs. xs ++ d.seat.half ∷ []) inv ∙ ap (λ h. map f (take i sessions) ++ h ∷ []) (same ∙ ap f is)
    ∙ sym (map-append f (take i sessions) (get_or sessions i s ∷ []))
    ∙ ap (λ xs. map f xs) (sym (ap (λ n. take n sessions) (add-one i) ∙ take-suc sessions i s less))

-- what is said where there is none, said otherwise
pub mapped_none : {X A B : Type 0} (o : Option X) → (A → B) → IfNone o A → IfNone o B
mapped_none None f a = f a
mapped_none (Some x) f a = a

-- the call at a seat, among all seats
pub at_place : {L : Type 0} (ds : List (Desk L)) (connections : Calls) (i : ℕ) (call : ClientCall) (r : Result Answer Refusal) (d y : Desk L)
    → i ≡ owner_of (seats_at ds) call → i < length ds → d ≡ get_or ds i d → SeatFits d.seat call r y.seat
    → SeatsFit (record { seats = seats_at ds; connections = connections }) call r (record { seats = seats_at (set ds i y); connections = connections })
at_place {L} ds connections i call r d y is less read fits =
    let seat : Desk L → Seated = λ x. x.seat in
    let old : Seating = record { seats = seats_at ds; connections = connections } in
    let new : Seating = record { seats = seats_at (set ds i y); connections = connections } in
    let within : i < length (seats_at ds) = omega (arith, less, length-map ds seat) in
    let P : ℕ → Type 0 = λ n. PlaceFits n call old r new in
    let there : d.seat ≡ get_or (seats_at ds) i d.seat = ap seat read ∙ sym (get_or-map seat ds i d d.seat less) in
    let made : PlaceFits i call old r new = record {
      before = d.seat;
      after = y.seat;
      stands = slice_get_read (seats_at ds) _ i d.seat refl within there;
      fits = fits;
      seats = map-set seat ds i y;
      connections = refl;
    } in
    placed old new call r (omega (arith, within, is)) (subst P is made)

-- what is said where it went well, said otherwise
pub mapped_ok : {X E A B : Type 0} (r : Result X E) → (A → B) → OnOk r A → OnOk r B
mapped_ok (Ok x) f a = f a
mapped_ok (Err e) f a = a

-- one desk more, with a pass that was not used
pub unused_more : {L : Type 0} (desks : List (Desk L)) (d : Desk L) → All (λ seat. IsUnused seat.pass) (seats_at desks) → IsUnused d.seat.pass
    → All (λ seat. IsUnused seat.pass) (seats_at (desks ++ d ∷ []))
unused_more {L} desks d all one =
    subst (λ seats. All (λ seat. IsUnused seat.pass) seats) (sym (map-append (λ x. x.seat) desks (d ∷ [])))
    (All-push (λ seat. IsUnused seat.pass) (seats_at desks) d.seat all one)

-- Each session that calls in the parts has a seat.
use Rattle.std.proofs.Common.{◌≡◌, ℕ, zero, suc, ◌<◌, Bool, true, false, true≢false, List, [], ◌∷◌, length, map, get_or, Option, Some, None, refl, ap, subst, sym, ◌∙◌, arith, if◌then◌else◌}
use Rattle.std.proofs.lemmas.List.{get_or-map, length-map}
use Rattle.std.proofs.lemmas.List.Elements.{All-contains, Contains-append_left, Contains-append_right}
use Rattle.std.proofs.lemmas.Option.{get_or_from_slice_get, slice_get_within}
use Rattle.std.proofs.lemmas.Simd.{map-map}
use Rattle.std.specs.Prelude.{All, Contains, Result, filter_map}
use Rattle.std.specs.List.{cons_option}
use Rattle.jm_base.specs.declared.refusal.Refusal.{Refusal}
use Rattle.jm_machine.specs.declared.answer.Answer.{Answer}
use Rattle.jm_dest.specs.declared.session.SessionId.{SessionId}
use Rattle.jm_dest.specs.Names.{session_eq}
use Rattle.jm_header.specs.declared.content.Sender.{Sender}
use Rattle.jm_machine.specs.declared.call.ClientCall.{ClientCall}
use Rattle.jm_machine.specs.declared.call.ClientCall.TheVariants.{Ask, Send, CommitSession}
use Rattle.jm_machine.specs.declared.call.Who.TheVariants.{Connection, Session}
use Rattle.jm_machine.proofs.Keys.{session_refl}
use Rattle.jm_scenario.specs.Items.{is_by_session}
use Rattle.jm_forks.specs.declared.part.Part.{Part}
use Rattle.jm_forks.specs.declared.part.Part.TheVariants.{Alone, Together}
use Rattle.jm_forks.specs.Forks.{IsBySessions, IsCaller, calls_in, calls_of_parts, session_of, sessions_of}
use Rattle.jm_forks.proofs.Laws.{sessions_of-callers}
use Rattle.jm_tx.specs.declared.buffer.Buffer.{Buffer}
use Rattle.jm_seats.specs.Seat.{Seated}
use Rattle.jm_seats.specs.Seats.{Seating, is_by_connection, owner_of, place_of, senders_of, unopened_at}
use Rattle.jm_seats.specs.declared.stretch.StretchFault.TheVariants.{NoSeat}
use Rattle.jm_threaded.specs.Runs.{AreNew, IsNowhere, StopsAt}

-- the seat at that place is the session's, and so it has a place
place_below : (seats : List Seated) (s : SessionId) (k : ℕ) (d : Seated) → k < length seats → (get_or seats k d).half.sender.session ≡ s
    → place_of seats s < length seats
place_below [] s k d less is = absurd (omega (arith, less))
place_below (seat ∷ seats) s zero d less is = go (session_eq seat.half.sender.session s) (subst (λ t. session_eq seat.half.sender.session t ≡ true) is (session_refl seat.half.sender.session))
  where
    go : (b : Bool) → b ≡ true → (if b then 0 else suc (place_of seats s)) < suc (length seats)
    go true e = omega arith
    go false e = absurd (true≢false (sym e))
place_below (seat ∷ seats) s (suc k) d less is = go (session_eq seat.half.sender.session s) (place_below seats s k d (omega (arith, less)) is)
  where
    go : (b : Bool) → place_of seats s < length seats → (if b then 0 else suc (place_of seats s)) < suc (length seats)
    go true below = omega arith
    go false below = omega (arith, below)

abbrev sender_of : Seated → Sender
sender_of seat = seat.half.sender

-- whose the seats are as a run begins
new_senders : (opening : ℕ) (sessions : List SessionId) (seating : Seating) → AreNew opening sessions seating
    → senders_of seating.seats ≡ map (λ s. (unopened_at opening s).sender) sessions
new_senders opening sessions seating new =
    let half : Seated → Buffer = λ seat. seat.half in
    let sender : Buffer → Sender = λ b. b.sender in
    sym (map-map sender half seating.seats) ∙ ap (λ halves. map sender halves) new.halves ∙ map-map sender (unopened_at opening) sessions

-- a session of the list that is as long as the seats, and whose they are, has a place
listed_place : (sender : SessionId → Sender) (sessions : List SessionId) (seats : List Seated) (s : SessionId) → ((t : SessionId) → (sender t).session ≡ t)
    → senders_of seats ≡ map sender sessions → Contains sessions s → place_of seats s < length seats
listed_place sender sessions [] s own senders c =
    let long : length (map sender sessions) ≡ length sessions = length-map sessions sender in
    let none = ap length senders in
    let less = c.1 in
    absurd (omega (arith, none, long, less))
listed_place sender sessions (seat ∷ seats) s own senders c =
    let all : List Seated = seat ∷ seats in
    let long : length all ≡ length sessions = sym (length-map all sender_of) ∙ ap length senders ∙ length-map sessions sender in
    let less : c.0 < length all = omega (arith, long, c.1) in
    let at : (get_or all c.0 seat).half.sender ≡ sender s =
    sym (get_or-map sender_of all c.0 seat (sender_of seat) less) ∙ ap (λ xs. get_or xs c.0 (sender_of seat)) senders
    ∙ get_or-map sender sessions c.0 s (sender_of seat) c.1 ∙ ap sender c.2 in
    place_below all s c.0 seat less (ap (λ x. x.session) at ∙ own s)

-- a call of one of the parts is a call of the parts
among : (parts : List Part) (part : Part) (call : ClientCall) → Contains parts part → Contains (calls_in part) call → Contains (calls_of_parts parts) call
among [] part call c h = absurd (omega (arith, c.1))
among (p ∷ parts) part call (zero, less, is) h =
    Contains-append_left (calls_in p) (calls_of_parts parts) call (subst (λ q. Contains (calls_in q) call) (sym is) h)
among (p ∷ parts) part call (suc k, less, is) h =
    Contains-append_right (calls_in p) (calls_of_parts parts) call (among parts part call (k, omega (arith, less), is) h)

-- the session that makes one of the calls is among those that make them
session_among : (calls : List ClientCall) (call : ClientCall) (s : SessionId) → Contains calls call → session_of call ≡ Some s
    → Contains (filter_map session_of calls) s
session_among [] call s c by = absurd (omega (arith, c.1))
session_among (x ∷ calls) call s (zero, less, is) by =
    let first : Contains (s ∷ filter_map session_of calls) s = (zero, omega arith, refl) in
    subst (λ o. Contains (cons_option o (filter_map session_of calls)) s) (sym (ap session_of is ∙ by)) first
session_among (x ∷ calls) call s (suc k, less, is) by = go (session_of x) (session_among calls call s (k, omega (arith, less), is) by)
  where
    go : (o : Option SessionId) → Contains (filter_map session_of calls) s → Contains (cons_option o (filter_map session_of calls)) s
    go None c = c
    go (Some t) c = Contains-append_right (t ∷ []) (filter_map session_of calls) s c

module _ (opening : ℕ) (parts : List Part) (before : Seating) (seats : List Seated) (new : AreNew opening (sessions_of parts) before) (same : senders_of seats ≡ senders_of before.seats) where
  caller_place : (s : SessionId) → IsCaller s parts → place_of seats s < length seats
  caller_place s by =
      listed_place (λ t. (unopened_at opening t).sender) (sessions_of parts) seats s (λ t. refl)
      (same ∙ new_senders opening (sessions_of parts) before new) ((sessions_of-callers parts s).1 by)

  -- no call that a session makes in the parts is made at no seat
  call_placed : (part : Part) (call : ClientCall) → Contains parts part → Contains (calls_in part) call → is_by_session call ≡ true
      → owner_of seats call ≡ length seats → ⊥
  call_placed part (Ask (Connection c) request) stands within by nowhere = absurd (true≢false (sym by))
  call_placed part (Ask (Session s) request) stands within by nowhere =
      let place = caller_place s (session_among (calls_of_parts parts) (Ask (Session s) request) s (among parts part (Ask (Session s) request) stands within) refl) in
      omega (arith, place, nowhere)
  call_placed part (Send s draft destination now) stands within by nowhere =
      let place = caller_place s (session_among (calls_of_parts parts) (Send s draft destination now) s (among parts part (Send s draft destination now) stands within) refl) in
      omega (arith, place, nowhere)
  call_placed part (CommitSession s) stands within by nowhere =
      let place = caller_place s (session_among (calls_of_parts parts) (CommitSession s) s (among parts part (CommitSession s) stands within) refl) in
      omega (arith, place, nowhere)

  by_session : (call : ClientCall) → is_by_connection call ≡ false → is_by_session call ≡ true
  by_session (Ask (Connection c) request) by = absurd (true≢false by)
  by_session (Ask (Session s) request) by = refl
  by_session (Send s draft destination now) by = refl
  by_session (CommitSession s) by = refl

  part_placed : (part : Part) → Contains parts part → All IsBySessions parts → IsNowhere seats part → ⊥
  part_placed (Alone call) stands all nowhere =
      call_placed (Alone call) call stands (zero, omega arith, refl) (by_session call nowhere.0) nowhere.1
  part_placed (Together calls) stands all nowhere =
      let within : Contains calls nowhere.call = (
        nowhere.i,
        slice_get_within calls nowhere.i nowhere.call nowhere.stands,
        get_or_from_slice_get calls nowhere.i nowhere.call nowhere.call nowhere.stands,
      ) in
      call_placed (Together calls) nowhere.call stands within
      (All-contains (λ c. is_by_session c ≡ true) calls nowhere.call (All-contains IsBySessions parts (Together calls) all stands) within) nowhere.nowhere

-- so a run of parts of which those together are by sessions stops at none for want of a seat
pub never_unseated : (opening : ℕ) (parts : List Part) (before after : Seating) (replies : List (Result Answer Refusal)) → AreNew opening (sessions_of parts) before
    → senders_of after.seats ≡ senders_of before.seats → All IsBySessions parts → StopsAt before parts replies NoSeat after → ⊥
never_unseated opening parts before after replies new same all stops =
    let stands : Contains parts stops.part = subst (λ ps. Contains ps stops.part) (sym stops.stands)
    (Contains-append_right stops.before (stops.part ∷ stops.behind) stops.part (zero, omega arith, refl)) in
    part_placed opening parts before after.seats new same stops.part stands all stops.cause

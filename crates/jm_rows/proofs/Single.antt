-- What one list at most shows after each change of it.
use Rattle.std.proofs.Common.{◌≡◌, ◌<◌, ◌≤◌, ◌+◌, ◌-◌, ℕ, Bool, true, false, cond, List, [], ◌∷◌, ◌++◌, length, map, refl, ap, sym, ◌∙◌, arith, Option, None}
use Rattle.std.specs.Prelude.{filter, not, slice_index_or}
use Rattle.std.specs.List.{list_any, Contains}
use Rattle.jm_dest.specs.declared.session.SessionId.{SessionId}
use Rattle.jm_machine.specs.declared.state.Row.{Row}
use Rattle.jm_machine.specs.Machine.{delivery, one_missed}
use Rattle.jm_machine.specs.Rows.{bare, live, next, deliver, deliver_placed, is_out, given_back, InOrder}
use Rattle.jm_pending.specs.Rows.{is_at_limit}
use Rattle.jm_stations.specs.Backlogs.{Backlog, HasMoreRoom, IsNumberOfMessages, joined, answered, are_home, changed_at, settled, returned}
use Rattle.jm_stations.specs.Stations.{Stations}
use Rattle.jm_rows.specs.Rows.{HasRoom, IsOneAtMost, rows_in}
use Rattle.jm_machine.proofs.Bare.{bare-append, bare-deliver, bare-length, bare-settled, bare-returned}
use Rattle.jm_rows.proofs.Number.{number_of_rows}
use Rattle.jm_rows.proofs.Order.{LeavesOne, order_delivered, order_filter, order_push, order_returned}

-- it holds the same where there is more room
pub roomy : (n : ℕ) (old new : List Backlog) → HasMoreRoom old new → IsOneAtMost n old → IsOneAtMost n new × ((length new ≡ length old) × (rows_in new ≡ rows_in old))
roomy n [] [] r h = (tt, (refl, refl))
roomy n [] (c ∷ new) r h = absurd (let e = r.number in omega arith)
roomy n (b ∷ []) [] r h = absurd (let e = r.number in omega arith)
roomy n (b ∷ []) (c ∷ d ∷ new) r h = absurd (let e = r.number in omega arith)
roomy n (b ∷ []) (c ∷ []) r h =
    let same : c ≡ record b { room = c.room } = r.same 0 b (omega arith) in
    let rows : c.rows ≡ b.rows = ap (λ (x : Backlog). x.rows) same in
    ((ap (λ (x : Backlog). x.limit) same ∙ h.0, rw rows h.1), (refl, ap bare rows))
roomy n (b ∷ c ∷ old) new r h = absurd h

-- a row that comes to a list of any number of rows
abbrev came : ℕ → Row → Backlog → Backlog
came n row b = record b { rows = b.rows ++ record { place = n; row = row } ∷ []; room = b.room - 1 }

joined_any : (n : ℕ) (row : Row) (b : Backlog) → b.limit ≡ None → joined n row b ≡ came n row b
joined_any n row b e = ap (λ (l : Option ℕ). cond (is_at_limit l (length b.rows)) (record b { missed = one_missed b.missed }) (came n row b)) e

-- a row comes behind all others
pub row_comes : (n : ℕ) (row : Row) (list new : List Backlog) → IsOneAtMost n list → 0 < length list → new ≡ changed_at 0 (joined n row) list →
    IsOneAtMost (n + 1) new × (rows_in new ≡ rows_in list ++ row ∷ [])
row_comes n row [] new h l is = absurd (omega (arith, l))
row_comes n row (b ∷ []) new h l is = rw is (rw (joined_any n row b h.0) ((h.0, order_push n row b.rows h.1), bare-append b.rows (record { place = n; row = row } ∷ [])))
row_comes n row (b ∷ c ∷ list) new h l is = absurd h

-- and there is room for the rest
pub room_rest : (n m : ℕ) (old new : Stations) (row : Row) → m ≡ n + 1 → IsOneAtMost old.next_place old.list → HasRoom m old → new.list ≡ changed_at 0 (joined old.next_place row) old.list → new.next_place ≡ old.next_place + 1 →
    old.message_room ≤ new.message_room + 1 → HasRoom n new
room_rest n m old new row is h r list next room = record {
  first = rw list (there old.list r.first);
  places = omega (arith, r.places, is, next);
  messages = omega (arith, r.messages, is, room);
  rows = λ d. rw list (left old.list h d (r.rows d));
}
  where
    there : (xs : List Backlog) → 0 < length xs → 0 < length (changed_at 0 (joined old.next_place row) xs)
    there [] l = absurd (omega (arith, l))
    there (b ∷ xs) l = omega arith

    left : (xs : List Backlog) → IsOneAtMost old.next_place xs → (d : Backlog) → m ≤ (slice_index_or xs 0 d).room → n ≤ (slice_index_or (changed_at 0 (joined old.next_place row) xs) 0 d).room
    left [] k d q = omega (arith, q, is)
    left (b ∷ []) k d q = rw (joined_any old.next_place row b k.0) (omega (arith, q, is))
    left (b ∷ c ∷ xs) k d q = absurd k

-- the next row is delivered
pub rows_delivered : (n now : ℕ) (f : Row → List Row) → LeavesOne f → (list new : List Backlog) → IsOneAtMost n list → new ≡ changed_at 0 (λ (b : Backlog). record b { rows = deliver_placed now f b.rows }) list →
    IsOneAtMost n new × (rows_in new ≡ deliver now f (rows_in list))
rows_delivered n now f o [] new h is = rw is (tt, refl)
rows_delivered n now f o (b ∷ []) new h is = rw is ((h.0, order_delivered n now f o b.rows h.1), bare-deliver now f b.rows)
rows_delivered n now f o (b ∷ c ∷ list) new h is = absurd h

-- the rows that are out through consumers that pass are settled, and wait again
pub rows_settled : (n : ℕ) (p : SessionId → ℕ → Bool) (list new : List Backlog) → IsOneAtMost n list → new ≡ map (settled p) list →
    IsOneAtMost n new × (rows_in new ≡ filter (λ r. not (is_out p r)) (rows_in list))
rows_settled n p [] new h is = rw is (tt, refl)
rows_settled n p (b ∷ []) new h is = rw is ((h.0, order_filter n _ b.rows h.1), bare-settled p b.rows)
rows_settled n p (b ∷ c ∷ list) new h is = absurd h

pub rows_returned : (n : ℕ) (p : SessionId → ℕ → Bool) (list new : List Backlog) → IsOneAtMost n list → new ≡ map (returned p) list →
    IsOneAtMost n new × (rows_in new ≡ map (given_back p) (rows_in list))
rows_returned n p [] new h is = rw is (tt, refl)
rows_returned n p (b ∷ []) new h is = rw is ((h.0, order_returned n p b.rows h.1), bare-returned p b.rows)
rows_returned n p (b ∷ c ∷ list) new h is = absurd h

-- how many there are
pub rows_number : (n next_place : ℕ) (list : List Backlog) → IsOneAtMost next_place list → IsNumberOfMessages n list → n ≡ length (rows_in list)
rows_number n next_place [] h is = go is.places is.number (λ p. (is.each p).0)
  where
    go : (places : List ℕ) → length places ≡ n → ((p : ℕ) → Contains places p → 0 < 0) → n ≡ 0
    go [] e each = sym e
    go (p ∷ places) e each = absurd (omega (arith, each p (0, omega arith, refl)))
rows_number n next_place (b ∷ []) h is = number_of_rows n next_place b h.1 is ∙ sym (bare-length b.rows)
rows_number n next_place (b ∷ c ∷ list) h is = absurd h

-- what a delivery answers
pub answered_first : (list : List Backlog) (now : ℕ) (d : Backlog) → 0 < length list → answered now (slice_index_or list 0 d).rows ≡ delivery (next now (live now (rows_in list)))
answered_first [] now d l = absurd (omega (arith, l))
answered_first (b ∷ list) now d l = refl

-- whether one is out
pub home_first : (list : List Backlog) (d : Backlog) → 0 < length list → are_home (slice_index_or list 0 d).rows ≡ not (list_any (λ r. is_out (λ s c. true) r) (rows_in list))
home_first [] d l = absurd (omega (arith, l))
home_first (b ∷ list) d l = refl

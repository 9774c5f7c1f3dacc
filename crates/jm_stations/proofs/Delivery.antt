-- A delivery from rows over their table is the machine's delivery from the rows as callers see them.
use Rattle.std.proofs.Common.{◌≡◌, ◌≢◌, ℕ, ◌<◌, ◌==◌, List, [], ◌∷◌, ◌++◌, map, Bool, true, false, not, ◌&&◌, ◌||◌, nat_le, nat_lt, cond, Option, Some, None, refl, ap, sym, ◌∙◌, arith, option_map}
use Rattle.std.specs.List.{filter, find, list_all, All}
use Rattle.std.specs.Option.{IfSome}
use Rattle.std.proofs.lemmas.Bool.{eq-eqb, ne_eqb}
use Rattle.std.proofs.lemmas.Bool.Decides.{nat_tests}
use Rattle.std.proofs.lemmas.List.{map-append}
use Rattle.std.proofs.lemmas.List.Elements.{All-head, All-tail, All-filter, All-weaker}
use Rattle.jm_dest.specs.declared.session.SessionId.{SessionId}
use Rattle.jm_machine.specs.declared.state.Row.{Row as MachineRow}
use Rattle.jm_machine.specs.declared.state.PlacedRow.{PlacedRow}
use Rattle.jm_machine.specs.Rows as machine
use Rattle.jm_machine.specs.Rows.{is_next as machine_is_next, has_lapsed, live, bare, live_placed, change_placed}
use Rattle.jm_lane.specs.declared.row.Row.{Row}
use Rattle.jm_lane.specs.Rows.{IsRising, is_waiting, is_expired, is_held_back, is_ready, is_elsewhere, stays, sent, sent_at}
use Rattle.jm_pending.specs.Rows.{is_next, next}
use Rattle.jm_lane.specs.Holders.{Messages}
use Rattle.jm_pending.specs.Placed.{placed, all_placed, IsRowOf}
use Rattle.jm_lanes.proofs.Places.{find_has}
use Rattle.jm_lane.proofs.Rising.{rising-filter, filter_elsewhere, map_elsewhere, sent_here, sent_elsewhere}
use Rattle.jm_stations.specs.Backlogs.{gone, out_row}

-- a row is not the one that is taken
abbrev pub is_left : Option Row → Row → Bool
is_left None r = true
is_left (Some x) r = is_elsewhere x.place r

-- a row, sent where it is the one that goes out
abbrev pub sent_if : Option Row → SessionId → ℕ → Row → Row
sent_if None s c r = r
sent_if (Some x) s c r = sent_at x.place s c r

-- the row of a placed row
abbrev pub row_at : Messages → Row → MachineRow
row_at t r = (placed t r).row

-- a row is expired with its message
expired_same : (t : Messages) (now : ℕ) (r : Row) → IsRowOf t r → is_expired now r ≡ machine.is_expired now (row_at t r).message
expired_same t now r h = ap (λ e. not (e == 0) && nat_le e now) h.expiration

-- and held back with it
held_due : (now stamp due : ℕ) → nat_lt now (cond (nat_lt stamp due) due 0) ≡ (nat_lt stamp due && nat_lt now due)
held_due now stamp due = elim (nat_lt stamp due) as (λ b. nat_lt now (cond b due 0) ≡ (b && nat_lt now due)) [
  | true ↦ refl
  | false ↦ grind (arith, nat_tests)
]

held_same : (t : Messages) (now : ℕ) (r : Row) → IsRowOf t r → is_held_back now r ≡ machine.is_held_back now (row_at t r).message
held_same t now r h = ap (nat_lt now) h.due ∙ held_due now (row_at t r).message.timestamp (row_at t r).message.delivery_time

stays_same : (t : Messages) (now : ℕ) (r : Row) → IsRowOf t r → stays now r ≡ not (has_lapsed now (row_at t r))
stays_same t now r h = go (is_waiting r) (is_expired now r) (machine.is_expired now (row_at t r).message) (expired_same t now r h)
  where
    go : (w e f : Bool) → e ≡ f → (not w || not e) ≡ not (w && f)
    go true e f s = ap not s
    go false e f s = refl

ready_same : (t : Messages) (now : ℕ) (r : Row) → IsRowOf t r → is_ready now r ≡ machine.is_ready now (row_at t r)
ready_same t now r h =
    let expired = expired_same t now r h in
    let held = held_same t now r h in
    λ i. is_waiting r && (not (expired i) && not (held i))

-- the rows that stay are those that have not lapsed
pub live_same : (t : Messages) (now : ℕ) (rs : List Row) → All (IsRowOf t) rs → all_placed t (filter (stays now) rs) ≡ live_placed now (all_placed t rs)
live_same t now [] h = refl
live_same t now (r ∷ rs) h = go (stays now r) (stays_same t now r (All-head (IsRowOf t) r rs h)) (live_same t now rs (All-tail (IsRowOf t) r rs h))
  where
    go : (b : Bool) → b ≡ not (has_lapsed now (row_at t r)) → all_placed t (filter (stays now) rs) ≡ live_placed now (all_placed t rs) → all_placed t (cond b (r ∷ filter (stays now) rs) (filter (stays now) rs)) ≡ cond (not (has_lapsed now (row_at t r))) (placed t r ∷ live_placed now (all_placed t rs)) (live_placed now (all_placed t rs))
    go true e rest = rw (← e) (ap (λ xs. placed t r ∷ xs) rest)
    go false e rest = rw (← e) rest

-- rows that have lapsed may not be delivered, and do not matter
lapsed_ready : (now : ℕ) (x : MachineRow) → not (has_lapsed now x) ≡ false → machine.is_ready now x ≡ false
lapsed_ready now x = go (machine.is_waiting x) (machine.is_expired now x.message) (machine.is_held_back now x.message)
  where
    go : (w e held : Bool) → not (w && e) ≡ false → (w && (not e && not held)) ≡ false
    go true true held h = refl
    go true false held h = absurd (cc)
    go false e held h = refl

all_live : (now : ℕ) (below : MachineRow → Bool) (xs : List MachineRow) → list_all (λ x. not (machine.is_ready now x) || below x) (live now xs) ≡ list_all (λ x. not (machine.is_ready now x) || below x) xs
all_live now below [] = refl
all_live now below (x ∷ xs) = go (not (has_lapsed now x)) refl (all_live now below xs)
  where
    go : (b : Bool) → not (has_lapsed now x) ≡ b → list_all (λ x. not (machine.is_ready now x) || below x) (live now xs) ≡ list_all (λ x. not (machine.is_ready now x) || below x) xs → list_all (λ x. not (machine.is_ready now x) || below x) (cond b (x ∷ live now xs) (live now xs)) ≡ ((not (machine.is_ready now x) || below x) && list_all (λ x. not (machine.is_ready now x) || below x) xs)
    go true e rest = ap (λ c. (not (machine.is_ready now x) || below x) && c) rest
    go false e rest = rest ∙ ap (λ b. (not b || below x) && list_all (λ x. not (machine.is_ready now x) || below x) xs) (sym (lapsed_ready now x e))

none_same : (t : Messages) (now n : ℕ) (rs : List Row) → All (IsRowOf t) rs → list_all (λ x. not (is_ready now x) || nat_le x.priority n) rs ≡ machine.none_above now (bare (all_placed t rs)) n
none_same t now n [] h = refl
none_same t now n (r ∷ rs) h =
    let p = All-head (IsRowOf t) r rs h in
    let ready = ready_same t now r p in
    let priority = p.priority in
    let rest = none_same t now n rs (All-tail (IsRowOf t) r rs h) in
    λ i. (not (ready i) || nat_le (priority i) n) && rest i

-- the next of the rows, as the machine has it
pub is_next_same : (t : Messages) (now : ℕ) (rs : List Row) (r : Row) → All (IsRowOf t) rs → IsRowOf t r → is_next now rs r ≡ machine.is_next now (live now (bare (all_placed t rs))) (row_at t r)
unfolding machine_is_next
is_next_same t now rs r h p =
    let below : machine.none_above now (live now (bare (all_placed t rs))) (row_at t r).message.priority ≡ list_all (λ x. not (is_ready now x) || nat_le x.priority r.priority) rs =
    all_live now (λ (x : MachineRow). nat_le x.message.priority (row_at t r).message.priority) (bare (all_placed t rs)) ∙ sym (none_same t now (row_at t r).message.priority rs h) ∙ ap (λ n. list_all (λ x. not (is_ready now x) || nat_le x.priority n) rs) (sym p.priority) in
    let ready = ready_same t now r p in
    let others = sym below in
    λ i. ready i && others i

-- what is next stays
pub next_stays : (now : ℕ) (rs : List Row) (r : Row) → is_next now rs r ≡ true → stays now r ≡ true
next_stays now rs r h = go (is_waiting r) (is_expired now r) (is_held_back now r) (list_all (λ x. not (is_ready now x) || nat_le x.priority r.priority) rs) h
  where
    go : (w e held b : Bool) → ((w && (not e && not held)) && b) ≡ true → (not w || not e) ≡ true
    go true true held b h = h
    go true false held b h = refl
    go false e held b h = refl

pub find_kept : (q p : Row → Bool) → ((r : Row) → q r ≡ true → p r ≡ true) → (rs : List Row) → find q (filter p rs) ≡ find q rs
find_kept q p imp [] = refl
find_kept q p imp (r ∷ rs) = go (p r) (q r) refl refl (find_kept q p imp rs)
  where
    go : (a b : Bool) → p r ≡ a → q r ≡ b → find q (filter p rs) ≡ find q rs → find q (cond a (r ∷ filter p rs) (filter p rs)) ≡ cond b (Some r) (find q rs)
    go true b e f rest = rw (f, rest) refl
    go false true e f rest = absurd (let k = imp r f in cc)
    go false false e f rest = rest

-- other rows in place of the first that passes
abbrev pub put_first : (Row → Bool) → (Row → List Row) → List Row → List Row
put_first q f [] = []
put_first q f (r ∷ rs) = cond (q r) (f r ++ rs) (r ∷ put_first q f rs)

-- no row in its place
abbrev pub no_row : Row → List Row
no_row r = []

-- the row in its place, sent
abbrev pub sent_row : SessionId → ℕ → Row → List Row
sent_row s c r = sent s c r ∷ []

pub left_all : (rs : List Row) → filter (is_left None) rs ≡ rs
left_all [] = refl
left_all (r ∷ rs) = ap (λ xs. r ∷ xs) (left_all rs)

others_apart : (r : Row) (rs : List Row) → All (λ (y : Row). r.place < y.place) rs → All (λ (y : Row). y.place ≢ r.place) rs
others_apart r = All-weaker (λ (y : Row). r.place < y.place) (λ (y : Row). y.place ≢ r.place) (λ y l. omega (arith, l))

left_first : (q : Row → Bool) (rs : List Row) → IsRising rs → filter (is_left (find q rs)) rs ≡ put_first q no_row rs
left_first q [] h = refl
left_first q (r ∷ rs) h = go (q r) (find q rs) (left_first q rs h.1) (find_has (λ (y : Row). r.place < y.place) q rs h.0)
  where
    go : (b : Bool) (o : Option Row) → filter (is_left o) rs ≡ put_first q no_row rs → IfSome o (λ (y : Row). r.place < y.place) → filter (is_left (cond b (Some r) o)) (r ∷ rs) ≡ cond b rs (r ∷ put_first q no_row rs)
    go true o rest above = rw (eq-eqb r.place r.place refl) (filter_elsewhere r.place rs (others_apart r rs h.0))
    go false None rest above = ap (λ xs. r ∷ xs) rest
    go false (Some y) rest above =
        let ne : r.place ≢ y.place = omega (arith, above) in
        rw (ne_eqb r.place y.place ne) (ap (λ xs. r ∷ xs) rest)

-- the same of the rows as callers see them
first_placed : (t : Messages) (q : Row → Bool) (test : MachineRow → Bool) (f : Row → List Row) (g : MachineRow → List MachineRow) → ((r : Row) → all_placed t (f r) ≡ map (λ x. record { place = r.place; row = x }) (g (row_at t r))) → (rs : List Row) → All (λ r. q r ≡ test (row_at t r)) rs → all_placed t (put_first q f rs) ≡ change_placed test g (all_placed t rs)
first_placed t q test f g same [] h = refl
first_placed t q test f g same (r ∷ rs) h =
    go (q r) (test (row_at t r)) (All-head (λ r. q r ≡ test (row_at t r)) r rs h) (first_placed t q test f g same rs (All-tail (λ r. q r ≡ test (row_at t r)) r rs h))
  where
    go : (b c : Bool) → b ≡ c → all_placed t (put_first q f rs) ≡ change_placed test g (all_placed t rs) → all_placed t (cond b (f r ++ rs) (r ∷ put_first q f rs)) ≡ cond c (map (λ x. record { place = r.place; row = x }) (g (row_at t r)) ++ all_placed t rs) (placed t r ∷ change_placed test g (all_placed t rs))
    go true true e rest = map-append (placed t) (f r) rs ∙ ap (λ (xs : List PlacedRow). xs ++ all_placed t rs) (same r)
    go true false e rest = absurd (cc)
    go false true e rest = absurd (cc)
    go false false e rest = ap (λ xs. placed t r ∷ xs) rest

next_each : (t : Messages) (now : ℕ) (rs xs : List Row) → All (IsRowOf t) rs → All (IsRowOf t) xs → All (λ r. is_next now rs r ≡ machine.is_next now (live now (bare (all_placed t rs))) (row_at t r)) xs
next_each t now rs xs h k = All-weaker (IsRowOf t) (λ r. is_next now rs r ≡ machine.is_next now (live now (bare (all_placed t rs))) (row_at t r)) (λ r p. is_next_same t now rs r h p) xs k

-- what a delivery leaves, of whatever rows it puts in place of the one that it takes
delivered_by : (t : Messages) (now : ℕ) (q : Row → Bool) (test : MachineRow → Bool) (rs : List Row) (f : Row → List Row) (g : MachineRow → List MachineRow) → ((r : Row) → all_placed t (f r) ≡ map (λ x. record { place = r.place; row = x }) (g (row_at t r))) → All (IsRowOf t) rs → All (λ r. q r ≡ test (row_at t r)) rs → all_placed t (put_first q f (filter (stays now) rs)) ≡ change_placed test g (live_placed now (all_placed t rs))
delivered_by t now q test rs f g same own each =
    let ls = filter (stays now) rs in
    first_placed t q test f g same ls (All-filter (stays now) (λ r. q r ≡ test (row_at t r)) rs each) ∙ ap (change_placed test g) (live_same t now rs own)

-- where that is settled
pub settled_by : (t : Messages) (now : ℕ) (q : Row → Bool) (test : MachineRow → Bool) (rs : List Row) → ((r : Row) → q r ≡ true → stays now r ≡ true) → All (IsRowOf t) rs → All (λ r. q r ≡ test (row_at t r)) rs → IsRising rs → all_placed t (filter (is_left (find q rs)) (filter (stays now) rs)) ≡ change_placed test gone (live_placed now (all_placed t rs))
settled_by t now q test rs stay own each rising =
    let ls = filter (stays now) rs in
    let left : filter (is_left (find q rs)) ls ≡ put_first q no_row ls = ap (λ o. filter (is_left o) ls) (sym (find_kept q (stays now) stay rs)) ∙ left_first q ls (rising-filter (stays now) rs rising) in
    ap (all_placed t) left ∙ delivered_by t now q test rs no_row gone (λ r. refl) own each

-- where it goes out
sent_first : (q : Row → Bool) (s : SessionId) (c : ℕ) (rs : List Row) → IsRising rs → map (sent_if (find q rs) s c) rs ≡ put_first q (sent_row s c) rs
sent_first q s c [] h = refl
sent_first q s c (r ∷ rs) h = go (q r) (find q rs) (sent_first q s c rs h.1) (find_has (λ (y : Row). r.place < y.place) q rs h.0)
  where
    go : (b : Bool) (o : Option Row) → map (sent_if o s c) rs ≡ put_first q (sent_row s c) rs → IfSome o (λ (y : Row). r.place < y.place) → map (sent_if (cond b (Some r) o) s c) (r ∷ rs) ≡ cond b (sent_row s c r ++ rs) (r ∷ put_first q (sent_row s c) rs)
    go true o rest above =
        let here = sent_here s c r r.place refl in
        let others = map_elsewhere s c r.place rs (others_apart r rs h.0) in
        λ i. here i ∷ others i
    go false None rest above = ap (λ xs. r ∷ xs) rest
    go false (Some y) rest above =
        let ne : r.place ≢ y.place = omega (arith, above) in
        let here = sent_elsewhere s c r y.place ne in
        λ i. here i ∷ rest i

pub sent_by : (t : Messages) (s : SessionId) (c now : ℕ) (q : Row → Bool) (test : MachineRow → Bool) (rs : List Row) → ((r : Row) → q r ≡ true → stays now r ≡ true) → All (IsRowOf t) rs → All (λ r. q r ≡ test (row_at t r)) rs → IsRising rs → all_placed t (map (sent_if (find q rs) s c) (filter (stays now) rs)) ≡ change_placed test (out_row s c) (live_placed now (all_placed t rs))
sent_by t s c now q test rs stay own each rising =
    let ls = filter (stays now) rs in
    let left : map (sent_if (find q rs) s c) ls ≡ put_first q (sent_row s c) ls = ap (λ o. map (sent_if o s c) ls) (sym (find_kept q (stays now) stay rs)) ∙ sent_first q s c ls (rising-filter (stays now) rs rising) in
    ap (all_placed t) left ∙ delivered_by t now q test rs (sent_row s c) (out_row s c) (λ r. refl) own each

find_placed : (t : Messages) (q : Row → Bool) (test : MachineRow → Bool) (rs : List Row) → All (λ r. q r ≡ test (row_at t r)) rs → find (λ (x : PlacedRow). test x.row) (all_placed t rs) ≡ option_map (placed t) (find q rs)
find_placed t q test [] h = refl
find_placed t q test (r ∷ rs) h =
    go (q r) (All-head (λ r. q r ≡ test (row_at t r)) r rs h) (find_placed t q test rs (All-tail (λ r. q r ≡ test (row_at t r)) r rs h))
  where
    go : (b : Bool) → b ≡ test (row_at t r) → find (λ (x : PlacedRow). test x.row) (all_placed t rs) ≡ option_map (placed t) (find q rs) → cond (test (row_at t r)) (Some (placed t r)) (find (λ (x : PlacedRow). test x.row) (all_placed t rs)) ≡ option_map (placed t) (cond b (Some r) (find q rs))
    go true e rest = rw (← e) refl
    go false e rest = rw (← e) rest

-- the row that is taken, as callers see it
pub found_by : (t : Messages) (now : ℕ) (q : Row → Bool) (test : MachineRow → Bool) (rs : List Row) → ((r : Row) → q r ≡ true → stays now r ≡ true) → All (IsRowOf t) rs → All (λ r. q r ≡ test (row_at t r)) rs → find (λ (x : PlacedRow). test x.row) (live_placed now (all_placed t rs)) ≡ option_map (placed t) (find q rs)
found_by t now q test rs stay own each =
    let ls = filter (stays now) rs in
    ap (find (λ (x : PlacedRow). test x.row)) (sym (live_same t now rs own))
    ∙ find_placed t q test ls (All-filter (stays now) (λ r. q r ≡ test (row_at t r)) rs each)
    ∙ ap (option_map (placed t)) (find_kept q (stays now) stay rs)

pub next_same : (t : Messages) (now : ℕ) (rs : List Row) → All (IsRowOf t) rs → find (λ (x : PlacedRow). machine.is_next now (live now (bare (all_placed t rs))) x.row) (live_placed now (all_placed t rs)) ≡ option_map (placed t) (next now rs)
next_same t now rs own = found_by t now (is_next now rs) (machine.is_next now (live now (bare (all_placed t rs)))) rs (next_stays now rs) own (next_each t now rs rs own own)

-- the same without the place
bare_live : (now : ℕ) (ps : List PlacedRow) → bare (live_placed now ps) ≡ live now (bare ps)
bare_live now [] = refl
bare_live now (x ∷ ps) = elim (has_lapsed now x.row) as (λ b. bare (cond (not b) (x ∷ live_placed now ps) (live_placed now ps)) ≡ cond (not b) (x.row ∷ live now (bare ps)) (live now (bare ps))) [
  | true ↦ bare_live now ps
  | false ↦ ap (λ xs. x.row ∷ xs) (bare_live now ps)
]

find_bare : (test : MachineRow → Bool) (ps : List PlacedRow) → find test (bare ps) ≡ option_map (λ (x : PlacedRow). x.row) (find (λ (x : PlacedRow). test x.row) ps)
find_bare test [] = refl
find_bare test (x ∷ ps) = elim (test x.row) as (λ b. cond b (Some x.row) (find test (bare ps)) ≡ option_map (λ (x : PlacedRow). x.row) (cond b (Some x) (find (λ (x : PlacedRow). test x.row) ps))) [
  | true ↦ refl
  | false ↦ find_bare test ps
]

pub next_row_same : (t : Messages) (now : ℕ) (rs : List Row) → All (IsRowOf t) rs → machine.next now (live now (bare (all_placed t rs))) ≡ option_map (λ (x : PlacedRow). x.row) (option_map (placed t) (next now rs))
next_row_same t now rs plain =
    ap (find (machine.is_next now (live now (bare (all_placed t rs))))) (sym (bare_live now (all_placed t rs)))
    ∙ find_bare (machine.is_next now (live now (bare (all_placed t rs)))) (live_placed now (all_placed t rs))
    ∙ ap (option_map (λ (x : PlacedRow). x.row)) (next_same t now rs plain)

-- where none is taken, each row is as before
pub left_same : (s : SessionId) (c : ℕ) (rs : List Row) → map (sent_if None s c) rs ≡ rs
left_same s c [] = refl
left_same s c (r ∷ rs) = ap (λ xs. r ∷ xs) (left_same s c rs)

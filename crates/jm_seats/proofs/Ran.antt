-- Calls at seats, in turn, and the parts of a stretch.
use Rattle.std.proofs.Common.{Global, Vec, vec_len, ◌≡◌, ℕ, suc, ◌<◌, Bool, true, false, List, [], ◌∷◌, ◌++◌, length, get_or, refl, ap, sym, subst, ◌∙◌, arith, if◌then◌else◌, ◌==◌}
use Rattle.std.proofs.lemmas.List.{get_or-map, length-map}
use Rattle.std.specs.Prelude.{Result}
use Rattle.jm_base.specs.declared.refusal.Refusal.{Refusal}
use Rattle.jm_machine.specs.declared.answer.Answer.{Answer}
use Rattle.jm_machine.specs.declared.call.ClientCall.{ClientCall}
use Rattle.jm_parted.specs.Parts.{count_of, of_owner}
use Rattle.jm_seats.specs.declared.desk.Desk.{Desk}
use Rattle.jm_seats.specs.Desks.{seats_at, DeskRan}
use Rattle.jm_audit.specs.Passes.{no_calls}
use Rattle.jm_seats.specs.Seat.{Seated, unopened, SeatFits, SeatRan}
use Rattle.jm_seats.specs.Seats.{AllRan}

-- one call more
pub ran_on : (old mid new : Seated) (calls : List ClientCall) (replies : List (Result Answer Refusal)) (call : ClientCall) (r : Result Answer Refusal)
    → SeatRan old calls replies mid → SeatFits mid call r new → SeatRan old (calls ++ call ∷ []) (replies ++ r ∷ []) new
ran_on old mid new [] [] call r ran fits = let P : Seated → Type 0 = λ s. SeatFits s call r new in (new, subst P ran fits, refl)
ran_on old mid new [] (x ∷ replies) call r ran fits = absurd ran
ran_on old mid new (c ∷ calls) [] call r ran fits = absurd ran
ran_on old mid new (c ∷ calls) (x ∷ replies) call r ran fits = (ran.0, ran.1, ran_on ran.0 mid new calls replies call r ran.2 fits)

-- each call is told something
pub ran_length : (old new : Seated) (calls : List ClientCall) (replies : List (Result Answer Refusal)) → SeatRan old calls replies new → length replies ≡ length calls
ran_length old new [] [] ran = refl
ran_length old new [] (r ∷ replies) ran = absurd ran
ran_length old new (c ∷ calls) [] ran = absurd ran
ran_length old new (c ∷ calls) (r ∷ replies) ran = ap (λ n. suc n) (ran_length ran.0 new calls replies ran.2)

-- a part has as many items as its owner has places
pub part_length : {T : Type 0} (k : ℕ) (owners : List ℕ) (items : List T) → length owners ≡ length items → length (of_owner k owners items) ≡ count_of k owners
part_length k [] items same = refl
part_length k (o ∷ owners) [] same = absurd (omega (arith, same))
part_length {T} k (o ∷ owners) (x ∷ items) same = go (o == k) (part_length k owners items (omega (arith, same)))
  where
    go : (b : Bool) → length (of_owner k owners items) ≡ count_of k owners
        → length (if b then x ∷ of_owner k owners items else of_owner k owners items) ≡ (if b then suc (count_of k owners) else count_of k owners)
    go true rest = ap (λ n. suc n) rest
    go false rest = rest

-- at each seat its own calls were made in turn, where each desk's were
pub all_ran : {L : Type 0} (owners : List ℕ) (calls : List ClientCall) (replies : List (Result Answer Refusal)) (seated given ran_desks joined : List (Desk L)) (x : Desk L)
    → seats_at given ≡ seats_at seated → length ran_desks ≡ length given → seats_at joined ≡ seats_at ran_desks
    → ((k : ℕ) (d : Desk L) → k < length seated → (get_or given k d).calls.items ≡ of_owner k owners calls)
    → ((k : ℕ) (d : Desk L) → k < length given → DeskRan (get_or given k d) (get_or ran_desks k d))
    → ((k : ℕ) (d : Desk L) → k < length ran_desks → of_owner k owners replies ≡ (get_or ran_desks k d).replies.items)
    → AllRan owners (seats_at seated) calls replies (seats_at joined)
all_ran {L} owners calls replies seated given ran_desks joined x first many last own ran told = λ k d less.
    (let f : Desk L → Seated = λ y. y.seat in
    let in0 : k < length seated = omega (arith, less, length-map seated f) in
    let in1 : k < length given = omega (arith, in0, ap length first, length-map seated f, length-map given f) in
    let in2 : k < length ran_desks = omega (arith, in1, many) in
    let before : get_or (seats_at seated) k d ≡ (get_or given k x).seat = ap (λ xs. get_or xs k d) (sym first) ∙ get_or-map f given k x d in1 in
    let after : get_or (seats_at joined) k d ≡ (get_or ran_desks k x).seat = ap (λ xs. get_or xs k d) last ∙ get_or-map f ran_desks k x d in2 in
    let one = ran k x in1 in
    let A : List ClientCall → Type 0 = λ cs. SeatRan (get_or given k x).seat cs (get_or ran_desks k x).replies.items (get_or ran_desks k x).seat in
    let B : List (Result Answer Refusal) → Type 0 = λ rs. SeatRan (get_or given k x).seat (of_owner k owners calls) rs (get_or ran_desks k x).seat in
    let C : Seated → Type 0 = λ s. SeatRan s (of_owner k owners calls) (of_owner k owners replies) (get_or ran_desks k x).seat in
    let D : Seated → Type 0 = λ s. SeatRan (get_or (seats_at seated) k d) (of_owner k owners calls) (of_owner k owners replies) s in
    subst D (sym after) (subst C (sym before) (subst B (sym (told k x in2)) (subst A (own k x in0) one))))

-- a seat, to stand where there is none
pub nobody : Seated
nobody = record { half = unopened (record { opening = 1; session = record { connection = 1; number = 1 } }); pass = no_calls }

-- each part of what is told is as long as its owner has places
pub told_parts : {L : Type 0} (owners : List ℕ) (calls : List ClientCall) (seated given ran_desks : List (Desk L)) (told : Vec (Vec (Result Answer Refusal) Global) Global) (x : Desk L)
    → length owners ≡ length calls → seats_at given ≡ seats_at seated → length ran_desks ≡ length given → vec_len told ≡ length ran_desks
    → ((k : ℕ) (d : Desk L) → k < length seated → (get_or given k d).calls.items ≡ of_owner k owners calls)
    → ((k : ℕ) (d : Desk L) → k < length given → DeskRan (get_or given k d) (get_or ran_desks k d))
    → ((k : ℕ) (v : Vec (Result Answer Refusal) Global) (d : Desk L) → k < length ran_desks → (get_or told.items k v).items ≡ (get_or ran_desks k d).replies.items)
    → (k : ℕ) (v : Vec (Result Answer Refusal) Global) → k < vec_len told → vec_len (get_or told.items k v) ≡ count_of k owners
told_parts {L} owners calls seated given ran_desks told x len first many all own ran same k v less =
    let f : Desk L → Seated = λ y. y.seat in
    let in2 : k < length ran_desks = omega (arith, less, all) in
    let in1 : k < length given = omega (arith, in2, many) in
    let in0 : k < length seated = omega (arith, in1, ap length first, length-map seated f, length-map given f) in
    (get_or told.items k v).ok.0 ∙ ap length (same k v x in2)
    ∙ ran_length (get_or given k x).seat (get_or ran_desks k x).seat (get_or given k x).calls.items (get_or ran_desks k x).replies.items (ran k x in1)
    ∙ ap length (own k x in0) ∙ part_length k owners calls len

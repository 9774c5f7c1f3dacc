-- What a lane keeps through each of its steps.
use Rattle.std.proofs.Common.{◌≡◌, ◌≢◌, ℕ, ◌+◌, ◌<◌, ◌≤◌, List, [], ◌∷◌, ◌++◌, length, get_or, set, map, take, drop, ◌==◌, nat_le, ◌-◌, ◌&&◌, ◌||◌, true, false, Bool, not, cond, refl, ap, ◌∙◌, ◌⊎◌, inl, inr, arith}
use Rattle.std.specs.List.{filter, All}
use Rattle.std.proofs.lemmas.List.{take-append-le, drop-append-le, length-map, length-set, drop-set-lt, length_push, drop-drop, drop_all}
use Rattle.std.proofs.lemmas.Bool.Decides.{nat_tests}
use Rattle.std.proofs.lemmas.List.Elements.{All-nil, All-head, All-tail, All-filter, All-map, All-weaker, All-set, All-push, All-drop}
use Rattle.jm_lane.specs.declared.row.Row.{Row}
use Rattle.jm_machine.specs.declared.state.RowState.{RowState}
use Rattle.jm_machine.specs.declared.state.RowState.TheVariants.{Waiting, Out}
use Rattle.jm_machine.specs.Rows.{waits, goes_out}
use Rattle.jm_machine.specs.Machine.{are_meant, of_number}
use Rattle.jm_lane.specs.declared.row.Outs.{Outs}
use Rattle.jm_lane.specs.declared.row.Outs.TheVariants.{Of, Through}
use Rattle.jm_dest.specs.declared.session.SessionId.{SessionId}
use Rattle.jm_lane.specs.Rows.{sent, sent_at, is_waiting, is_among, keeps, stays, back}
use Rattle.jm_lane.specs.Lanes.{IsLane, IsBound}
use Rattle.jm_lane.proofs.Rising.{rising-filter, rising-map, rising-push, set_sent}

pub lower_bound : (rs : List Row) (a b : ℕ) → a ≤ b → All (IsBound b) rs → All (IsBound a) rs
lower_bound rs a b le = All-weaker (IsBound b) (IsBound a) (λ r h w n. let k = h w n in omega (arith, k, le)) rs

-- one more row: it waits, or no row behind it is out
pub lane_push : (rs : List Row) (pr low high least top next : ℕ) (row : Row) → IsLane rs pr low high least → row.priority ≡ pr → (top ≡ length rs + 1) ⊎ ((top ≡ high) × (is_waiting row ≡ true)) → All (λ (r : Row). r.place < row.place) rs → next ≤ least → IsBound next row → IsLane (rs ++ row ∷ []) pr low top next
lane_push rs pr low high least top next row h same which above le here =
    record {
      same = All-push (λ (r : Row). r.priority ≡ pr) rs row h.same same;
      rising = rising-push rs row above h.rising;
      low_in = omega (arith, length_push rs row, h.low_in);
      high_in = elim which [ inl e ↦ omega (arith, length_push rs row, e) | inr e ↦ omega (arith, length_push rs row, h.high_in, e.0) ];
      before = rw (take-append-le low rs (row ∷ []) h.low_in) h.before;
      behind = elim which [
        | inl e ↦ rw (drop_all top (rs ++ row ∷ []) (omega (arith, length_push rs row, e))) (All-nil (λ r. is_waiting r ≡ true))
        | inr e ↦ rw (e.0, drop-append-le high rs (row ∷ []) h.high_in) (All-push (λ r. is_waiting r ≡ true) (drop high rs) row h.behind e.1)
      ];
      bound = All-push (IsBound next) rs row (lower_bound rs next least le h.bound) here;
    }

pub lane_filter : (p : Row → Bool) (rs : List Row) (pr low high least top next : ℕ) → IsLane rs pr low high least → top ≤ length (filter p rs) → All (λ r. is_waiting r ≡ true) (drop top (filter p rs)) → All (IsBound next) (filter p rs) → IsLane (filter p rs) pr 0 top next
lane_filter p rs pr low high least top next h le behind bound =
    record {
      same = All-filter p (λ (r : Row). r.priority ≡ pr) rs h.same;
      rising = rising-filter p rs h.rising;
      low_in = omega arith;
      high_in = le;
      before = All-nil (λ r. is_waiting r ≡ false);
      behind = behind;
      bound = bound;
    }

pub lane_map : (f : Row → Row) → ((r : Row) → (f r).place ≡ r.place) → ((r : Row) → (f r).priority ≡ r.priority) → (rs : List Row) (pr low high least bottom top next : ℕ) → IsLane rs pr low high least → bottom ≤ length rs → top ≤ length rs → All (λ r. is_waiting r ≡ false) (take bottom (map f rs)) → All (λ r. is_waiting r ≡ true) (drop top (map f rs)) → All (IsBound next) (map f rs) → IsLane (map f rs) pr bottom top next
lane_map f place priority rs pr low high least bottom top next h b t before behind bound =
    record {
      same = All-map (λ (r : Row). r.priority ≡ pr) f rs (All-weaker (λ (r : Row). r.priority ≡ pr) (λ (r : Row). (f r).priority ≡ pr) (λ r e. priority r ∙ e) rs h.same);
      rising = rising-map f place rs h.rising;
      low_in = rw (length-map rs f) b;
      high_in = rw (length-map rs f) t;
      before = before;
      behind = behind;
      bound = bound;
    }

pub back_place : (p : Row → Bool) (r : Row) → (back p r).place ≡ r.place
back_place p r = elim (p r) as (λ b. (cond b (record r { state = Waiting }) r).place ≡ r.place) [ true ↦ refl | false ↦ refl ]

pub back_priority : (p : Row → Bool) (r : Row) → (back p r).priority ≡ r.priority
back_priority p r = elim (p r) as (λ b. (cond b (record r { state = Waiting }) r).priority ≡ r.priority) [ true ↦ refl | false ↦ refl ]

pub back_expiration : (p : Row → Bool) (r : Row) → (back p r).expiration ≡ r.expiration
back_expiration p r = elim (p r) as (λ b. (cond b (record r { state = Waiting }) r).expiration ≡ r.expiration) [ true ↦ refl | false ↦ refl ]

not_out : (p : SessionId → ℕ → Bool) (st : RowState) → waits st ≡ true → goes_out p st ≡ false
not_out p Waiting h = refl
not_out p (Out t d) h = absurd (cc)

both_false : (a b : Bool) → b ≡ false → (a && b) ≡ false
both_false true b e = e
both_false false b e = refl

-- a row that waits is not among those that are out
pub not_among : (outs : Outs) (r : Row) → is_waiting r ≡ true → is_among outs r ≡ false
not_among (Of which) r w = not_out (are_meant which) r.state w
not_among (Through s c p) r w = both_false (r.place == p) (goes_out (of_number s c) r.state) (not_out (of_number s c) r.state w)

-- rows that wait are kept
pub waiting_kept : (outs : Outs) (rs : List Row) → All (λ r. is_waiting r ≡ true) rs → All (λ r. keeps outs r ≡ true) rs
waiting_kept outs = All-weaker (λ r. is_waiting r ≡ true) (λ r. keeps outs r ≡ true) (λ r h. ap not (not_among outs r h))

-- and giving back leaves them
pub map_back_waiting : (outs : Outs) (rs : List Row) → All (λ r. is_waiting r ≡ true) rs → map (back (is_among outs)) rs ≡ rs
map_back_waiting outs [] h = refl
map_back_waiting outs (x ∷ xs) h =
    rw (not_among outs x (All-head (λ r. is_waiting r ≡ true) x xs h), map_back_waiting outs xs (All-tail (λ r. is_waiting r ≡ true) x xs h)) refl

pub sent_at_place : (p : ℕ) (s : SessionId) (c : ℕ) (r : Row) → (sent_at p s c r).place ≡ r.place
sent_at_place p s c r = elim (r.place == p) as (λ b. (cond b (sent s c r) r).place ≡ r.place) [ true ↦ refl | false ↦ refl ]

pub sent_at_priority : (p : ℕ) (s : SessionId) (c : ℕ) (r : Row) → (sent_at p s c r).priority ≡ r.priority
sent_at_priority p s c r = elim (r.place == p) as (λ b. (cond b (sent s c r) r).priority ≡ r.priority) [ true ↦ refl | false ↦ refl ]

-- a row goes out, where so many of the first rows do not wait after it
pub lane_out : (s : SessionId) (c : ℕ) (rs : List Row) (pr low high least at top next : ℕ) (d : Row) → IsLane rs pr low high least → at < length rs → next ≤ length rs → All (λ r. is_waiting r ≡ false) (take next (set rs at (sent s c (get_or rs at d)))) → high ≤ top → at + 1 ≤ top → top ≤ length rs → IsLane (set rs at (sent s c (get_or rs at d))) pr next top least
lane_out s c rs pr low high least at top next d h l n before h1 h2 h3 =
    let y : Row = sent s c (get_or rs at d) in
    let is : set rs at y ≡ map (sent_at (get_or rs at d).place s c) rs = set_sent s c rs at d h.rising l in
    record {
      same = All-set (λ (r : Row). r.priority ≡ pr) rs at y (h.same at d l) h.same;
      rising = rw is (rising-map (sent_at (get_or rs at d).place s c) (sent_at_place (get_or rs at d).place s c) rs h.rising);
      low_in = rw (length-set rs at y) n;
      high_in = rw (length-set rs at y) h3;
      before = before;
      behind = rw (drop-set-lt top rs at y (omega arith)) (later rs high top h1 h.behind);
      bound = All-set (IsBound least) rs at y (λ w n. absurd (cc)) h.bound;
    }
  where
    later : (rs : List Row) (high top : ℕ) → high ≤ top → All (λ r. is_waiting r ≡ true) (drop high rs) → All (λ r. is_waiting r ≡ true) (drop top rs)
    later rs high top le a =
        let e : high + (top - high) ≡ top = omega arith in
        rw (← e, ← drop-drop (top - high) high rs) (All-drop (λ r. is_waiting r ≡ true) (top - high) (drop high rs) a)

stays_by : (w : Bool) (e now : ℕ) → (w ≡ true → e ≢ 0 → now < e) → (not w || not (not (e == 0) && nat_le e now)) ≡ true
stays_by false e now h = refl
stays_by true e now h = grind (arith, nat_tests, h refl)

pub bound_stays : (now least : ℕ) (rs : List Row) → now < least → All (IsBound least) rs → All (λ r. stays now r ≡ true) rs
bound_stays now least rs l = All-weaker (IsBound least) (λ r. stays now r ≡ true) (λ r h. stays_by (is_waiting r) r.expiration now (λ w n. let k = h w n in omega (arith, k, l))) rs

-- a lane of which more rows are known not to wait
pub lane_low : (rs : List Row) (pr low high least at : ℕ) → IsLane rs pr low high least → at ≤ length rs → All (λ r. is_waiting r ≡ false) (take at rs) → IsLane rs pr at high least
lane_low rs pr low high least at h l before = record { same = h.same; rising = h.rising; low_in = l; high_in = h.high_in; before = before; behind = h.behind; bound = h.bound }

-- The row that goes first of those that may be delivered is the next one, of all and of those whose messages pass.
use Rattle.std.proofs.Common.{◌≡◌, ℕ, List, get_or, true, false, Bool, ◌||◌, Option, Some, None, ap, sym, subst, ◌∙◌, nat_le, not}
use Rattle.std.specs.List.{filter, All, find, list_all}
use Rattle.std.proofs.lemmas.List.Elements.{All-weaker}
use Rattle.jm_header.specs.declared.content.Content.{Content}
use Rattle.jm_lane.specs.declared.row.Row.{Row}
use Rattle.jm_lanes.specs.Lists.{sorted}
use Rattle.jm_lane.specs.Holders.{Messages}
use Rattle.jm_lane.specs.Rows.{IsRising, is_ready}
use Rattle.jm_pending.specs.Rows.{next, is_next}
use Rattle.jm_lane.specs.Lanes.{IsSoonestOf, is_sooner, is_at}
use Rattle.jm_lanes.specs.Lanes.{is_lower}
use Rattle.jm_lane.specs.Chosen.{passes, is_choice}
use Rattle.jm_pending.specs.Chosen.{next_where}
use Rattle.jm_lanes.proofs.Places.{sorted-filter, all_sorted, apart_from_rising, find_has}
use Rattle.jm_lane.proofs.Rising.{rising-filter, find_none}
use Rattle.std.specs.Option.{IfSome}
use Rattle.jm_lanes.proofs.Ranks.{at_sorted}
use Rattle.jm_lane.proofs.Choice.{soonest_left}
use Rattle.jm_lane.proofs.Soonest.{and_false, and_true, both_true, least_place, not_above, test_all, test_each}
use Rattle.jm_lanes.proofs.Soonest.{find_least, found_there}

-- the row that goes first of those that are ready is the next one
pub next_soonest : (now : ℕ) (xs : List Row) (o : Option Row) → IsRising (sorted is_lower xs) → IsSoonestOf (is_ready now) xs o → next now (sorted is_lower xs) ≡ o
next_soonest now xs None up h =
    let zs : List Row = sorted is_lower xs in
    let top : Row → Bool = λ y. list_all (λ x. not (is_ready now x) || nat_le x.priority y.priority) zs in
    find_none (is_next now zs) zs (All-weaker (λ y. is_ready now y ≡ false) (λ y. is_next now zs y ≡ false) (λ y e. and_false (is_ready now y) (top y) e) zs (all_sorted (λ y. is_ready now y ≡ false) xs h))
next_soonest now xs (Some r) up h =
    let zs : List Row = sorted is_lower xs in
    let T : Row → Row → Bool = λ y x. not (is_ready now x) || nat_le x.priority y.priority in
    let at : find (is_at r.place) zs ≡ Some r = at_sorted r.place xs up ∙ found_there xs r (apart_from_rising xs up) h.there in
    let first : All (λ y. is_ready now y ≡ true → is_sooner y r ≡ false) zs = all_sorted (λ y. is_ready now y ≡ true → is_sooner y r ≡ false) xs h.first in
    let top : list_all (T r) zs ≡ true = test_all (T r) zs (λ k d l. not_above r.priority r.place (get_or zs k d).priority (get_or zs k d).place (is_ready now (get_or zs k d)) (first k d l)) in
    find_least (is_next now zs) zs r up at (and_true (is_ready now r) (list_all (T r) zs) h.pass top) (λ k d l t.
    let y : Row = get_or zs k d in
    let both = both_true (is_ready now y) (list_all (T y) zs) t in
    let over : T y r ≡ true = subst (λ o. IfSome o (λ x. T y x ≡ true)) at (find_has (λ x. T y x ≡ true) (is_at r.place) zs (test_each (T y) zs both.1)) in
    least_place r.priority r.place y.priority y.place (is_ready now r) h.pass over (first k d l both.0))

-- the row that goes first of those that may be delivered and whose messages pass is the next one of these
pub next_choice : (p : Content → Bool) (t : Messages) (now : ℕ) (xs : List Row) (o : Option Row) → IsRising (sorted is_lower xs) → IsSoonestOf (is_choice p t now) xs o → next_where p t now (sorted is_lower xs) ≡ o
next_choice p t now xs o up h =
    let same = sorted-filter (passes p t) xs up in
    ap (next now) (sym same) ∙ next_soonest now (filter (passes p t) xs) o (subst IsRising (sym same) (rising-filter (passes p t) (sorted is_lower xs) up)) (soonest_left (is_ready now) (passes p t) xs o h)

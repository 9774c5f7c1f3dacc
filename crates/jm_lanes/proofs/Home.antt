-- Rows of which none is out, in all lanes and by place.
use Rattle.std.proofs.Common.{◌≡◌, ℕ, ◌+◌, ◌<◌, ◌++◌, Bool, true, false, not, cond, ◌&&◌, ◌||◌, List, [], ◌∷◌, length, get_or, take, drop, refl, ap, ◌∙◌}
use Rattle.std.specs.List.{list_any}
use Rattle.jm_lane.specs.declared.row.Row.{Row}
use Rattle.jm_lanes.specs.Lists.{put, sorted}
use Rattle.jm_lane.specs.Rows.{are_home}
use Rattle.jm_lane.specs.Lanes.{Lane}
use Rattle.jm_lanes.specs.Lanes.{all_rows, is_lower, rows_of}
use Rattle.jm_lanes.proofs.Found.{all_rows_more, all_rows_split}
use Rattle.jm_lane.proofs.Home.{home_append, is_away}

-- one more lane has no row out
pub home_lane : (lanes : List Lane) (i : ℕ) (d : Lane) → i < length lanes → are_home (all_rows (take i lanes)) ≡ true → are_home (get_or lanes i d).rows ≡ true → are_home (all_rows (take (i + 1) lanes)) ≡ true
home_lane lanes i d l before here =
    ap are_home (all_rows_more lanes i d l) ∙ home_append (all_rows (take i lanes)) (get_or lanes i d).rows ∙ ap (λ b. b && are_home (get_or lanes i d).rows) before ∙ here

-- one that has says it of all
pub away_lane : (lanes : List Lane) (i : ℕ) (d : Lane) → i < length lanes → are_home (get_or lanes i d).rows ≡ false → are_home (all_rows lanes) ≡ false
away_lane lanes i d l here =
    let fronts : List Row = all_rows (take i lanes) in
    let rows : List Row = (get_or lanes i d).rows in
    let backs : List Row = all_rows (drop (i + 1) lanes) in
    ap are_home (all_rows_split lanes i d l) ∙ home_append fronts (rows ++ backs) ∙ ap (λ b. are_home fronts && b) (home_append rows backs ∙ ap (λ b. b && are_home backs) here) ∙ go (are_home fronts)
  where
    go : (b : Bool) → (b && false) ≡ false
    go true = refl
    go false = refl

any_put : (x : Row) (l : List Row) → list_any is_away (put is_lower x l) ≡ (is_away x || list_any is_away l)
any_put x [] = refl
any_put x (y ∷ ys) =
    elim (is_lower x y) as (λ b. list_any is_away (cond b (x ∷ y ∷ ys) (y ∷ put is_lower x ys)) ≡ (is_away x || (is_away y || list_any is_away ys))) [
      | true ↦ refl
      | false ↦ ap (λ b. is_away y || b) (any_put x ys) ∙ swap (is_away y) (is_away x) (list_any is_away ys)
    ]
  where
    swap : (a b c : Bool) → (a || (b || c)) ≡ (b || (a || c))
    swap true true c = refl
    swap true false c = refl
    swap false b c = refl

any_sorted : (xs : List Row) → list_any is_away (sorted is_lower xs) ≡ list_any is_away xs
any_sorted [] = refl
any_sorted (x ∷ xs) = any_put x (sorted is_lower xs) ∙ ap (λ b. is_away x || b) (any_sorted xs)

-- by place it is the same
pub home_shown : (lanes : List Lane) → are_home (rows_of lanes) ≡ are_home (all_rows lanes)
home_shown lanes = ap not (any_sorted (all_rows lanes))

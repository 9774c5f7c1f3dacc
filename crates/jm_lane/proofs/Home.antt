-- Rows of which none is out, in one lane.
use Rattle.std.proofs.Common.{◌≡◌, ℕ, ◌+◌, ◌<◌, ◌++◌, Bool, true, false, not, ◌&&◌, ◌||◌, List, length, get_or, take, drop, refl, ap, sym, ◌∙◌}
use Rattle.std.specs.List.{list_any, All}
use Rattle.std.proofs.lemmas.List.{take-append-drop}
use Rattle.std.proofs.lemmas.List.Elements.{All-weaker}
use Rattle.std.proofs.lemmas.List.Folds.{list_any_none, list_any_at, list_any_more, list_any-append}
use Rattle.jm_machine.specs.declared.state.RowState.{RowState}
use Rattle.jm_machine.specs.declared.state.RowState.TheVariants.{Waiting, Out}
use Rattle.jm_machine.specs.Rows.{goes_out, waits}
use Rattle.jm_lane.specs.declared.row.Row.{Row}
use Rattle.jm_lane.specs.Rows.{are_home, is_out, is_waiting}

-- the row is out, through whichever consumer
abbrev pub is_away : Row → Bool
is_away r = is_out (λ s c. true) r

-- a state is one or the other
state_away : (x : RowState) → goes_out (λ s c. true) x ≡ not (waits x)
state_away Waiting = refl
state_away (Out s c) = refl

-- one more row waits
pub home_more : (rows : List Row) (i : ℕ) (d : Row) → i < length rows → list_any is_away (take i rows) ≡ false → is_waiting (get_or rows i d) ≡ true → list_any is_away (take (i + 1) rows) ≡ false
home_more rows i d l before h =
    list_any_more is_away rows i d l ∙ ap (λ b. b || is_away (get_or rows i d)) before ∙ state_away (get_or rows i d).state ∙ ap not h

-- a row that does not is out
pub away_at : (rows : List Row) (i : ℕ) (d : Row) → i < length rows → is_waiting (get_or rows i d) ≡ false → are_home rows ≡ false
away_at rows i d l h = ap not (list_any_at is_away rows i d l (state_away (get_or rows i d).state ∙ ap not h))

-- none of the first rows is out, and each other waits
pub home_all : (rows : List Row) (high : ℕ) → list_any is_away (take high rows) ≡ false → All (λ r. is_waiting r ≡ true) (drop high rows) → are_home rows ≡ true
home_all rows high front behind =
    ap are_home (sym (take-append-drop high rows)) ∙ ap not (list_any-append is_away (take high rows) (drop high rows) ∙ ap (λ b. b || list_any is_away (drop high rows)) front ∙ list_any_none is_away (drop high rows) (All-weaker (λ r. is_waiting r ≡ true) (λ r. is_away r ≡ false) (λ r h. state_away r.state ∙ ap not h) (drop high rows) behind))

pub home_append : (xs ys : List Row) → are_home (xs ++ ys) ≡ (are_home xs && are_home ys)
home_append xs ys = ap not (list_any-append is_away xs ys) ∙ go (list_any is_away xs)
  where
    go : (b : Bool) → not (b || list_any is_away ys) ≡ (not b && are_home ys)
    go true = refl
    go false = refl

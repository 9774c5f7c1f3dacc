-- Rows that stand by place, taken one after another.
use Rattle.std.proofs.Common.{◌≡◌, ℕ, suc, ◌+◌, ◌<◌, ◌≤◌, Bool, true, false, cond, List, [], ◌∷◌, filter, length, find, refl, sym, subst, ◌∙◌, ap, Some, None}
use Rattle.std.specs.Prelude.{nat_le, not}
use Rattle.std.proofs.lemmas.Bool.Decides.{nat_tests}
use native.Mathlib.Omega.{arith}
use Rattle.jm_machine.specs.declared.state.PlacedRow.{PlacedRow}
use Rattle.jm_machine.specs.Rows.{AllAbove, InOrder, is_waiting}
use Rattle.jm_stations.specs.Standing.{is_from}
use Rattle.jm_dest.specs.declared.key.Key.{Key}
use Rattle.jm_dest.specs.declared.key.Key.TheVariants.{Queue, Own, SharedOwn, Durable}
use Rattle.jm_machine.specs.Machine.{State, places_end}
use Rattle.jm_machine.specs.Under.{placed_under}
use Rattle.jm_keep.specs.Steps.{StandsInOrder}
use Rattle.jm_keep_law.proofs.Published.{under_in_order}
use Rattle.jm_overview.specs.Overview.{waiting_in, out_in}

-- rows above a place stand from each place on that is not above the next
all_from : (k place : ℕ) (rows : List PlacedRow) → place ≤ k + 1 → AllAbove k rows → filter (is_from place) rows ≡ rows
all_from k place [] l a = refl
all_from k place (x ∷ rows) l a =
    let from : nat_le place x.place ≡ true = let above = a.0 in grind (arith, nat_tests) in
    ap (λ (b : Bool). cond b (x ∷ filter (is_from place) rows) (filter (is_from place) rows)) from ∙ ap (λ (xs : List PlacedRow). x ∷ xs) (all_from k place rows l a.1)

-- the first of the rows from a place on, and those that follow it
pub record IsNextFrom (n place : ℕ) (rows : List PlacedRow) (x : PlacedRow) : Type 0 where
  pub from : place ≤ x.place
  pub below : x.place < n
  pub rest : filter (is_from place) rows ≡ x ∷ filter (is_from (x.place + 1)) rows

pub next_from : (n place : ℕ) (rows : List PlacedRow) (x : PlacedRow) → InOrder n rows → find (is_from place) rows ≡ Some x → IsNextFrom n place rows x
next_from n place [] x h e = cc
next_from n place (y ∷ rows) x h e = go (nat_le place y.place) refl e (λ f. next_from n place rows x h.2 f)
  where
    here : y ≡ x → nat_le place y.place ≡ true → IsNextFrom n place (y ∷ rows) x
    here s f = subst (λ (z : PlacedRow). IsNextFrom n place (y ∷ rows) z) s (
        let from : place ≤ y.place = grind (arith, nat_tests) in
        let past : nat_le (y.place + 1) y.place ≡ false = grind (arith, nat_tests) in
        record {
          from = from;
          below = h.0;
          rest =
              ap (λ (b : Bool). cond b (y ∷ filter (is_from place) rows) (filter (is_from place) rows)) f
              ∙ ap (λ (xs : List PlacedRow). y ∷ xs) (all_from y.place place rows (omega (arith, from)) h.1 ∙ sym (all_from y.place (y.place + 1) rows (omega arith) h.1))
              ∙ sym (ap (λ (b : Bool). y ∷ cond b (y ∷ filter (is_from (y.place + 1)) rows) (filter (is_from (y.place + 1)) rows)) past);
        })

    there : nat_le place y.place ≡ false → IsNextFrom n place rows x → IsNextFrom n place (y ∷ rows) x
    there f i =
        let from = i.from in
        let past : nat_le (x.place + 1) y.place ≡ false = grind (arith, nat_tests) in
        record {
          from = i.from;
          below = i.below;
          rest =
              ap (λ (b : Bool). cond b (y ∷ filter (is_from place) rows) (filter (is_from place) rows)) f
              ∙ i.rest
              ∙ sym (ap (λ (b : Bool). x ∷ cond b (y ∷ filter (is_from (x.place + 1)) rows) (filter (is_from (x.place + 1)) rows)) past);
        }

    go : (b : Bool) → nat_le place y.place ≡ b → cond b (Some y) (find (is_from place) rows) ≡ Some x → (find (is_from place) rows ≡ Some x → IsNextFrom n place rows x) → IsNextFrom n place (y ∷ rows) x
    go true f e r = here (let s = e in cc) f
    go false f e r = there f (r e)

pub none_from : (place : ℕ) (rows : List PlacedRow) → find (is_from place) rows ≡ None → filter (is_from place) rows ≡ []
none_from place [] e = refl
none_from place (y ∷ rows) e = go (nat_le place y.place) refl e (none_from place rows)
  where
    go : (b : Bool) → nat_le place y.place ≡ b → cond b (Some y) (find (is_from place) rows) ≡ None → (find (is_from place) rows ≡ None → filter (is_from place) rows ≡ []) → filter (is_from place) (y ∷ rows) ≡ []
    go true f e r = cc
    go false f e r = ap (λ (b : Bool). cond b (y ∷ filter (is_from place) rows) (filter (is_from place) rows)) f ∙ r e

-- from the least place on all rows stand
pub all_of : (rows : List PlacedRow) → filter (is_from 0) rows ≡ rows
all_of [] = refl
all_of (x ∷ rows) =
    let from : nat_le 0 x.place ≡ true = grind (arith, nat_tests) in
    ap (λ (b : Bool). cond b (x ∷ filter (is_from 0) rows) (filter (is_from 0) rows)) from ∙ ap (λ (xs : List PlacedRow). x ∷ xs) (all_of rows)

-- the rows below a place were counted
pub record Counted (rows : List PlacedRow) (place waiting out : ℕ) : Type 0 where
  pub waiting_is : waiting + waiting_in (filter (is_from place) rows) ≡ waiting_in rows
  pub out_is : out + out_in (filter (is_from place) rows) ≡ out_in rows
  pub within : waiting + out ≤ place

pub counted_none : (rows : List PlacedRow) → Counted rows 0 0 0
counted_none rows = record {
  waiting_is = let all = ap waiting_in (all_of rows) in omega (arith, all);
  out_is = let all = ap out_in (all_of rows) in omega (arith, all);
  within = omega arith;
}

pub counted_waiting : (n place waiting out : ℕ) (rows : List PlacedRow) (x : PlacedRow) → IsNextFrom n place rows x → is_waiting x.row ≡ true → Counted rows place waiting out → Counted rows (x.place + 1) (waiting + 1) out
counted_waiting n place waiting out rows x i w c = record {
  waiting_is =
      let one : waiting_in (filter (is_from place) rows) ≡ suc (waiting_in (filter (is_from (x.place + 1)) rows)) = ap waiting_in i.rest ∙ ap (λ (b : Bool). length (cond b (x ∷ filter (λ (y : PlacedRow). is_waiting y.row) (filter (is_from (x.place + 1)) rows)) (filter (λ (y : PlacedRow). is_waiting y.row) (filter (is_from (x.place + 1)) rows)))) w in
      let all = c.waiting_is in omega (arith, one, all);
  out_is =
      let same : out_in (filter (is_from place) rows) ≡ out_in (filter (is_from (x.place + 1)) rows) = ap out_in i.rest ∙ ap (λ (b : Bool). length (cond (not b) (x ∷ filter (λ (y : PlacedRow). not (is_waiting y.row)) (filter (is_from (x.place + 1)) rows)) (filter (λ (y : PlacedRow). not (is_waiting y.row)) (filter (is_from (x.place + 1)) rows)))) w in
      let all = c.out_is in omega (arith, same, all);
  within = let from = i.from in let within = c.within in omega (arith, from, within);
}

pub counted_out : (n place waiting out : ℕ) (rows : List PlacedRow) (x : PlacedRow) → IsNextFrom n place rows x → is_waiting x.row ≡ false → Counted rows place waiting out → Counted rows (x.place + 1) waiting (out + 1)
counted_out n place waiting out rows x i w c = record {
  waiting_is =
      let same : waiting_in (filter (is_from place) rows) ≡ waiting_in (filter (is_from (x.place + 1)) rows) = ap waiting_in i.rest ∙ ap (λ (b : Bool). length (cond b (x ∷ filter (λ (y : PlacedRow). is_waiting y.row) (filter (is_from (x.place + 1)) rows)) (filter (λ (y : PlacedRow). is_waiting y.row) (filter (is_from (x.place + 1)) rows)))) w in
      let all = c.waiting_is in omega (arith, same, all);
  out_is =
      let one : out_in (filter (is_from place) rows) ≡ suc (out_in (filter (is_from (x.place + 1)) rows)) = ap out_in i.rest ∙ ap (λ (b : Bool). length (cond (not b) (x ∷ filter (λ (y : PlacedRow). not (is_waiting y.row)) (filter (is_from (x.place + 1)) rows)) (filter (λ (y : PlacedRow). not (is_waiting y.row)) (filter (is_from (x.place + 1)) rows)))) w in
      let all = c.out_is in omega (arith, one, all);
  within = let from = i.from in let within = c.within in omega (arith, from, within);
}

-- where no row stands from the place on, all were counted
pub counted_all : (rows : List PlacedRow) (place waiting out : ℕ) → find (is_from place) rows ≡ None → Counted rows place waiting out → (waiting ≡ waiting_in rows) × (out ≡ out_in rows)
counted_all rows place waiting out e c =
    let w : waiting + 0 ≡ waiting_in rows = ap (λ (xs : List PlacedRow). waiting + waiting_in xs) (sym (none_from place rows e)) ∙ c.waiting_is in
    let o : out + 0 ≡ out_in rows = ap (λ (xs : List PlacedRow). out + out_in xs) (sym (none_from place rows e)) ∙ c.out_is in
    (omega (arith, w), omega (arith, o))

-- rows below a place are below each higher one
wider : (n m : ℕ) (rows : List PlacedRow) → n ≤ m → InOrder n rows → InOrder m rows
wider n m [] l h = h
wider n m (x ∷ rows) l h = let below = h.0 in (omega (arith, below, l), h.1, wider n m rows l h.2)

-- the rows under each key stand by place
pub under_key : (state : State) → StandsInOrder state → state.next_place ≤ places_end → (key : Key) → InOrder places_end (placed_under state key)
under_key state o l (Queue name) = wider _ _ _ l (under_in_order state o (Queue name))
under_key state o l (Own s c) = wider _ _ _ l (under_in_order state o (Own s c))
under_key state o l (SharedOwn client name) = wider _ _ _ l (under_in_order state o (SharedOwn client name))
under_key state o l (Durable client name) = wider _ _ _ l (under_in_order state o (Durable client name))

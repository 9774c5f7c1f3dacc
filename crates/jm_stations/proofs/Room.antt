-- Room that is made, in the table and in lists.
use Rattle.std.proofs.Common.{◌≡◌, ◌≢◌, ◌⊎◌, inl, inr, ℕ, ◌<◌, ◌≤◌, ◌++◌, ◌∷◌, [], Some, List, length, get_or, set, ap, sym, subst, ◌∙◌, arith}
use Rattle.std.specs.Prelude.{OnOk}
use Rattle.std.specs.List.{All, slice_get}
use Rattle.std.specs.declared.result.Result.{Result}
use Rattle.std.specs.declared.result.Result.TheVariants.{Ok, Err}
use Rattle.std.proofs.lemmas.List.{get_or-map, get_or-set_other, get_or-set_same, get_or_default, length-map, length-set, same_lists}
use Rattle.std.proofs.lemmas.List.Elements.{All-push}
use Rattle.jm_gaps.proofs.Items.{item_read}
use Rattle.jm_lane.specs.declared.row.Row.{Row}
use Rattle.jm_pending.specs.Rows.{Held}
use Rattle.jm_lane.specs.Holders.{Messages}
use Rattle.jm_pending.specs.Counts.{IsCounted}
use Rattle.jm_stations.specs.Backlogs as spec
use Rattle.jm_stations.specs.Backlogs.{Backlog}
use Rattle.jm_stations.specs.Kept.{all_rows, shown, all_shown, HasMoreRoom, IsBacklog, IsKept}
use Rattle.jm_stations.proofs.Holders.{rows_length}
use Rattle.jm_stations.proofs.Receiving.{no_rows}

-- a list with other room
abbrev pub with_room : Held → ℕ → Held
with_room h n = record h { room = n }

-- there is room in each list that was named so far
abbrev pub IsRoomAt : ℕ → List Held → ℕ → Type 0
IsRoomAt n lists i = (d : Held) → n ≤ (get_or lists i d).room

either : (k i : ℕ) → (k ≡ i) ⊎ (k ≢ i)
either k i = grind arith

-- one list has more room
module _ (lists : List Held) (i : ℕ) (h h' : Held) (inside : i < length lists) (found : slice_get lists i ≡ Some h) (same : h' ≡ with_room h h'.room) (more : h.room ≤ h'.room) where
  there : (d : Held) → h ≡ get_or lists i d
  there d = item_read lists i h found ∙ get_or_default lists i h d inside

  -- it stands at its index, and at each other the one that stood there
  at_each : (P : ℕ → Held → Type 0) (k : ℕ) (d : Held) → P i h' → P k (get_or lists k d) → P k (get_or (set lists i h') k d)
  at_each P k d here other = elim (either k i) [
    | inl e ↦ subst (λ n. P n (get_or (set lists i h') n d)) (sym e) (subst (P i) (sym (get_or-set_same lists i h' d inside)) here)
    | inr ne ↦ subst (P k) (sym (get_or-set_other lists i k h' d ne)) other
  ]

  pub roomier_more : (old : List Held) → HasMoreRoom old lists → HasMoreRoom old (set lists i h')
  roomier_more old w = record {
    number = length-set lists i h' ∙ w.number;
    same = λ k d l.
        let within : i < length old = omega (arith, inside, w.number) in
        at_each (λ n x. x ≡ with_room (get_or old n d) x.room) k d (same ∙ ap (λ (x : Held). with_room x h'.room) (there d ∙ w.same i d within)) (w.same k d l);
    room = λ k d l.
        let within : i < length old = omega (arith, inside, w.number) in
        let grown : (get_or old i d).room ≤ h.room = subst (λ (x : Held). (get_or old i d).room ≤ x.room) (sym (there d)) (w.room i d within) in
        at_each (λ n x. (get_or old n d).room ≤ x.room) k d (omega (arith, grown, more)) (w.room k d l);
  }

  pub room_more : (n : ℕ) (is : List ℕ) → n ≤ h'.room → All (IsRoomAt n lists) is → All (IsRoomAt n (set lists i h')) (is ++ i ∷ [])
  room_more n is enough before =
      All-push (IsRoomAt n (set lists i h')) is i (λ k d l e. at_each (λ _ x. n ≤ x.room) (get_or is k d) e enough (before k d l e)) (λ e. subst (λ (x : Held). n ≤ x.room) (sym (get_or-set_same lists i h' e inside)) enough)

-- the rows are the same
rows_same_room : (lists after : List Held) → HasMoreRoom lists after → all_rows after ≡ all_rows lists
rows_same_room lists after w =
    same_lists (all_rows after) (all_rows lists) (rows_length after ∙ w.number ∙ sym (rows_length lists)) (λ k d l.
    let inside : k < length after = omega (arith, rows_length after, l) in
    let within : k < length lists = omega (arith, w.number, inside) in
    get_or-map (λ (h : Held). h.rows) after k no_rows d inside ∙ ap (λ (h : Held). h.rows) (w.same k no_rows within) ∙ sym (get_or-map (λ (h : Held). h.rows) lists k no_rows d within))

-- a table with other room
abbrev pub with_spare : Messages → ℕ → Messages
with_spare t n = record t { spare = n }

spare_backlog : (t : Messages) (n place : ℕ) (h : Held) → IsBacklog t place h → IsBacklog (with_spare t n) place h
spare_backlog t n place h b = record { below = b.below; own = record { each = λ k d l. let o = b.own.each k d l in record { priority = o.priority; expiration = o.expiration; due = o.due } } }

room_backlog : (t : Messages) (n place : ℕ) (h : Held) → IsBacklog t place h → IsBacklog t place (with_room h n)
room_backlog t n place h b = record { below = b.below; own = b.own }

-- what is held is the same where the table has more room
spare_kept : (t : Messages) (n place : ℕ) (lists : List Held) → IsKept t lists place → IsKept (with_spare t n) lists place
spare_kept t n place lists w = record {
  counted = record { each = λ p. w.counted.each p };
  each = λ k d l. spare_backlog t n place (get_or lists k d) (w.each k d l);
  places = w.places;
}

-- and where lists have more room
pub lists_kept : (t : Messages) (place : ℕ) (lists after : List Held) → HasMoreRoom lists after → IsKept t lists place → IsKept t after place
lists_kept t place lists after m w = record {
  counted = subst (λ (rows : List (List Row)). IsCounted t rows) (sym (rows_same_room lists after m)) w.counted;
  each = λ k d l.
      let within : k < length lists = omega (arith, m.number, l) in
      subst (λ (h : Held). IsBacklog t place h) (sym (m.same k d within)) (room_backlog t (get_or after k d).room place (get_or lists k d) (w.each k d within));
  places = w.places;
}

pub table_kept : (t t' : Messages) (place : ℕ) (lists : List Held) → t' ≡ with_spare t t'.spare → IsKept t lists place → IsKept t' lists place
table_kept t t' place lists e w = subst (λ (x : Messages). IsKept x lists place) (sym e) (spare_kept t t'.spare place lists w)

-- callers see the same but the room
pub table_shown : (t t' : Messages) (lists : List Held) → t' ≡ with_spare t t'.spare → all_shown t' lists ≡ all_shown t lists
table_shown t t' lists e = ap (λ (x : Messages). all_shown x lists) e

room_shown : (t : Messages) (h h' : Held) → h' ≡ with_room h h'.room → shown t h' ≡ record (shown t h) { room = h'.room }
room_shown t h h' e = ap (shown t) e

pub lists_shown : (t : Messages) (lists after : List Held) → HasMoreRoom lists after → spec.HasMoreRoom (all_shown t lists) (all_shown t after)
lists_shown t lists after m = record {
  number = length-map after (shown t) ∙ m.number ∙ sym (length-map lists (shown t));
  same = λ k d l.
      let within : k < length lists = omega (arith, length-map lists (shown t), l) in
      let inside : k < length after = omega (arith, m.number, within) in
      rw (get_or-map (shown t) after k no_rows d inside, get_or-map (shown t) lists k no_rows d within) (room_shown t (get_or lists k no_rows) (get_or after k no_rows) (m.same k no_rows within));
  room = λ k d l.
      let within : k < length lists = omega (arith, length-map lists (shown t), l) in
      let inside : k < length after = omega (arith, m.number, within) in
      rw (get_or-map (shown t) after k no_rows d inside, get_or-map (shown t) lists k no_rows d within) (m.room k no_rows within);
}

-- and the room in each list that is named
pub named_shown : (t : Messages) (n : ℕ) (is : List ℕ) (lists : List Held) → All (λ i. i < length lists) is → All (λ i. (d : Held) → n ≤ (get_or lists i d).room) is → All (λ i. (d : Backlog) → n ≤ (get_or (all_shown t lists) i d).room) is
named_shown t n is lists l w = λ k d kl e. rw (get_or-map (shown t) lists (get_or is k d) no_rows e (l k d kl)) (w k d kl no_rows)

-- what holds where all succeeded
pub on_ok : {T E : Type 0} (r : Result T E) (P Q : Type 0) → (P → Q) → OnOk r P → OnOk r Q
on_ok (Ok x) P Q f h = f h
on_ok (Err e) P Q f h = tt

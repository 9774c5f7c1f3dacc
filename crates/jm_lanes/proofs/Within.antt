-- Of all lanes only those of a span have rows: what is done to these is done to all.
use Rattle.std.proofs.Common.{◌≡◌, ℕ, ◌+◌, ◌-◌, ◌<◌, ◌≤◌, List, [], ◌∷◌, ◌++◌, length, get_or, set, take, drop, map, Option, Some, None, refl, ap, sym, subst, ◌∙◌, arith, suc, zero, ◌⊎◌, inl, inr}
use Rattle.std.specs.List.{filter, All, AllZip}
use Rattle.std.proofs.lemmas.List.Elements.{All-append}
use Rattle.std.proofs.lemmas.Grind.{flat_map-append}
use Rattle.std.proofs.lemmas.List.{append-nil, get_or-take, get_or-drop, get_or-set_other, length-set, length-take, length-drop, take-append-drop}
use borrow.Rule.Slice.PartMut.{put_mid, same_len_mid}
use Rattle.jm_dest.specs.declared.session.SessionId.{SessionId}
use Rattle.jm_lane.specs.declared.row.Row.{Row}
use Rattle.jm_lanes.specs.declared.span.Span.{Span}
use Rattle.jm_lane.specs.Rows.{is_elsewhere, sent_at}
use Rattle.jm_lane.specs.Lanes.{Lane, IsCopied}
use Rattle.jm_lanes.specs.Lanes.{AreEmptyLanes, Becomes, EachBecomes, IsWithin, all_rows}
use Rattle.jm_lanes.proofs.Edited.{each_tail}
use Rattle.jm_lanes.proofs.Keeping.{copied_number}
use Rattle.jm_lanes.proofs.Written.{written}

-- lanes without rows
abbrev HaveNone : List Lane → Type 0
HaveNone us = (k : ℕ) (d : Lane) → k < length us → (get_or us k d).rows ≡ []

none_in : (us : List Lane) → HaveNone us → all_rows us ≡ []
none_in [] h = refl
none_in (x ∷ us) h = rw (h zero x (omega arith), none_in us (λ k d l. h (suc k) d (omega arith))) refl

-- those before and those behind the span
before_span : (xs : List Lane) (s : Span) → {room : ℕ} → IsWithin xs s room → HaveNone (take s.first xs)
before_span xs s h k d l =
    let lt : k < s.first = omega (arith, l, length-take s.first xs) in
    rw (get_or-take s.first xs k d lt) (h.before k d lt)

behind_span : (xs : List Lane) (s : Span) → {room : ℕ} → IsWithin xs s room → HaveNone (drop (s.end - s.first) (drop s.first xs))
behind_span xs s h k d l =
    let within : s.first + (s.end - s.first + k) < length xs = omega (arith, l, length-drop (s.end - s.first) (drop s.first xs), length-drop s.first xs) in
    rw (get_or-drop (s.end - s.first) (drop s.first xs) k d, get_or-drop s.first xs (s.end - s.first + k) d) (h.behind (s.first + (s.end - s.first + k)) d (omega (arith, h.order)) within)

mid_rows : (us ys vs : List Lane) → HaveNone us → HaveNone vs → all_rows (us ++ (ys ++ vs)) ≡ all_rows ys
mid_rows us ys vs a b =
    rw (flat_map-append (λ (l : Lane). l.rows) us (ys ++ vs), flat_map-append (λ (l : Lane). l.rows) ys vs, none_in us a, none_in vs b) (append-nil (all_rows ys))

split : (xs : List Lane) (s : Span) → take s.first xs ++ (take (s.end - s.first) (drop s.first xs) ++ drop (s.end - s.first) (drop s.first xs)) ≡ xs
split xs s =
    ap (λ zs. take s.first xs ++ zs) (take-append-drop (s.end - s.first) (drop s.first xs)) ∙ take-append-drop s.first xs

-- the rows of the span's lanes are all rows
pub span_rows : (s : Span) (first end : ℕ) (xs old : List Lane) → old ≡ xs → first ≡ s.first → end ≡ s.end → {room : ℕ} → IsWithin xs s room → all_rows (take (end - first) (drop first old)) ≡ all_rows xs
span_rows s first end xs old is f e h =
    rw (is, f, e) (sym (mid_rows (take s.first xs) (take (s.end - s.first) (drop s.first xs)) (drop (s.end - s.first) (drop s.first xs)) (before_span xs s h) (behind_span xs s h)) ∙ ap all_rows (split xs s))

each_still : (f : List Row → List Row) → f [] ≡ [] → (us : List Lane) → HaveNone us → EachBecomes f us us
each_still f nil us h = record { len = refl; at = λ k d l. record { priority = refl; rows = h k d l ∙ sym (ap f (h k d l) ∙ nil); room = omega arith } }

each_cons : (f : List Row → List Row) (x y : Lane) (xs ys : List Lane) → Becomes f x y → EachBecomes f xs ys → EachBecomes f (x ∷ xs) (y ∷ ys)
each_cons f x y xs ys b e = record { len = omega (arith, e.len); at = at' }
  where
    at' : (k : ℕ) (d : Lane) → k < length (x ∷ xs) → Becomes f (get_or (x ∷ xs) k d) (get_or (y ∷ ys) k d)
    at' zero d l = b
    at' (suc k) d l = e.at k d (omega arith)

each_append : (f : List Row → List Row) (us ws vs zs : List Lane) → EachBecomes f us ws → EachBecomes f vs zs → EachBecomes f (us ++ vs) (ws ++ zs)
each_append f [] [] vs zs a b = b
each_append f [] (w ∷ ws) vs zs a b = absurd (omega (arith, a.len))
each_append f (u ∷ us) [] vs zs a b = absurd (omega (arith, a.len))
each_append f (u ∷ us) (w ∷ ws) vs zs a b =
    each_cons f u w (us ++ vs) (ws ++ zs) (a.at zero u (omega arith)) (each_append f us ws vs zs (each_tail f u w us ws a) b)

-- an edit that leaves lanes without rows keeps them so
pub within_each : (f : List Row → List Row) → f [] ≡ [] → (xs zs : List Lane) (s : Span) → {room : ℕ} → IsWithin xs s room → EachBecomes f xs zs → IsWithin zs s room
within_each f nil xs zs s h e = record {
  order = h.order;
  inside = omega (arith, h.inside, e.len);
  before = λ k d l. (e.at k d (omega (arith, l, h.order, h.inside))).rows ∙ ap f (h.before k d l) ∙ nil;
  behind = λ k d le l. (e.at k d (omega (arith, l, e.len))).rows ∙ ap f (h.behind k d le (omega (arith, l, e.len))) ∙ nil;
  room_before = λ k d l. omega (arith, h.room_before k d l, (e.at k d (omega (arith, l, h.order, h.inside))).room);
  room_behind = λ k d le l. omega (arith, h.room_behind k d le (omega (arith, l, e.len)), (e.at k d (omega (arith, l, e.len))).room);
  unmade = λ none. h.unmade (omega (arith, none, e.len));
}

-- where there is no row, no lane has one
nothing : (us vs : List Row) → length (us ++ vs) ≡ 0 → (us ≡ []) × (length vs ≡ 0)
nothing [] vs e = (refl, e)
nothing (u ∷ us) vs e = absurd (omega (arith, e))

none_there : (xs : List Lane) (k : ℕ) (d : Lane) → k < length xs → length (all_rows xs) ≡ 0 → (get_or xs k d).rows ≡ []
none_there [] k d l e = absurd (omega arith)
none_there (x ∷ xs) zero d l e = (nothing x.rows (all_rows xs) e).0
none_there (x ∷ xs) (suc k) d l e = none_there xs k d (omega arith) (nothing x.rows (all_rows xs) e).1

-- such an edit of the lanes of the span, written back to where they stand
pub record Spread (f : List Row → List Row) (xs zs ys : List Lane) (s : Span) (room : ℕ) : Type 0 where
  pub each : EachBecomes f xs zs
  pub within : IsWithin zs s room
  pub rows : all_rows zs ≡ all_rows ys

abbrev pub back_of : (count first end : ℕ) (xs old ys : List Lane) → List Lane
back_of count first end xs old ys =
    take count (put_mid first (end - first) old ys ++ drop (length (put_mid first (end - first) old ys)) xs)

pub spread : (f : List Row → List Row) → f [] ≡ [] → (s : Span) (count first end : ℕ) (xs old ys : List Lane) → old ≡ xs → length old ≡ count → first ≡ s.first → end ≡ s.end → {room : ℕ} → IsWithin xs s room → EachBecomes f (take (end - first) (drop first old)) ys → Spread f xs (back_of count first end xs old ys) ys s room
spread f nil s count first end xs old ys is number g e h each = record { each = all; within = within_each f nil xs (back_of count first end xs old ys) s h all; rows = subst (λ zs. all_rows zs ≡ all_rows ys) (sym back_is) rows' }
  where
    us : List Lane
    us = take s.first xs

    vs : List Lane
    vs = drop (s.end - s.first) (drop s.first xs)

    each' : EachBecomes f (take (s.end - s.first) (drop s.first xs)) ys
    each' = rw (is, g, e) at each

    back_is : back_of count first end xs old ys ≡ us ++ (ys ++ vs)
    back_is =
        written count xs old (put_mid first (end - first) old ys) is number (same_len_mid first (end - first) old ys each.len) ∙ rw (is, g, e) refl

    whole : EachBecomes f (us ++ (take (s.end - s.first) (drop s.first xs) ++ vs)) (us ++ (ys ++ vs))
    whole =
        each_append f us us (take (s.end - s.first) (drop s.first xs) ++ vs) (ys ++ vs) (each_still f nil us (before_span xs s h)) (each_append f (take (s.end - s.first) (drop s.first xs)) ys vs vs each' (each_still f nil vs (behind_span xs s h)))

    all : EachBecomes f xs (back_of count first end xs old ys)
    all = subst (λ zs. EachBecomes f xs zs) (sym back_is) (subst (λ ws. EachBecomes f ws (us ++ (ys ++ vs))) (split xs s) whole)

    rows' : all_rows (us ++ (ys ++ vs)) ≡ all_rows ys
    rows' = mid_rows us ys vs (before_span xs s h) (behind_span xs s h)

-- no lanes, and lanes with the same rows
pub no_lanes : (s : Span) → s.first ≡ 0 → s.end ≡ 0 → IsWithin [] s 0
no_lanes s f e = record {
  order = omega (arith, f, e);
  inside = omega (arith, e);
  before = λ k d l. absurd (omega (arith, l, f));
  behind = λ k d le l. absurd (omega arith);
  room_before = λ k d l. omega arith;
  room_behind = λ k d le l. omega arith;
  unmade = λ none. refl;
}

copied_rows : (xs ys : List Lane) (k : ℕ) (d : Lane) → AllZip IsCopied xs ys → (get_or ys k d).rows ≡ (get_or xs k d).rows
copied_rows [] [] k d e = refl
copied_rows [] (y ∷ ys) k d e = absurd e
copied_rows (x ∷ xs) [] k d e = absurd e
copied_rows (x ∷ xs) (y ∷ ys) zero d e = e.0.rows
copied_rows (x ∷ xs) (y ∷ ys) (suc k) d e = copied_rows xs ys k d e.1

pub within_copied : (xs ys : List Lane) (s : Span) → {room : ℕ} → IsWithin xs s room → AllZip IsCopied xs ys → IsWithin ys s 0
within_copied xs ys s h e = record {
  order = h.order;
  inside = omega (arith, h.inside, copied_number xs ys e);
  before = λ k d l. copied_rows xs ys k d e ∙ h.before k d l;
  behind = λ k d le l. copied_rows xs ys k d e ∙ h.behind k d le (omega (arith, l, copied_number xs ys e));
  room_before = λ k d l. omega arith;
  room_behind = λ k d le l. omega arith;
  unmade = λ none. refl;
}

-- a span that has the lane to which a row is added, and where there are other rows, the lanes of these
pub within_pushed : (xs : List Lane) (at count room more : ℕ) (after : Lane) (s t : Span) → IsWithin xs s room → count ≡ length (all_rows xs) → at < length xs → t.first ≤ at → at < t.end → (0 < count → (t.first ≤ s.first) × (s.end ≤ t.end)) → ((n : ℕ) → at < n → s.end ≤ n → t.end ≤ n) → (0 < more → (more ≡ room) × (t.first ≤ s.first) × (s.end ≤ t.end)) → IsWithin (set xs at after) t more
within_pushed xs at count room more after s t h is l from to wide bound kept = record {
  order = omega (arith, from, to);
  inside = omega (arith, length-set xs at after, bound (length xs) l h.inside);
  before = λ k d lt. rw (get_or-set_other xs at k after d (omega (arith, lt, from))) (outside k d (omega (arith, lt, from, l)) (λ some. inl (omega (arith, lt, (wide some).0))));
  behind = λ k d le lt. rw (get_or-set_other xs at k after d (omega (arith, le, to))) (outside k d (omega (arith, lt, length-set xs at after)) (λ some. inr (omega (arith, le, (wide some).1))));
  room_before = λ k d lt. rw (get_or-set_other xs at k after d (omega (arith, lt, from))) (by_room more refl _ (λ some. let w = kept some in omega (arith, w.0, h.room_before k d (omega (arith, lt, w.1)))));
  room_behind = λ k d le lt. rw (get_or-set_other xs at k after d (omega (arith, le, to))) (by_room more refl _ (λ some. let w = kept some in omega (arith, w.0, h.room_behind k d (omega (arith, le, w.2)) (omega (arith, lt, length-set xs at after)))));
  unmade = λ none. absurd (omega (arith, none, l, length-set xs at after));
}
  where
    outside : (k : ℕ) (d : Lane) → k < length xs → (0 < count → (k < s.first) ⊎ (s.end ≤ k)) → (get_or xs k d).rows ≡ []
    outside k d lt where_it = by_count count refl
      where
        by_count : (n : ℕ) → count ≡ n → (get_or xs k d).rows ≡ []
        by_count zero e = none_there xs k d lt (sym is ∙ e)
        by_count (suc n) e = elim (where_it (omega (arith, e))) [ inl a ↦ h.before k d a | inr b ↦ h.behind k d b lt ]

    by_room : (n : ℕ) → more ≡ n → (free : ℕ) → (0 < more → more ≤ free) → more ≤ free
    by_room zero e free some = omega (arith, e)
    by_room (suc n) e free some = some (omega (arith, e))

-- lanes without rows, in place of none
pub within_made : (xs ys : List Lane) (s : Span) (room : ℕ) → length xs ≡ 0 → AreEmptyLanes ys 30 → IsWithin xs s room → IsWithin ys s room
within_made xs ys s room none made h =
    let zero_room : room ≡ 0 = h.unmade none in
    record {
      order = h.order;
      inside = omega (arith, h.inside, none);
      before = λ k d l. absurd (omega (arith, l, h.order, h.inside, none));
      behind = λ k d le l. none_there ys k d l (ap length made.none);
      room_before = λ k d l. omega (arith, zero_room);
      room_behind = λ k d le l. omega (arith, zero_room);
      unmade = λ some. zero_room;
    }

-- more room, where all lanes have it
pub within_room : (xs : List Lane) (s : Span) (more : ℕ) → {room : ℕ} → IsWithin xs s room → 0 < length xs → All (λ (l : Lane). more ≤ l.spare) xs → (less : ℕ) → less ≤ more → IsWithin xs s less
within_room xs s more h there a less le = record {
  order = h.order;
  inside = h.inside;
  before = h.before;
  behind = h.behind;
  room_before = λ k d l. omega (arith, le, a k d (omega (arith, l, h.order, h.inside)));
  room_behind = λ k d f l. omega (arith, le, a k d l);
  unmade = λ none. absurd (omega (arith, none, there));
}

-- room in the lanes of the span, where the others have it
pub room_spread : (s : Span) (more count first end : ℕ) (xs old ys : List Lane) → {room : ℕ} → old ≡ xs → length old ≡ count → first ≡ s.first → end ≡ s.end → more ≤ room → IsWithin xs s room → length ys ≡ length (take (end - first) (drop first old)) → All (λ (l : Lane). more ≤ l.spare) ys → All (λ (l : Lane). more ≤ l.spare) (back_of count first end xs old ys)
room_spread s more count first end xs old ys is number g e enough h len a =
    subst (All (λ (l : Lane). more ≤ l.spare)) (sym back_is) (All-append (λ (l : Lane). more ≤ l.spare) us (ys ++ vs) front (All-append (λ (l : Lane). more ≤ l.spare) ys vs a behind))
  where
    us : List Lane
    us = take s.first xs

    vs : List Lane
    vs = drop (s.end - s.first) (drop s.first xs)

    back_is : back_of count first end xs old ys ≡ us ++ (ys ++ vs)
    back_is =
        written count xs old (put_mid first (end - first) old ys) is number (same_len_mid first (end - first) old ys len) ∙ rw (is, g, e) refl

    front : All (λ (l : Lane). more ≤ l.spare) us
    front k d l =
        let lt : k < s.first = omega (arith, l, length-take s.first xs) in
        rw (get_or-take s.first xs k d lt) (omega (arith, enough, h.room_before k d lt))

    behind : All (λ (l : Lane). more ≤ l.spare) vs
    behind k d l =
        let within : s.first + (s.end - s.first + k) < length xs = omega (arith, l, length-drop (s.end - s.first) (drop s.first xs), length-drop s.first xs) in
        rw (get_or-drop (s.end - s.first) (drop s.first xs) k d, get_or-drop s.first xs (s.end - s.first + k) d) (omega (arith, enough, h.room_behind (s.first + (s.end - s.first + k)) d (omega (arith, h.order)) within))

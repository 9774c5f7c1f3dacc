-- Lanes are made.
use Rattle.std.proofs.Common.{◌≡◌, ℕ, ◌+◌, ◌<◌, List, [], ◌∷◌, ◌++◌, length, refl, ap, arith, suc, zero, inl, inr}
use Rattle.std.proofs.lemmas.Bool.Decides.{eqb_tells}
use Rattle.std.proofs.lemmas.Grind.{flat_map-append}
use Rattle.std.proofs.lemmas.List.{length-append, get_or_append_left, get_or_push}
use Rattle.std.proofs.lemmas.List.Elements.{All-nil}
use Rattle.jm_lanes.specs.Lists.{sorted}
use Rattle.jm_lane.specs.Lanes.{Lane}
use Rattle.jm_lanes.specs.Lanes.{AreEmptyLanes, IsHeld, IsLaneOf, is_lower, rows_of}

-- one more lane without rows
pub empty_more : (xs : List Lane) (i : ℕ) (lane : Lane) → AreEmptyLanes xs i → IsLaneOf i lane.priority → lane.rows ≡ [] → AreEmptyLanes (xs ++ lane ∷ []) (i + 1)
empty_more xs i lane h of rows = record {
  number = omega (arith, h.number, length-append xs (lane ∷ []));
  priorities = λ k d l. elim (eqb_tells k i) [
    | inl e ↦ rw (e.1, get_or_push xs lane d i h.number) of
    | inr n ↦
        let before : k < length xs = let ne = n.1 in omega (arith, ne, l, h.number, length-append xs (lane ∷ [])) in
        rw (get_or_append_left xs (lane ∷ []) d k before) (h.priorities k d before)
  ];
  none = rw (flat_map-append (λ (l : Lane). l.rows) xs (lane ∷ []), h.none, rows) refl;
}

-- thirty of them may be held, with no room
pub empty_held : (xs : List Lane) → AreEmptyLanes xs 30 → IsHeld xs 0
empty_held xs h = record {
  number = λ there. h.number;
  made = λ some. h.number;
  priorities = h.priorities;
  rising = rw h.none tt;
  bounded = rw h.none (All-nil _);
  spare = λ k d l. omega arith;
}

-- and so may no lanes
pub none_held : IsHeld [] 0
none_held = record {
  number = λ there. absurd (omega arith);
  made = λ some. absurd (omega arith);
  priorities = λ k d l. absurd (omega arith);
  rising = tt;
  bounded = All-nil _;
  spare = λ k d l. omega arith;
}

-- where there are no lanes there is no room
no_room : (xs : List Lane) (room : ℕ) → IsHeld xs room → length xs ≡ 0 → room ≡ 0
no_room xs zero h e = refl
no_room xs (suc n) h e = absurd (omega (arith, h.made (omega arith), e))

-- lanes are made where there are none
pub made_held : (xs ys : List Lane) (room : ℕ) → IsHeld xs room → length xs ≡ 0 → AreEmptyLanes ys 30 → IsHeld ys room
made_held xs ys room h e made = rw (no_room xs room h e) (empty_held ys made)

pub made_rows : (xs ys : List Lane) → length xs ≡ 0 → AreEmptyLanes ys 30 → rows_of ys ≡ rows_of xs
made_rows [] ys e made = ap (sorted is_lower) made.none
made_rows (x ∷ xs) ys e made = absurd (omega (arith, e))

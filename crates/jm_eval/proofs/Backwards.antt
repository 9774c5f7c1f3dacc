-- Places at the end of a text, read from the end.
use Rattle.std.proofs.Common.{◌≡◌, ℕ, suc, ◌-◌, ◌<◌, ◌≤◌, Bool, true, false, ◌&&◌, ◌||◌, List, [], ◌∷◌, ◌++◌, length, map, take, get_or, Option, Some, None, refl, ap, sym, ◌∙◌, arith}
use Rattle.std.proofs.Math.Seq.{take-suc}
use Rattle.jm_tree.specs.Patterns.{item_of}
use Rattle.jm_eval.specs.Patterns.{matches, any_suffix, after_one, fits_place, is_empty}

-- whether a text fits places, and whether an end of it does
abbrev fit : List (Option ℕ) → List ℕ → Bool
fit places = matches (map item_of places)

abbrev pub end_fits : List (Option ℕ) → List ℕ → Bool
end_fits places = any_suffix (fit places)

by_place : (place : Option ℕ) (places : List (Option ℕ)) (cs : List ℕ) → fit (place ∷ places) cs ≡ after_one (fits_place place) (fit places) cs
by_place None places cs = refl
by_place (Some d) places cs = refl

and_false : (a : Bool) → (a && false) ≡ false
and_false true = refl
and_false false = refl

and_swap : (a b c : Bool) → (a && (b && c)) ≡ (b && (a && c))
and_swap true true c = refl
and_swap true false c = refl
and_swap false true c = refl
and_swap false false c = refl

or_and : (a b c : Bool) → ((a && b) || (a && c)) ≡ (a && (b || c))
or_and true b c = refl
or_and false b c = refl

or_false : (a : Bool) → (a || false) ≡ a
or_false true = refl
or_false false = refl

no_text : (places : List (Option ℕ)) (place : Option ℕ) → fit (places ++ place ∷ []) [] ≡ false
no_text [] None = refl
no_text [] (Some d) = refl
no_text (None ∷ places) place = refl
no_text (Some d ∷ places) place = refl

not_empty : (cs : List ℕ) (c : ℕ) → is_empty (cs ++ c ∷ []) ≡ false
not_empty [] c = refl
not_empty (d ∷ cs) c = refl

last_fits : (places : List (Option ℕ)) (place : Option ℕ) (cs : List ℕ) (c : ℕ) → fit (places ++ place ∷ []) (cs ++ c ∷ []) ≡ (fits_place place c && fit places cs)
last_fits [] place [] c = by_place place [] (c ∷ [])
last_fits [] place (d ∷ cs) c =
    by_place place [] (d ∷ cs ++ c ∷ []) ∙ ap (λ b. fits_place place d && b) (not_empty cs c) ∙ and_false (fits_place place d) ∙ sym (and_false (fits_place place c))
last_fits (q ∷ places) place [] c =
    by_place q (places ++ place ∷ []) (c ∷ []) ∙ ap (λ b. fits_place q c && b) (no_text places place) ∙ and_false (fits_place q c)
    ∙ sym (ap (λ b. fits_place place c && b) (by_place q places []) ∙ and_false (fits_place place c))
last_fits (q ∷ places) place (d ∷ cs) c =
    by_place q (places ++ place ∷ []) (d ∷ cs ++ c ∷ []) ∙ ap (λ b. fits_place q d && b) (last_fits places place cs c)
    ∙ and_swap (fits_place q d) (fits_place place c) (fit places cs)
    ∙ sym (ap (λ b. fits_place place c && b) (by_place q places (d ∷ cs)))

last_end : (places : List (Option ℕ)) (place : Option ℕ) (cs : List ℕ) (c : ℕ) → end_fits (places ++ place ∷ []) (cs ++ c ∷ []) ≡ (fits_place place c && end_fits places cs)
last_end places place [] c =
    ap (λ b. fit (places ++ place ∷ []) (c ∷ []) || b) (no_text places place) ∙ or_false _ ∙ last_fits places place [] c
last_end places place (d ∷ cs) c =
    ap (λ b. b || end_fits (places ++ place ∷ []) (cs ++ c ∷ [])) (last_fits places place (d ∷ cs) c)
    ∙ ap (λ b. (fits_place place c && fit places (d ∷ cs)) || b) (last_end places place cs c)
    ∙ or_and (fits_place place c) (fit places (d ∷ cs)) (end_fits places cs)

-- nothing is asked of the text
back_all : (cs : List ℕ) → end_fits [] cs ≡ true
back_all [] = refl
back_all (c ∷ cs) = back_all cs

-- the places up to this number are left, and a text
module _ (places : List (Option ℕ)) (n : ℕ) (d : Option ℕ) (whole left : List ℕ) (some : 0 < n) (within : n ≤ length places)
    (h : end_fits places whole ≡ end_fits (take n places) left) where
  last_place : take n places ≡ take (n - 1) places ++ get_or places (n - 1) d ∷ []
  last_place =
      let e : suc (n - 1) ≡ n = omega arith in
      let below : n - 1 < length places = omega arith in
      sym (ap (λ m. take m places) e) ∙ take-suc places (n - 1) d below

  now : end_fits places whole ≡ end_fits (take (n - 1) places ++ get_or places (n - 1) d ∷ []) left
  now = h ∙ ap (λ ps. end_fits ps left) last_place

  by_last : (before : List ℕ) (c : ℕ) → left ≡ before ++ c ∷ []
      → end_fits places whole ≡ (fits_place (get_or places (n - 1) d) c && end_fits (take (n - 1) places) before)
  by_last before c e = now ∙ ap (end_fits (take (n - 1) places ++ get_or places (n - 1) d ∷ [])) e ∙ last_end (take (n - 1) places) (get_or places (n - 1) d) before c

  pub back_more : (before : List ℕ) (c : ℕ) → left ≡ before ++ c ∷ [] → fits_place (get_or places (n - 1) d) c ≡ true
      → end_fits places whole ≡ end_fits (take (n - 1) places) before
  back_more before c e fit = by_last before c e ∙ ap (λ b. b && end_fits (take (n - 1) places) before) fit

  pub back_fails : (before : List ℕ) (c : ℕ) → left ≡ before ++ c ∷ [] → fits_place (get_or places (n - 1) d) c ≡ false → end_fits places whole ≡ false
  back_fails before c e fit = by_last before c e ∙ ap (λ b. b && end_fits (take (n - 1) places) before) fit

  pub back_ends : left ≡ [] → end_fits places whole ≡ false
  back_ends e = now ∙ ap (end_fits (take (n - 1) places ++ get_or places (n - 1) d ∷ [])) e ∙ no_text (take (n - 1) places) (get_or places (n - 1) d)

pub back_done : (places : List (Option ℕ)) (n : ℕ) (whole left : List ℕ) → n ≡ 0 → end_fits places whole ≡ end_fits (take n places) left → end_fits places whole ≡ true
back_done places n whole left e h = h ∙ ap (λ m. end_fits (take m places) left) e ∙ back_all left

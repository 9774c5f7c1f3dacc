-- Places at the front of a text.
use Rattle.std.proofs.Common.{◌≡◌, ℕ, suc, ◌+◌, ◌<◌, true, false, ◌&&◌, List, [], ◌∷◌, ◌++◌, length, map, drop, get_or, Option, Some, None, refl, ap, sym, subst, ◌∙◌, arith, append-nil}
use Rattle.std.proofs.lemmas.List.{drop-drop}
use Rattle.std.proofs.Math.Seq.{drop-cons, drop-length}
use Rattle.std.specs.List.{AllByRecursion}
use Rattle.jm_tree.specs.declared.pattern.Item.{Item}
use Rattle.jm_tree.specs.declared.pattern.Item.TheVariants.{Any}
use Rattle.jm_tree.specs.Patterns.{item_of}
use Rattle.jm_eval.specs.Patterns.{matches, any_suffix, after_one, fits_place, is_any, is_empty}
use Rattle.jm_eval.proofs.Ends.{none_here, none_at_end, first_match}

-- what the loop has passed
pub record HasPast (places : List (Option ℕ)) (n : ℕ) (whole rest : List ℕ) : Type 0 where
  pub same : (is : List Item) → matches (map item_of places ++ is) whole ≡ matches (map item_of (drop n places) ++ is) rest
  pub advanced : rest ≡ drop n whole

pub past_none : (places : List (Option ℕ)) (whole : List ℕ) → HasPast places 0 whole whole
past_none places whole = record { same = λ is. refl; advanced = refl }

by_place : (place : Option ℕ) (is : List Item) (cs : List ℕ) → matches (item_of place ∷ is) cs ≡ after_one (fits_place place) (matches is) cs
by_place None is cs = refl
by_place (Some d) is cs = refl

one_more : (place : Option ℕ) (is : List Item) (c : ℕ) (cs : List ℕ) → fits_place place c ≡ true → matches (item_of place ∷ is) (c ∷ cs) ≡ matches is cs
one_more place is c cs h = by_place place is (c ∷ cs) ∙ ap (λ b. b && matches is cs) h

one_fails : (place : Option ℕ) (is : List Item) (c : ℕ) (cs : List ℕ) → fits_place place c ≡ false → matches (item_of place ∷ is) (c ∷ cs) ≡ false
one_fails place is c cs h = by_place place is (c ∷ cs) ∙ ap (λ b. b && matches is cs) h

none_left : (place : Option ℕ) (is : List Item) → matches (item_of place ∷ is) [] ≡ false
none_left None is = refl
none_left (Some d) is = refl

module _ (places : List (Option ℕ)) (n : ℕ) (d : Option ℕ) (whole rest : List ℕ) (below : n < length places) (h : HasPast places n whole rest) where
  now : (items : List Item) → matches (map item_of places ++ items) whole ≡ matches (item_of (get_or places n d) ∷ map item_of (drop (suc n) places) ++ items) rest
  now items = h.same items ∙ ap (λ ps. matches (map item_of ps ++ items) rest) (drop-cons places n d below)

  pub past_more : (c : ℕ) (later : List ℕ) → rest ≡ c ∷ later → fits_place (get_or places n d) c ≡ true → HasPast places (n + 1) whole later
  past_more c later e fit =
      let next : suc n ≡ n + 1 = omega arith in
      let one : later ≡ drop 1 (drop n whole) = ap (drop 1) (sym e ∙ h.advanced) in
      let sum : n + 1 ≡ suc n = omega arith in
      subst (λ m. HasPast places m whole later) next (record {
        same = λ items. now items ∙ ap (matches (item_of (get_or places n d) ∷ map item_of (drop (suc n) places) ++ items)) e ∙ one_more (get_or places n d) _ c later fit;
        advanced = one ∙ drop-drop 1 n whole ∙ ap (λ m. drop m whole) sum;
      })

  pub past_fails : (c : ℕ) (later : List ℕ) → rest ≡ c ∷ later → fits_place (get_or places n d) c ≡ false → (items : List Item) → matches (map item_of places ++ items) whole ≡ false
  past_fails c later e fit items =
      now items ∙ ap (matches (item_of (get_or places n d) ∷ map item_of (drop (suc n) places) ++ items)) e ∙ one_fails (get_or places n d) _ c later fit

  pub past_ends : rest ≡ [] → (items : List Item) → matches (map item_of places ++ items) whole ≡ false
  past_ends e items = now items ∙ ap (matches (item_of (get_or places n d) ∷ map item_of (drop (suc n) places) ++ items)) e ∙ none_left (get_or places n d) _

pub past_all : (places : List (Option ℕ)) (n : ℕ) (whole rest : List ℕ) → n ≡ length places → HasPast places n whole rest
    → ((is : List Item) → matches (map item_of places ++ is) whole ≡ matches is rest) × (rest ≡ drop (length places) whole)
past_all places n whole rest e h =
    let none : drop n places ≡ [] = ap (λ m. drop m places) e ∙ drop-length places in
    (λ is. h.same is ∙ ap (λ ps. matches (map item_of ps ++ is) rest) none, h.advanced ∙ ap (λ m. drop m whole) e)

all_plain : (places : List (Option ℕ)) → AllByRecursion (λ i. is_any i ≡ false) (map item_of places)
all_plain [] = tt
all_plain (None ∷ places) = (refl, all_plain places)
all_plain (Some d ∷ places) = (refl, all_plain places)

length_items : (places : List (Option ℕ)) → length (map item_of places) ≡ length places
length_items [] = refl
length_items (place ∷ places) = let e = length_items places in omega (arith, e)

pub found_after : (places : List (Option ℕ)) (cs rest : List ℕ) → ((is : List Item) → matches (map item_of places ++ is) cs ≡ matches is rest)
    → rest ≡ drop (length places) cs → (is : List Item) → any_suffix (matches (map item_of places ++ Any ∷ is)) cs ≡ any_suffix (matches is) rest
found_after places cs rest h advanced is = first_match (map item_of places ++ Any ∷ is) is cs rest (record {
  part = map item_of places;
  plain = all_plain places;
  split = refl;
  advanced = advanced ∙ ap (λ m. drop m cs) (sym (length_items places));
  same = h (Any ∷ is);
})

pub not_here : (places : List (Option ℕ)) (all : List ℕ) (c : ℕ) (cs : List ℕ) → all ≡ c ∷ cs → ((is : List Item) → matches (map item_of places ++ is) all ≡ false)
    → (is : List Item) → any_suffix (matches (map item_of places ++ is)) all ≡ any_suffix (matches (map item_of places ++ is)) cs
not_here places all c cs e h is = none_here (map item_of places ++ is) all c cs e (sym (h is))

pub nowhere : (places : List (Option ℕ)) (cs : List ℕ) → cs ≡ [] → ((is : List Item) → matches (map item_of places ++ is) cs ≡ false)
    → (is : List Item) → any_suffix (matches (map item_of places ++ is)) cs ≡ false
nowhere places cs e h is = none_at_end (map item_of places ++ is) cs e (sym (h is))

pub whole_fails : (places : List (Option ℕ)) (cs : List ℕ) → ((is : List Item) → matches (map item_of places ++ is) cs ≡ false) → matches (map item_of places) cs ≡ false
whole_fails places cs h = ap (λ is. matches is cs) (sym (append-nil (map item_of places))) ∙ h []

pub whole_rest : (places : List (Option ℕ)) (cs rest : List ℕ) → ((is : List Item) → matches (map item_of places ++ is) cs ≡ matches is rest)
    → matches (map item_of places) cs ≡ is_empty rest
whole_rest places cs rest h = ap (λ is. matches is cs) (sym (append-nil (map item_of places))) ∙ h []

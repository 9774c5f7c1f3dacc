-- A walk over a list that takes elements out where it stands.
use Rattle.std.proofs.Common.{◌≡◌, ℕ, zero, suc, ◌+◌, ◌<◌, List, [], ◌∷◌, ◌++◌, length, get_or, take, drop, true, false, Bool, refl, ap, sym, ◌∙◌, arith, length-append, length-drop}
use Rattle.std.specs.List.{filter, remove, All}
use Rattle.std.proofs.lemmas.List.{append-nil, append_assoc, take-append-drop, drop_more, drop_at}
use Rattle.std.proofs.lemmas.List.Elements.{filter_more, filter-append, All-head, All-tail}

-- of the first k of `init` those that pass p are left, `at` of them, and then the rest
pub record IsSieved {X : Type 0} (p : X → Bool) (init ys : List X) (k at : ℕ) : Type 0 where
  pub items : ys ≡ filter p (take k init) ++ drop k init
  pub count : at ≡ length (filter p (take k init))

pub sieved_none : {X : Type 0} (p : X → Bool) (init : List X) → IsSieved p init init 0 0
sieved_none p init = record { items = refl; count = refl }

get_or_end : {X : Type 0} (xs : List X) (y : X) (ys : List X) (d : X) → get_or (xs ++ y ∷ ys) (length xs) d ≡ y
get_or_end [] y ys d = refl
get_or_end (x ∷ xs) y ys d = get_or_end xs y ys d

pub sieved_here : {X : Type 0} (p : X → Bool) (init ys : List X) (k at : ℕ) (d : X) → IsSieved p init ys k at → k < length init → get_or ys at d ≡ get_or init k d
sieved_here p init ys k at d s h =
    rw (s.items, s.count, drop_more init k d h) (get_or_end (filter p (take k init)) (get_or init k d) (drop (k + 1) init) d)

remove_end : {X : Type 0} (xs : List X) (y : X) (ys : List X) → remove (xs ++ y ∷ ys) (length xs) ≡ xs ++ ys
remove_end [] y ys = refl
remove_end (x ∷ xs) y ys = ap (λ zs. x ∷ zs) (remove_end xs y ys)

-- what stands before the element that goes stays
pub take_remove : {X : Type 0} (xs : List X) (i : ℕ) → take i (remove xs i) ≡ take i xs
take_remove [] zero = refl
take_remove [] (suc i) = refl
take_remove (x ∷ xs) zero = refl
take_remove (x ∷ xs) (suc i) = ap (λ zs. x ∷ zs) (take_remove xs i)

pub sieved_gone : {X : Type 0} (p : X → Bool) (init ys : List X) (k at : ℕ) (d : X) → IsSieved p init ys k at → k < length init → p (get_or ys at d) ≡ false → IsSieved p init (remove ys at) (k + 1) at
sieved_gone p init ys k at d s h e =
    let f : p (get_or init k d) ≡ false = ap p (sym (sieved_here p init ys k at d s h)) ∙ e in
    let same : filter p (take (k + 1) init) ≡ filter p (take k init) = rw (filter_more p init k d h, f) (append-nil (filter p (take k init))) in
    record {
      items = rw (same, s.items, s.count, drop_more init k d h) (remove_end (filter p (take k init)) (get_or init k d) (drop (k + 1) init));
      count = rw same s.count;
    }

pub sieved_left : {X : Type 0} (p : X → Bool) (init ys : List X) (k at : ℕ) (d : X) → IsSieved p init ys k at → k < length init → p (get_or ys at d) ≡ true → IsSieved p init ys (k + 1) (at + 1)
sieved_left p init ys k at d s h e =
    let f : p (get_or init k d) ≡ true = ap p (sym (sieved_here p init ys k at d s h)) ∙ e in
    let same : filter p (take (k + 1) init) ≡ filter p (take k init) ++ get_or init k d ∷ [] = rw (filter_more p init k d h, f) refl in
    record {
      items = rw (same, s.items, drop_more init k d h) (sym (append_assoc (filter p (take k init)) (get_or init k d ∷ []) (drop (k + 1) init)));
      count = rw same (omega (arith, s.count, length-append (filter p (take k init)) (get_or init k d ∷ [])));
    }

pub filter_all : {X : Type 0} (p : X → Bool) (xs : List X) → All (λ x. p x ≡ true) xs → filter p xs ≡ xs
filter_all p [] h = refl
filter_all p (x ∷ xs) h = rw (All-head (λ x. p x ≡ true) x xs h) (ap (λ zs. x ∷ zs) (filter_all p xs (All-tail (λ x. p x ≡ true) x xs h)))

pub sieved_all : {X : Type 0} (p : X → Bool) (init ys : List X) (k at : ℕ) → IsSieved p init ys k at → All (λ x. p x ≡ true) (drop k init) → ys ≡ filter p init
sieved_all p init ys k at s h =
    s.items ∙ ap (λ zs. filter p (take k init) ++ zs) (sym (filter_all p (drop k init) h)) ∙ sym (filter-append p (take k init) (drop k init)) ∙ ap (filter p) (take-append-drop k init)

pub sieved_rest : {X : Type 0} (p : X → Bool) (init ys : List X) (k at : ℕ) → IsSieved p init ys k at → drop at ys ≡ drop k init
sieved_rest p init ys k at s = rw (s.items, s.count) (drop_at (filter p (take k init)) (drop k init) (length (filter p (take k init))) refl)

pub sieved_in : {X : Type 0} (p : X → Bool) (init ys : List X) (k at : ℕ) → IsSieved p init ys k at → k < length init → at < length ys
sieved_in p init ys k at s h =
    omega (arith, s.count, ap length s.items, length-append (filter p (take k init)) (drop k init), length-drop k init)

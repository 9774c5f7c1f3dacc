-- At one key a change of the stations is a change of that key's.
use Rattle.std.proofs.Common.{◌≡◌, Bool, true, false, cond, List, [], ◌∷◌, ◌++◌, map, refl, ap, ◌∙◌, arith, Option, Some, None}
use Rattle.std.specs.Prelude.{filter, not}
use Rattle.std.proofs.lemmas.Bool.Decides.{nat_tests}
use Rattle.jm_dest.specs.declared.key.Key.{Key}
use Rattle.jm_dest.specs.Keys.{key_eq}
use Rattle.jm_machine.specs.declared.state.Station.{Station}
use Rattle.jm_machine.specs.declared.state.Definition.{Definition}
use Rattle.jm_machine.specs.Machine.{station_of, at_key, without}
use Rattle.jm_machine.proofs.Keys.{key_same, key_refl}

abbrev pub mapped : (Station → Station) → Option Station → Option Station
mapped f None = None
mapped f (Some x) = Some (f x)

-- a key that is one is not the other
apart : (k l a : Key) → key_eq l k ≡ false → key_eq a k ≡ true → key_eq a l ≡ false
apart k l a h e = grind (arith, nat_tests, key_same a k, key_same a l, key_refl k)

-- a change of each station that keeps its key
pub station_of-map : (k : Key) (f : Station → Station) → ((x : Station) → (f x).key ≡ x.key) → (xs : List Station) → station_of k (map f xs) ≡ mapped f (station_of k xs)
station_of-map k f h [] = refl
station_of-map k f h (x ∷ xs) = grind (arith, nat_tests, h x, station_of-map k f h xs)

-- a change at the key, and at another
pub station_of-at : (k : Key) (f : Station → Station) → ((x : Station) → (f x).key ≡ x.key) → (xs : List Station) → station_of k (at_key k f xs) ≡ mapped f (station_of k xs)
station_of-at k f h [] = refl
station_of-at k f h (x ∷ xs) = grind (arith, nat_tests, h x, station_of-at k f h xs)

pub station_of_other-at : (k l : Key) (f : Station → Station) → ((x : Station) → (f x).key ≡ x.key) → key_eq l k ≡ false → (xs : List Station) → station_of k (at_key l f xs) ≡ station_of k xs
station_of_other-at k l f g h [] = refl
station_of_other-at k l f g h (x ∷ xs) = grind (arith, nat_tests, g x, apart k l x.key h, station_of_other-at k l f g h xs)

-- a new subscription of the key, and of another
abbrev pub emptied : Key → Definition → Station
emptied k d = record { key = k; definition = d; missed = 0; rows = [] }

pub station-put : (k : Key) (d : Definition) (xs : List Station) → station_of k (without k xs ++ emptied k d ∷ []) ≡ Some (emptied k d)
station-put k d [] = grind (arith, nat_tests, key_refl k)
station-put k d (x ∷ xs) = grind (arith, nat_tests, station-put k d xs)

pub other-put : (k l : Key) (d : Definition) → key_eq l k ≡ false → (xs : List Station) → station_of k (without l xs ++ emptied l d ∷ []) ≡ station_of k xs
other-put k l d h [] = grind (arith, nat_tests)
other-put k l d h (x ∷ xs) = grind (arith, nat_tests, apart k l x.key h, other-put k l d h xs)

-- a subscription that is deleted, and another
pub station-without : (k : Key) (xs : List Station) → station_of k (without k xs) ≡ None
station-without k [] = refl
station-without k (x ∷ xs) = grind (arith, nat_tests, station-without k xs)

pub other-without : (k l : Key) → key_eq l k ≡ false → (xs : List Station) → station_of k (without l xs) ≡ station_of k xs
other-without k l h [] = refl
other-without k l h (x ∷ xs) = grind (arith, nat_tests, apart k l x.key h, other-without k l h xs)

-- subscriptions that end
abbrev left_by : (Key → Bool) → List Station → List Station
left_by e xs = filter (λ x. not (e x.key)) xs

abbrev nothing : Option Station
nothing = None

none_left : (b : Bool) → nothing ≡ cond b nothing nothing
none_left true = refl
none_left false = refl

pub station-ended : (k : Key) (e : Key → Bool) (xs : List Station) → station_of k (left_by e xs) ≡ cond (e k) None (station_of k xs)
station-ended k e [] = none_left (e k)
station-ended k e (x ∷ xs) = go (key_eq x.key k) refl (station-ended k e xs)
  where
    here : (v : Bool) → e k ≡ v → key_eq x.key k ≡ true → station_of k (left_by e xs) ≡ cond (e k) None (station_of k xs) → station_of k (cond (not v) (x ∷ left_by e xs) (left_by e xs)) ≡ cond v None (Some x)
    here true f h r = r ∙ ap (λ (c : Bool). cond c None (station_of k xs)) f
    here false f h r = ap (λ (c : Bool). cond c (Some x) (station_of k (left_by e xs))) h

    there : (v : Bool) → key_eq x.key k ≡ false → station_of k (cond v (x ∷ left_by e xs) (left_by e xs)) ≡ station_of k (left_by e xs)
    there true h = ap (λ (c : Bool). cond c (Some x) (station_of k (left_by e xs))) h
    there false h = refl

    go : (b : Bool) → key_eq x.key k ≡ b → station_of k (left_by e xs) ≡ cond (e k) None (station_of k xs) → station_of k (left_by e (x ∷ xs)) ≡ cond (e k) None (cond b (Some x) (station_of k xs))
    go true h r = ap (λ (y : Key). station_of k (cond (not (e y)) (x ∷ left_by e xs) (left_by e xs))) (key_same x.key k h) ∙ here (e k) refl h r
    go false h r = there (not (e x.key)) h ∙ r

-- What a filter and a look-up do after a change, and how a function goes through a choice.
use Rattle.std.proofs.Common.{◌≡◌, Bool, true, false, cond, List, [], ◌∷◌, ◌++◌, map, refl, ap, arith, Option, Some, None}
use Rattle.std.specs.Prelude.{filter, find, is_none}
use Rattle.std.proofs.lemmas.Bool.Decides.{nat_tests}
use Rattle.jm_base.specs.declared.refusal.Refusal.{Refusal}
use Rattle.jm_machine.specs.Machine.{State, moved}

-- where the second test lets through all that the look-up asks for, it finds what it found
pub find_filter : {A : Type 0} (p q : A → Bool) → ((x : A) → p x ≡ true → q x ≡ true) → (xs : List A) → find p (filter q xs) ≡ find p xs
find_filter p q h [] = refl
find_filter p q h (x ∷ xs) = grind (arith, nat_tests, h x, find_filter p q h xs)

-- a change that keeps what the test asks for
pub filter_map_same : {A : Type 0} (p : A → Bool) (f : A → A) → ((x : A) → p (f x) ≡ p x) → (xs : List A) → filter p (map f xs) ≡ map f (filter p xs)
filter_map_same p f h [] = refl
filter_map_same p f h (x ∷ xs) = grind (arith, nat_tests, h x, filter_map_same p f h xs)

-- a change of others alone
pub filter_map_out : {A : Type 0} (p : A → Bool) (f : A → A) → ((x : A) → p (f x) ≡ p x) → ((x : A) → p x ≡ true → f x ≡ x) → (xs : List A) → filter p (map f xs) ≡ filter p xs
filter_map_out p f h g [] = refl
filter_map_out p f h g (x ∷ xs) = grind (arith, nat_tests, h x, g x, filter_map_out p f h g xs)

pub push_in : {A : Type 0} (p : A → Bool) (y : A) → p y ≡ true → (xs : List A) → filter p (xs ++ y ∷ []) ≡ filter p xs ++ y ∷ []
push_in p y h [] = grind (arith, nat_tests)
push_in p y h (x ∷ xs) = grind (arith, nat_tests, push_in p y h xs)

pub push_out : {A : Type 0} (p : A → Bool) (y : A) → p y ≡ false → (xs : List A) → filter p (xs ++ y ∷ []) ≡ filter p xs
push_out p y h [] = grind (arith, nat_tests)
push_out p y h (x ∷ xs) = grind (arith, nat_tests, push_out p y h xs)

pub append_assoc : {A : Type 0} (a b c : List A) → a ++ (b ++ c) ≡ (a ++ b) ++ c
append_assoc [] b c = refl
append_assoc (x ∷ a) b c = ap (λ t. x ∷ t) (append_assoc a b c)

-- through a choice
pub cond_map : {A B : Type 0} (f : A → B) (b : Bool) (x y : A) (u v : B) → (b ≡ true → f x ≡ u) → f y ≡ v → f (cond b x y) ≡ cond b u v
cond_map f true x y u v p q = p refl
cond_map f false x y u v p q = q

pub cond_one : {A B : Type 0} (f : A → B) (b : Bool) (x y : A) (u : B) → (b ≡ true → f x ≡ u) → f y ≡ u → f (cond b x y) ≡ u
cond_one f true x y u p q = p refl
cond_one f false x y u p q = q

pub into_cond : {B : Type 0} (b : Bool) (z u v : B) → (b ≡ true → z ≡ u) → (b ≡ false → z ≡ v) → z ≡ cond b u v
into_cond true z u v p q = p refl
into_cond false z u v p q = q refl

-- through a refusal
pub moved_map : {B : Type 0} (f : State → B) (o : Option Refusal) (x y : State) (u v : B) → (o ≡ None → f x ≡ u) → f y ≡ v → f (moved o x y) ≡ cond (is_none o) u v
moved_map f None x y u v p q = p refl
moved_map f (Some r) x y u v p q = q

pub moved_one : {B : Type 0} (f : State → B) (o : Option Refusal) (x y : State) (u : B) → (o ≡ None → f x ≡ u) → f y ≡ u → f (moved o x y) ≡ u
moved_one f None x y u p q = p refl
moved_one f (Some r) x y u p q = q

-- The parts of lists, item by item.
use Rattle.std.proofs.Common.{◌≡◌, ◌≢◌, ◌≤◌, ℕ, suc, ◌+◌, ◌<◌, ◌==◌, ◌⊎◌, inl, inr, Bool, true, false, List, [], ◌∷◌, ◌++◌, length, get_or, set, take, drop, reverse, refl, ap, sym, ◌∙◌, append_assoc, add-one, arith, eqb, drop-cons, if◌then◌else◌}
use Rattle.std.proofs.Math.ListN.{drop_of_length-le}
use Rattle.std.proofs.Math.Seq.{take-suc, take-append_seam}
use Rattle.std.proofs.lemmas.Bool.{eqb-true, eq-eqb}
use Rattle.std.proofs.lemmas.Bool.Decides.{eqb_tells}
use Rattle.std.proofs.lemmas.List.{get_or_read_under, get_or-set_same, get_or-set_other, append-nil, length-drop, reverse-append, take-append-drop}
use Rattle.jm_parted.specs.Parts.{count_of, of_owner}

-- an item of that owner is the first of its part
pub of_owner-own : {T : Type 0} (k o : ℕ) (owners : List ℕ) (item : T) (items : List T) → o ≡ k → of_owner k (o ∷ owners) (item ∷ items) ≡ item ∷ of_owner k owners items
of_owner-own k o owners item items is = rw (eq-eqb o k is) refl

-- an item of another is not in it
pub of_owner-other : {T : Type 0} (k o : ℕ) (owners : List ℕ) (item : T) (items : List T) → o ≢ k → of_owner k (o ∷ owners) (item ∷ items) ≡ of_owner k owners items
of_owner-other {T} k o owners item items not = go (o == k) refl
  where
    go : (b : Bool) → (o == k) ≡ b → (if b then item ∷ of_owner k owners items else of_owner k owners items) ≡ of_owner k owners items
    go true e = absurd (not (eqb-true o k e))
    go false e = refl

-- the part of a list with one item more
pub of_owner-push : {T : Type 0} (k o : ℕ) (owners : List ℕ) (items : List T) (item : T) → length owners ≡ length items
    → of_owner k (owners ++ o ∷ []) (items ++ item ∷ []) ≡ of_owner k owners items ++ of_owner k (o ∷ []) (item ∷ [])
of_owner-push k o [] [] item same = refl
of_owner-push k o [] (x ∷ items) item same = absurd (omega arith)
of_owner-push k o (p ∷ owners) [] item same = absurd (omega arith)
of_owner-push {T} k o (p ∷ owners) (x ∷ items) item same = go (p == k) (of_owner-push k o owners items item (omega arith))
  where
    go : (b : Bool) → of_owner k (owners ++ o ∷ []) (items ++ item ∷ []) ≡ of_owner k owners items ++ of_owner k (o ∷ []) (item ∷ [])
        → (if b then x ∷ of_owner k (owners ++ o ∷ []) (items ++ item ∷ []) else of_owner k (owners ++ o ∷ []) (items ++ item ∷ []))
        ≡ (if b then x ∷ of_owner k owners items else of_owner k owners items) ++ of_owner k (o ∷ []) (item ∷ [])
    go true more = ap (λ rest. x ∷ rest) more
    go false more = more

-- the owner of the first item has one at least
pub count_of-own : (k o : ℕ) (owners : List ℕ) → o ≡ k → count_of k (o ∷ owners) ≡ suc (count_of k owners)
count_of-own k o owners is = rw (eq-eqb o k is) refl

pub count_of-other : (k o : ℕ) (owners : List ℕ) → o ≢ k → count_of k (o ∷ owners) ≡ count_of k owners
count_of-other k o owners not = go (o == k) refl
  where
    go : (b : Bool) → (o == k) ≡ b → (if b then suc (count_of k owners) else count_of k owners) ≡ count_of k owners
    go true e = absurd (not (eqb-true o k e))
    go false e = refl

-- the next item of the owner's part, which lies from its end to its beginning, stands in the list
pub joined_own : {T : Type 0} (k o : ℕ) (owners : List ℕ) (items : List T) (item : T) (old new part : List T) → length owners ≡ length items → o ≡ k → old ≡ new ++ item ∷ []
    → of_owner k owners items ++ reverse old ≡ part → of_owner k (owners ++ o ∷ []) (items ++ item ∷ []) ++ reverse new ≡ part
joined_own k o owners items item old new part same own left is =
    ap (λ own_part. own_part ++ reverse new) (of_owner-push k o owners items item same ∙ ap (λ more. of_owner k owners items ++ more) (of_owner-own k o [] item [] own))
    ∙ append_assoc (of_owner k owners items) (item ∷ []) (reverse new)
    ∙ ap (λ rest. of_owner k owners items ++ rest) (sym (ap reverse left ∙ reverse-append new (item ∷ [])))
    ∙ is

-- the parts of others are as before
pub joined_other : {T : Type 0} (k o : ℕ) (owners : List ℕ) (items : List T) (item : T) (old part : List T) → length owners ≡ length items → o ≢ k
    → of_owner k owners items ++ reverse old ≡ part → of_owner k (owners ++ o ∷ []) (items ++ item ∷ []) ++ reverse old ≡ part
joined_other k o owners items item old part same other is =
    ap (λ own_part. own_part ++ reverse old) (of_owner-push k o owners items item same ∙ ap (λ more. of_owner k owners items ++ more) (of_owner-other k o [] item [] other))
    ∙ append_assoc (of_owner k owners items) [] (reverse old) ∙ is

-- the first of the other items goes to the end of its owner's part
pub parted_own : {T : Type 0} (k o : ℕ) (owners : List ℕ) (item : T) (items old new : List T) (all : List T) → o ≡ k → new ≡ old ++ item ∷ []
    → old ++ of_owner k (o ∷ owners) (item ∷ items) ≡ all → new ++ of_owner k owners items ≡ all
parted_own k o owners item items old new all own pushed is =
    ap (λ part. part ++ of_owner k owners items) pushed ∙ append_assoc old (item ∷ []) (of_owner k owners items)
    ∙ ap (λ rest. old ++ rest) (sym (of_owner-own k o owners item items own)) ∙ is

-- the parts of others are as before
pub parted_other : {T : Type 0} (k o : ℕ) (owners : List ℕ) (item : T) (items old all : List T) → o ≢ k
    → old ++ of_owner k (o ∷ owners) (item ∷ items) ≡ all → old ++ of_owner k owners items ≡ all
parted_other k o owners item items old all other is = ap (λ rest. old ++ rest) (sym (of_owner-other k o owners item items other)) ∙ is

-- what is left at an index: the owner that stands there, and the others
pub drop-owner : (owners : List ℕ) (i : ℕ) → i < length owners → drop i owners ≡ get_or owners i 0 ∷ drop (i + 1) owners
drop-owner owners i less = drop-cons owners i 0 less ∙ ap (λ n. get_or owners i 0 ∷ drop n owners) (sym (add-one i))

-- what stands before the next index
pub take-owner : (owners : List ℕ) (i : ℕ) → i < length owners → take (i + 1) owners ≡ take i owners ++ get_or owners i 0 ∷ []
take-owner owners i less = ap (λ n. take n owners) (add-one i) ∙ take-suc owners i 0 less

-- where items are left, owners are
pub owner_left : {T : Type 0} (owners : List ℕ) (i : ℕ) (item : T) (items more : List T) → length (drop i owners) ≡ length more → more ≡ item ∷ items → i < length owners
owner_left owners i item items more left is = omega (arith, left, ap length is, length-drop i owners)

-- one item more is in the part of its owner
pub parted_step : {T V : Type 0} (seen : V → List T) (k o count : ℕ) (owners : List ℕ) (item : T) (items : List T) (parts : List V) (old new d : V) (all : List T)
    → length parts ≡ count → o < count → old ≡ get_or parts o old → seen new ≡ seen old ++ item ∷ []
    → seen (get_or parts k d) ++ of_owner k (o ∷ owners) (item ∷ items) ≡ all → seen (get_or (set parts o new) k d) ++ of_owner k owners items ≡ all
parted_step seen k o count owners item items parts old new d all len less read pushed is = go (eqb_tells o k)
  where
    go : ((eqb o k ≡ true) × (o ≡ k)) ⊎ ((eqb o k ≡ false) × (o ≢ k)) → seen (get_or (set parts o new) k d) ++ of_owner k owners items ≡ all
    go (inl h) =
        let there : get_or (set parts o new) k d ≡ new = ap (λ j. get_or (set parts o new) j d) (sym h.1) ∙ get_or-set_same parts o new d (omega (arith, len, less)) in
        let was : old ≡ get_or parts k d = get_or_read_under parts o count old d read less (sym len) ∙ ap (λ j. get_or parts j d) h.1 in
        ap (λ v. seen v ++ of_owner k owners items) there
        ∙ parted_own k o owners item items (seen old) (seen new) all h.1 pushed (ap (λ v. seen v ++ of_owner k (o ∷ owners) (item ∷ items)) was ∙ is)
    go (inr h) =
        let there : get_or (set parts o new) k d ≡ get_or parts k d = get_or-set_other parts o k new d (λ e. h.1 (sym e)) in
        ap (λ v. seen v ++ of_owner k owners items) there ∙ parted_other k o owners item items (seen (get_or parts k d)) all h.1 is

-- one item more is in the list
pub joined_step : {T V : Type 0} (seen : V → List T) (k o count : ℕ) (owners : List ℕ) (items : List T) (item : T) (parts : List V) (old new d : V) (part : List T)
    → length owners ≡ length items → length parts ≡ count → o < count → old ≡ get_or parts o old → seen old ≡ seen new ++ item ∷ []
    → of_owner k owners items ++ reverse (seen (get_or parts k d)) ≡ part
    → of_owner k (owners ++ o ∷ []) (items ++ item ∷ []) ++ reverse (seen (get_or (set parts o new) k d)) ≡ part
joined_step seen k o count owners items item parts old new d part same len less read popped is = go (eqb_tells o k)
  where
    go : ((eqb o k ≡ true) × (o ≡ k)) ⊎ ((eqb o k ≡ false) × (o ≢ k))
        → of_owner k (owners ++ o ∷ []) (items ++ item ∷ []) ++ reverse (seen (get_or (set parts o new) k d)) ≡ part
    go (inl h) =
        let there : get_or (set parts o new) k d ≡ new = ap (λ j. get_or (set parts o new) j d) (sym h.1) ∙ get_or-set_same parts o new d (omega (arith, len, less)) in
        let was : old ≡ get_or parts k d = get_or_read_under parts o count old d read less (sym len) ∙ ap (λ j. get_or parts j d) h.1 in
        ap (λ v. of_owner k (owners ++ o ∷ []) (items ++ item ∷ []) ++ reverse (seen v)) there
        ∙ joined_own k o owners items item (seen old) (seen new) part same h.1 popped (ap (λ v. of_owner k owners items ++ reverse (seen v)) was ∙ is)
    go (inr h) =
        let there : get_or (set parts o new) k d ≡ get_or parts k d = get_or-set_other parts o k new d (λ e. h.1 (sym e)) in
        ap (λ v. of_owner k (owners ++ o ∷ []) (items ++ item ∷ []) ++ reverse (seen v)) there
        ∙ joined_other k o owners items item (seen (get_or parts k d)) part same h.1 is

-- and one item less is left of its owner's part
pub left_step : {V : Type 0} (len : V → ℕ) (k o count : ℕ) (owners : List ℕ) (parts : List V) (old new d : V)
    → length parts ≡ count → o < count → old ≡ get_or parts o old → len new + 1 ≡ len old
    → len (get_or parts k d) ≡ count_of k (o ∷ owners) → len (get_or (set parts o new) k d) ≡ count_of k owners
left_step len k o count owners parts old new d lens less read popped is = go (eqb_tells o k)
  where
    go : ((eqb o k ≡ true) × (o ≡ k)) ⊎ ((eqb o k ≡ false) × (o ≢ k)) → len (get_or (set parts o new) k d) ≡ count_of k owners
    go (inl h) =
        let there : get_or (set parts o new) k d ≡ new = ap (λ j. get_or (set parts o new) j d) (sym h.1) ∙ get_or-set_same parts o new d (omega (arith, lens, less)) in
        let was : old ≡ get_or parts k d = get_or_read_under parts o count old d read less (sym lens) ∙ ap (λ j. get_or parts j d) h.1 in
        omega (arith, ap len there, ap len was, popped, is, count_of-own k o owners h.1)
    go (inr h) =
        let there : get_or (set parts o new) k d ≡ get_or parts k d = get_or-set_other parts o k new d (λ e. h.1 (sym e)) in
        ap len there ∙ is ∙ count_of-other k o owners h.1

-- all of a list that was handed out as a slice and came back
pub whole : {V : Type 0} (n : ℕ) (front rest : List V) → length front ≡ n → take n (front ++ rest) ≡ front
whole n front rest is = ap (λ m. take m (front ++ rest)) (sym is) ∙ take-append_seam front rest

take_over : {T : Type 0} (i : ℕ) (xs : List T) → length xs ≤ i → take i xs ≡ xs
take_over i xs all = sym (append-nil (take i xs)) ∙ ap (λ rest. take i xs ++ rest) (sym (drop_of_length-le xs all)) ∙ take-append-drop i xs

-- at the end nothing is left of any part
pub joined_all : {T : Type 0} (k i : ℕ) (owners : List ℕ) (items rest part : List T) → length owners ≤ i → length rest ≡ count_of k (drop i owners)
    → of_owner k (take i owners) items ++ reverse rest ≡ part → of_owner k owners items ≡ part
joined_all k i owners items [] part all none is =
    sym (append-nil (of_owner k owners items)) ∙ ap (λ os. of_owner k os items ++ []) (sym (take_over i owners all)) ∙ is
joined_all k i owners items (x ∷ rest) part all none is = absurd (omega (arith, none, ap (count_of k) (drop_of_length-le owners all)))

-- Keys and values at the same indexes, as one list of entries.
use Rattle.std.proofs.Common.{◌≡◌, ◌<◌, ℕ, Bool, true, false, cond, List, [], ◌∷◌, ◌++◌, length, get_or, Option, Some, None, arith, refl, sym, ◌∙◌, ap, subst, suc, zero, is_some, IfSome}
use Rattle.std.specs.Cmp.{IsEquivalence}
use Rattle.std.specs.List.{IsDistinct, remove, slice_get, zip}
use Rattle.std.specs.Map.{keys_of, lookup, remove_entry, set_value, values_of}
use Rattle.std.proofs.lemmas.List.Quantifiers.{position-Some}
use Rattle.std.proofs.lemmas.Map.{lookup-remove_entry, lookup-set_value}
use Rattle.std.proofs.lemmas.Option.{slice_get-get_or}
use Rattle.std.proofs.lemmas.List.{length-map}
use Rattle.jm_indexed.specs.Entries.{Entries, Updates, WritesThrough, set_value_at, with_value_at}
use Rattle.jm_indexed.specs.Order.{index_in}
use Rattle.jm_indexed.proofs.Lists.{position_at, refuted}
use Rattle.std.proofs.lemmas.Map.Keys.{apart_from_distinct}
use Rattle.jm_indexed.proofs.Columns.{found, inserted, not_found, turned}

module _ {K V : Type 0} where
  pub length_values : (es : List (K × V)) → length (values_of es) ≡ length (keys_of es)
  length_values [] = refl
  length_values (e ∷ es) = ap suc (length_values es)

  pub entries_again : (es : List (K × V)) → zip (keys_of es) (values_of es) ≡ es
  entries_again [] = refl
  entries_again (e ∷ es) = ap (λ l. e ∷ l) (entries_again es)

  -- one more entry, as two columns
  push_again : (es : List (K × V)) (k : K) (v : V) → zip (keys_of es ++ k ∷ []) (values_of es ++ v ∷ []) ≡ es ++ (k, v) ∷ []
  push_again [] k v = refl
  push_again (e ∷ es) k v = ap (λ l. e ∷ l) (push_again es k v)

  -- the keys of fewer entries
  pub keys_of-remove : (es : List (K × V)) (i : ℕ) → keys_of (remove es i) ≡ remove (keys_of es) i
  keys_of-remove [] zero = refl
  keys_of-remove [] (suc i) = refl
  keys_of-remove (e ∷ es) zero = refl
  keys_of-remove (e ∷ es) (suc i) = ap (λ ks. e.0 ∷ ks) (keys_of-remove es i)

  -- where no key passes, none is taken out
  pub absent_stays : (test : K → Bool) (es : List (K × V)) → lookup test es ≡ None → remove_entry test es ≡ es
  absent_stays test [] none = refl
  absent_stays test (e ∷ es) none = by (test e.0) none (absent_stays test es)
    where
      by : (b : Bool) → cond b (Some e.1) (lookup test es) ≡ None → (lookup test es ≡ None → remove_entry test es ≡ es) → cond b es (e ∷ remove_entry test es) ≡ e ∷ es
      by true h rest = cc
      by false h rest = ap (λ l. e ∷ l) (rest h)

  -- and none has another value
  pub absent_unset : (test : K → Bool) (es : List (K × V)) (v : V) → lookup test es ≡ None → set_value test es v ≡ es
  absent_unset test [] v none = refl
  absent_unset test (e ∷ es) v none = by (test e.0) none (absent_unset test es v)
    where
      by : (b : Bool) → cond b (Some e.1) (lookup test es) ≡ None → (lookup test es ≡ None → set_value test es v ≡ es) → cond b ((e.0, v) ∷ es) (e ∷ set_value test es v) ≡ e ∷ es
      by true h rest = cc
      by false h rest = ap (λ l. e ∷ l) (rest h)

-- what is not there is nothing
pub nothing : {X : Type 0} (o : Option X) → is_some o ≡ false → o ≡ None
nothing None h = refl
nothing (Some x) h = cc

-- a test by a key passes a key and those equal to it alone
one : {K : Type 0} {eq : K → K → Bool} (same : IsEquivalence eq) (key x y : K) → eq key x ≡ true → eq key y ≡ eq x y
one same key x y e = same.congr key x y e

module _ {K : Type 0} {eq : K → K → Bool} (same : IsEquivalence eq) where
  -- what is equal to the key at some index is the key there
  pub found_near : (key : K) (ks : List K) (guess : ℕ) → IsDistinct eq ks → guess < length ks → eq (get_or ks guess key) key ≡ true → index_in eq ks key ≡ Some guess
  found_near key ks guess once inside hit =
      position_at (λ k. eq k key) ks guess key inside
      (λ k l. refuted _ (λ other.
      let apart = apart_from_distinct eq ks k guess key once l inside in
      let alike : eq (get_or ks k key) (get_or ks guess key) ≡ eq key (get_or ks guess key) = same.congr (get_or ks k key) key (get_or ks guess key) other in
      let back = turned same (get_or ks guess key) key true hit in
      cc))
      hit

module _ {K V : Type 0} {eq : K → K → Bool} (same : IsEquivalence eq) where
  module _ (key : K) where
    -- what is equal to the key finds what the key finds
    found_by : (q : K) (es : List (K × V)) → eq key q ≡ true → lookup (eq key) es ≡ lookup (eq q) es
    found_by q [] e = refl
    found_by q (x ∷ es) e = λ i. cond (same.congr key q x.0 e i) (Some x.1) (found_by q es e i)

    module _ (keys : List K) (values : List V) (even : length values ≡ length keys) where
      -- a key that stands somewhere is found
      pub found_is : (r : Option ℕ) → r ≡ index_in eq keys key → is_some r ≡ is_some (lookup (eq key) (zip keys values))
      found_is None is = sym (ap is_some (not_found same key keys values (sym is)))
      found_is (Some i) is = by values even
        where
          by : (vs : List V) → length vs ≡ length keys → true ≡ is_some (lookup (eq key) (zip keys vs))
          by [] long = absurd (let at = position-Some (λ k. eq k key) keys i key (sym is) in let l = at.0 in omega (arith, l, long))
          by (v ∷ vs) long = sym (ap is_some (found same key keys (v ∷ vs) i v (sym long) (sym is)))

      -- with the value that stands at the same index
      pub value_is : (i : ℕ) → index_in eq keys key ≡ Some i → slice_get values i ≡ lookup (eq key) (zip keys values)
      value_is i is = by values even
        where
          by : (vs : List V) → length vs ≡ length keys → slice_get vs i ≡ lookup (eq key) (zip keys vs)
          by [] long = absurd (let at = position-Some (λ k. eq k key) keys i key is in let l = at.0 in omega (arith, l, long))
          by (v ∷ vs) long =
              let at = position-Some (λ k. eq k key) keys i key is in
              let l = at.0 in
              slice_get-get_or (v ∷ vs) i v (omega (arith, l, long)) ∙ sym (found same key keys (v ∷ vs) i v (sym long) is)

      pub value_if : (r : Option ℕ) → r ≡ index_in eq keys key → IfSome r (λ i. slice_get values i ≡ lookup (eq key) (zip keys values))
      value_if None is = tt
      value_if (Some i) is = value_is i (sym is)

      -- a key that is not found stands nowhere
      pub absent_is : lookup (eq key) (zip keys values) ≡ None → index_in eq keys key ≡ None
      absent_is none = by (index_in eq keys key) (found_is (index_in eq keys key) refl)
        where
          by : (r : Option ℕ) → is_some r ≡ is_some (lookup (eq key) (zip keys values)) → r ≡ None
          by None h = refl
          by (Some i) h = absurd (let x : is_some (lookup (eq key) (zip keys values)) ≡ false = ap is_some none in cc)

    -- nothing changes where the key is not there
    pub absent_updates : (es : List (K × V)) → lookup (eq key) es ≡ None → Updates eq es es key None
    absent_updates es none q = by (eq key q) refl
      where
        by : (b : Bool) → eq key q ≡ b → lookup (eq q) es ≡ cond b None (lookup (eq q) es)
        by true e = sym (found_by q es e) ∙ none
        by false e = refl

    -- the entry of the key goes
    entry_removed : (es : List (K × V)) (i : ℕ) → i < length (keys_of es) → eq (get_or (keys_of es) i key) key ≡ true → ((k : ℕ) → k < i → eq (get_or (keys_of es) k key) key ≡ false) → remove es i ≡ remove_entry (eq key) es
    entry_removed [] i l at before = absurd (omega (arith, l))
    entry_removed (e ∷ es) zero l at before = sym (ap (λ b. cond b es (e ∷ remove_entry (eq key) es)) (turned same e.0 key true at))
    entry_removed (e ∷ es) (suc i) l at before =
        ap (λ xs. e ∷ xs) (entry_removed es i (omega (arith, l)) at (λ j n. before (suc j) (omega (arith, n))))
        ∙ sym (ap (λ b. cond b es (e ∷ remove_entry (eq key) es)) (turned same e.0 key false (before 0 (omega arith))))

    pub removed_is : (es : List (K × V)) (i : ℕ) → index_in eq (keys_of es) key ≡ Some i → remove es i ≡ remove_entry (eq key) es
    removed_is es i is = let at = position-Some (λ k. eq k key) (keys_of es) i key is in entry_removed es i at.0 at.1 at.2

    -- what is found of entries is found of their keys
    pub entries_found : (es : List (K × V)) (r : Option ℕ) → r ≡ index_in eq (keys_of es) key → is_some r ≡ is_some (lookup (eq key) es)
    entries_found es r is = found_is (keys_of es) (values_of es) (length_values es) r is ∙ ap (λ l. is_some (lookup (eq key) l)) (entries_again es)

    pub entries_value : (es : List (K × V)) (r : Option ℕ) → r ≡ index_in eq (keys_of es) key → IfSome r (λ i. slice_get (values_of es) i ≡ lookup (eq key) es)
    entries_value es r is = subst (λ l. IfSome r (λ i. slice_get (values_of es) i ≡ lookup (eq key) l)) (entries_again es) (value_if (keys_of es) (values_of es) (length_values es) r is)

    pub entries_within : (es : List (K × V)) (r : Option ℕ) → r ≡ index_in eq (keys_of es) key → IfSome r (λ i. i < length es)
    entries_within es None is = tt
    entries_within es (Some i) is = let at = position-Some (λ k. eq k key) (keys_of es) i key (sym is) in omega (arith, at.0, length-map es (λ e. e.0))

    pub entries_absent : (es : List (K × V)) → lookup (eq key) es ≡ None → index_in eq (keys_of es) key ≡ None
    entries_absent es none = absent_is (keys_of es) (values_of es) (length_values es) (ap (lookup (eq key)) (entries_again es) ∙ none)

    pub entries_none : (es : List (K × V)) → index_in eq (keys_of es) key ≡ None → lookup (eq key) es ≡ None
    entries_none es none = sym (ap (lookup (eq key)) (entries_again es)) ∙ not_found same key (keys_of es) (values_of es) none

    -- a key that is new comes behind all others, with its value
    pub entries_inserted : (es : List (K × V)) (value : V) → index_in eq (keys_of es) key ≡ None → Updates eq es (es ++ (key, value) ∷ []) key (Some value)
    entries_inserted es value none q =
        ap (lookup (eq q)) (sym (push_again es key value)) ∙ inserted same key value (keys_of es) (values_of es) (sym (length_values es)) none q
        ∙ ap (λ l. cond (eq key q) (Some value) (lookup (eq q) l)) (entries_again es)

    pub removed_updates : (es : List (K × V)) → IsDistinct eq (keys_of es) → Updates eq es (remove_entry (eq key) es) key None
    removed_updates es once q = lookup-remove_entry same (eq key) (one same key) q es once

    -- another value comes to the key
    value_written : (es : List (K × V)) (i : ℕ) (v : V) → i < length (keys_of es) → eq (get_or (keys_of es) i key) key ≡ true → ((k : ℕ) → k < i → eq (get_or (keys_of es) k key) key ≡ false) →
        set_value_at es i v ≡ set_value (eq key) es v
    value_written [] i v l at before = absurd (omega (arith, l))
    value_written (e ∷ es) zero v l at before = sym (ap (λ b. cond b ((e.0, v) ∷ es) (e ∷ set_value (eq key) es v)) (turned same e.0 key true at))
    value_written (e ∷ es) (suc i) v l at before =
        ap (λ xs. e ∷ xs) (value_written es i v (omega (arith, l)) at (λ j n. before (suc j) (omega (arith, n))))
        ∙ sym (ap (λ b. cond b ((e.0, v) ∷ es) (e ∷ set_value (eq key) es v)) (turned same e.0 key false (before 0 (omega arith))))

    pub writes : (m : Entries K V) (i : ℕ) (v : V) → index_in eq (keys_of m.entries) key ≡ Some i → WritesThrough eq key m v (with_value_at m i v)
    writes m i v is =
        let at = position-Some (λ k. eq k key) (keys_of m.entries) i key is in
        let to : set_value_at m.entries i v ≡ set_value (eq key) m.entries v = value_written m.entries i v at.0 at.1 at.2 in
        record {
          entries = to;
          spare = refl;
          updates = λ some q. ap (lookup (eq q)) to ∙ lookup-set_value same (eq key) (one same key) q v m.entries some;
        }

    pub writes_nothing : (m : Entries K V) (v : V) → lookup (eq key) m.entries ≡ None → WritesThrough eq key m v m
    writes_nothing m v none = record {
      entries = sym (absent_unset (eq key) m.entries v none);
      spare = refl;
      updates = λ some. absurd (let x : is_some (lookup (eq key) m.entries) ≡ false = ap is_some none in let y : is_some (lookup (eq key) m.entries) ≡ true = some in cc);
    }

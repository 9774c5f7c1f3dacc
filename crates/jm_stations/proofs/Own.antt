-- The keys of consumers' own subscriptions, which go alone where no key is shared.
use Rattle.std.proofs.Common.{◌≡◌, ◌<◌, ℕ, zero, suc, List, [], ◌∷◌, length, get_or, Bool, true, false, not, cond, ◌||◌, refl, ap, subst, sym, ◌∙◌, arith}
use Rattle.std.specs.List.{All, filter, list_any, remove}
use Rattle.std.specs.Ordering.{is_eq}
use Rattle.std.specs.declared.cmp.Ordering.TheVariants.{Equal}
use Rattle.std.proofs.lemmas.List.Elements.{All-head, All-tail}
use Rattle.jm_dest.specs.declared.key.Key.{Key}
use Rattle.jm_dest.specs.declared.key.Key.TheVariants.{Queue, Own, SharedOwn, Durable}
use Rattle.jm_machine.specs.Attached.{Counts, ended}
use Rattle.jm_machine.specs.Sections.{is_own_of, key_place}
use Rattle.jm_machine.specs.declared.consumers.Consumers.{Consumers}
use Rattle.jm_machine.proofs.Sections.{place_is}
use Rattle.jm_stations.specs.Backlogs.{Backlog, kept_under}
use Rattle.jm_stations.specs.Stations.{is_shared}

module _ (which : Consumers) where
  abbrev stays : Key → Bool
  stays k = not (is_own_of which k)

  -- a key in the section is an own one
  own_there : (k : Key) → key_place which k ≡ Equal → is_own_of which k ≡ true
  own_there k at = sym (place_is which k) ∙ ap is_eq at

  -- an own key that is there may be taken out first
  key_taken : (keys : List Key) (at : ℕ) → at < length keys → ((d : Key) → key_place which (get_or keys at d) ≡ Equal) → filter stays (remove keys at) ≡ filter stays keys
  key_taken [] at within own = absurd (omega (arith, within))
  key_taken (k ∷ keys) zero within own = rw (own_there k (own k)) refl
  key_taken (k ∷ keys) (suc at) within own = let rest = key_taken keys at (omega (arith, within)) own in λ i. cond (stays k) (k ∷ rest i) (rest i)

  -- and what is held under it
  list_taken : (keys : List Key) (list : List Backlog) (at : ℕ) → length keys ≡ length list → at < length keys → ((d : Key) → key_place which (get_or keys at d) ≡ Equal) →
      kept_under stays (remove keys at) (remove list at) ≡ kept_under stays keys list
  list_taken [] list at number within own = absurd (omega (arith, within))
  list_taken (k ∷ keys) [] at number within own = absurd (omega (arith, number))
  list_taken (k ∷ keys) (b ∷ list) zero number within own = rw (own_there k (own k)) refl
  list_taken (k ∷ keys) (b ∷ list) (suc at) number within own =
      let rest = list_taken keys list at (omega (arith, number)) (omega (arith, within)) own in λ i. cond (stays k) (b ∷ rest i) (rest i)

  -- where no own key is there all stay
  no_own : (keys : List Key) → list_any (λ k. is_eq (key_place which k)) keys ≡ false → list_any (is_own_of which) keys ≡ false
  no_own keys none = sym (λ i. list_any (λ k. place_is which k i) keys) ∙ none

  all_stay : (keys : List Key) → list_any (is_own_of which) keys ≡ false → filter stays keys ≡ keys
  all_stay [] none = refl
  all_stay (k ∷ keys) none = by (is_own_of which k) refl none (all_stay keys)
    where
      by : (b : Bool) → is_own_of which k ≡ b → (b || list_any (is_own_of which) keys) ≡ false → (list_any (is_own_of which) keys ≡ false → filter stays keys ≡ keys) → filter stays (k ∷ keys) ≡ k ∷ keys
      by true own h rest = cc
      by false other h rest = rw other (ap (λ ks. k ∷ ks) (rest h))

  no_key_goes : (keys : List Key) → list_any (λ k. is_eq (key_place which k)) keys ≡ false → filter stays keys ≡ keys
  no_key_goes keys none = all_stay keys (no_own keys none)

  all_held : (keys : List Key) (list : List Backlog) → length keys ≡ length list → list_any (is_own_of which) keys ≡ false → kept_under stays keys list ≡ list
  all_held [] [] number none = refl
  all_held [] (b ∷ list) number none = absurd (omega (arith, number))
  all_held (k ∷ keys) [] number none = refl
  all_held (k ∷ keys) (b ∷ list) number none = by (is_own_of which k) refl none (all_held keys list (omega (arith, number)))
    where
      by : (c : Bool) → is_own_of which k ≡ c → (c || list_any (is_own_of which) keys) ≡ false → (list_any (is_own_of which) keys ≡ false → kept_under stays keys list ≡ list) → kept_under stays (k ∷ keys) (b ∷ list) ≡ b ∷ list
      by true own h rest = cc
      by false other h rest = rw other (ap (λ bs. b ∷ bs) (rest h))

  no_list_goes : (keys : List Key) (list : List Backlog) → length keys ≡ length list → list_any (λ k. is_eq (key_place which k)) keys ≡ false → kept_under stays keys list ≡ list
  no_list_goes keys list number none = all_held keys list number (no_own keys none)

  -- the same of keys and lists that a view shows
  pub keys_after : (keys shown after : List Key) (at : ℕ) → keys ≡ shown → after ≡ remove shown at → at < length keys → ((d : Key) → key_place which (get_or keys at d) ≡ Equal) → filter stays after ≡ filter stays shown
  keys_after keys shown after at same gone within own =
      ap (filter stays) gone ∙ subst (λ (ks : List Key). filter stays (remove ks at) ≡ filter stays ks) same (key_taken keys at within own)

  pub lists_after : (keys shown after : List Key) (lists list left : List Backlog) (at : ℕ) → keys ≡ shown → lists ≡ list → after ≡ remove shown at → left ≡ remove list at → length keys ≡ length lists → at < length keys →
      ((d : Key) → key_place which (get_or keys at d) ≡ Equal) → kept_under stays after left ≡ kept_under stays shown list
  lists_after keys shown after lists list left at same alike gone taken number within own =
      (λ i. kept_under stays (gone i) (taken i)) ∙ (λ i. kept_under stays (remove (sym same i) at) (remove (sym alike i) at)) ∙ list_taken keys lists at number within own ∙ (λ i. kept_under stays (same i) (alike i))

  pub no_shown_goes : (keys shown : List Key) → keys ≡ shown → list_any (λ k. is_eq (key_place which k)) keys ≡ false → filter stays shown ≡ shown
  no_shown_goes keys shown same none = subst (λ (ks : List Key). filter stays ks ≡ ks) same (no_key_goes keys none)

  pub no_list_shown_goes : (keys shown : List Key) (lists list : List Backlog) → keys ≡ shown → lists ≡ list → length keys ≡ length lists → list_any (λ k. is_eq (key_place which k)) keys ≡ false → kept_under stays shown list ≡ list
  no_list_shown_goes keys shown lists list same alike number none =
      (λ i. kept_under stays (sym same i) (sym alike i)) ∙ no_list_goes keys lists number none ∙ alike

  -- where no key is shared, what ends with these consumers is their own
  module _ (left : Counts) where
    ended_own : (k : Key) → is_shared k ≡ false → ended which left k ≡ is_own_of which k
    ended_own (Queue name) h = refl
    ended_own (Own t d) h = refl
    ended_own (SharedOwn client name) h = cc
    ended_own (Durable client name) h = refl

    pub own_ended : (keys : List Key) → All (λ k. is_shared k ≡ false) keys → filter (λ k. not (ended which left k)) keys ≡ filter stays keys
    own_ended [] h = refl
    own_ended (k ∷ keys) h =
        let same = ended_own k (All-head (λ k. is_shared k ≡ false) k keys h) in
        let rest = own_ended keys (All-tail (λ k. is_shared k ≡ false) k keys h) in
        λ i. cond (not (same i)) (k ∷ rest i) (rest i)

    pub own_under : (keys : List Key) (list : List Backlog) → All (λ k. is_shared k ≡ false) keys → kept_under (λ k. not (ended which left k)) keys list ≡ kept_under stays keys list
    own_under [] list h = refl
    own_under (k ∷ keys) [] h = refl
    own_under (k ∷ keys) (b ∷ list) h =
        let same = ended_own k (All-head (λ k. is_shared k ≡ false) k keys h) in
        let rest = own_under keys list (All-tail (λ k. is_shared k ≡ false) k keys h) in
        λ i. cond (not (same i)) (b ∷ rest i) (rest i)

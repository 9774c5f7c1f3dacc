-- A subscription ends by the consumers that are left exactly where it ends by the consumers before.
use Rattle.std.proofs.Common.{◌≡◌, ◌==◌, ◌∙◌, ℕ, Bool, true, false, cond, List, [], ◌∷◌, map, length, refl, ap, sym, subst, arith, Some}
use Rattle.std.specs.Prelude.{◌&&◌, ◌||◌, filter, not}
use Rattle.std.proofs.lemmas.Bool.Decides.{nat_tests}
use Rattle.jm_dest.specs.declared.session.SessionId.{SessionId}
use Rattle.jm_dest.specs.declared.key.Key.{Key}
use Rattle.jm_dest.specs.declared.key.Key.TheVariants.{Own, SharedOwn, Durable, Queue as OfQueue}
use Rattle.jm_dest.specs.Keys.{key_eq}
use Rattle.jm_machine.specs.declared.consumers.Consumers.{Consumers}
use Rattle.jm_machine.specs.declared.state.Consumer.{Consumer}
use Rattle.jm_machine.specs.Attached.{AllOwn, AreCounted, Counts, IsOfSubscription, IsOwn, active_at, ended, is_at}
use Rattle.jm_machine.specs.Machine.{are_meant, closed_consumer, consumer_of, ends, has_number, is_left, is_one_of, key_at, shut}
use Rattle.jm_machine.proofs.Keys.{key_refl, key_same}

-- a consumer whose key is own has the numbers that the key says
own_passes : (p : SessionId → ℕ → Bool) (s : SessionId) (c : ℕ) (x : Consumer) → IsOwn x.session x.id x.key → x.key ≡ Own s c → p x.session x.id ≡ p s c
own_passes p s c x k e =
    let same : Own s c ≡ Own x.session x.id = subst (IsOwn x.session x.id) e k in
    let session : s ≡ x.session = cc in
    let number : c ≡ x.id = cc in
    λ i. p (sym session i) (sym number i)

absorbed : (q r : Bool) → (q || r) ≡ q → (q || (q || r)) ≡ q
absorbed true r h = refl
absorbed false r h = h

twice : (q : Bool) → (q || q) ≡ q
twice true = refl
twice false = refl

none_more : (q : Bool) → (q || false) ≡ q
none_more true = refl
none_more false = refl

-- among consumers of a consumer's own key is none that passes where that one does not
no_more : (p : SessionId → ℕ → Bool) (s : SessionId) (c : ℕ) (xs : List Consumer) → AllOwn xs → (p s c || is_one_of p xs (Own s c)) ≡ p s c
no_more p s c [] k = none_more (p s c)
no_more p s c (x ∷ xs) k = go (key_eq x.key (Own s c)) refl (no_more p s c xs k.1)
  where
    go : (b : Bool) → key_eq x.key (Own s c) ≡ b → (p s c || is_one_of p xs (Own s c)) ≡ p s c → (p s c || ((b && p x.session x.id) || is_one_of p xs (Own s c))) ≡ p s c
    go true e r = ap (λ q. p s c || (q || is_one_of p xs (Own s c))) (own_passes p s c x k.0 (key_same x.key (Own s c) e)) ∙ absorbed (p s c) (is_one_of p xs (Own s c)) r
    go false e r = r

-- the own key of a consumer is among those of consumers that pass exactly where the consumer passes
one_of : (p : SessionId → ℕ → Bool) (s : SessionId) (c : ℕ) (xs : List Consumer) → AllOwn xs → key_at (consumer_of xs s c) ≡ Some (Own s c) → is_one_of p xs (Own s c) ≡ p s c
one_of p s c [] k h = cc
one_of p s c (x ∷ xs) k h = go (has_number s c x) h (one_of p s c xs k.1)
  where
    own : x.key ≡ Own s c → ((key_eq x.key (Own s c) && p x.session x.id) || is_one_of p xs (Own s c)) ≡ p s c
    own e =
        ap (λ y. (key_eq y (Own s c) && p x.session x.id) || is_one_of p xs (Own s c)) e
        ∙ ap (λ b. (b && p x.session x.id) || is_one_of p xs (Own s c)) (key_refl (Own s c))
        ∙ ap (λ q. q || is_one_of p xs (Own s c)) (own_passes p s c x k.0 e)
        ∙ no_more p s c xs k.1

    later : (b : Bool) → key_eq x.key (Own s c) ≡ b → is_one_of p xs (Own s c) ≡ p s c → ((b && p x.session x.id) || is_one_of p xs (Own s c)) ≡ p s c
    later true e r = (λ i. own_passes p s c x k.0 (key_same x.key (Own s c) e) i || r i) ∙ twice (p s c)
    later false e r = r

    go : (b : Bool) → key_at (cond b (Some x) (consumer_of xs s c)) ≡ Some (Own s c) → (key_at (consumer_of xs s c) ≡ Some (Own s c) → is_one_of p xs (Own s c) ≡ p s c) → ((key_eq x.key (Own s c) && p x.session x.id) || is_one_of p xs (Own s c)) ≡ p s c
    go true e r = own (let same : x.key ≡ Own s c = cc in same)
    go false e r = later (key_eq x.key (Own s c)) refl (r e)

-- no active consumer is left at a key exactly where none is active that does not close
none_left : (p : SessionId → ℕ → Bool) (key : Key) (xs : List Consumer) → (active_at key (map (closed_consumer p) xs) == 0) ≡ not (is_left p xs key)
none_left p key [] = refl
none_left p key (x ∷ xs) = go (p x.session x.id) (none_left p key xs)
  where
    -- those that are left of the others
    left : List Consumer
    left = filter (is_at key) (map (closed_consumer p) xs)

    closed : (k a : Bool) → (length left == 0) ≡ not (is_left p xs key) → (length (cond (k && false) (shut x ∷ left) left) == 0) ≡ not ((k && (a && false)) || is_left p xs key)
    closed true true r = r
    closed true false r = r
    closed false a r = r

    open_one : (k a : Bool) → (length left == 0) ≡ not (is_left p xs key) → (length (cond (k && a) (x ∷ left) left) == 0) ≡ not ((k && (a && true)) || is_left p xs key)
    open_one true true r = let some : (length (x ∷ left) == 0) ≡ false = grind (arith, nat_tests) in some
    open_one true false r = r
    open_one false a r = r

    go : (b : Bool) → (length left == 0) ≡ not (is_left p xs key) →
        (length (cond (is_at key (cond b (shut x) x)) (cond b (shut x) x ∷ left) left) == 0) ≡ not ((key_eq x.key key && (x.is_active && not b)) || is_left p xs key)
    go true r = closed (key_eq x.key key) x.is_active r
    go false r = open_one (key_eq x.key key) x.is_active r

-- a subscription ends by the consumers before exactly where it is ended by the numbers that are left
pub ends_so : (which : Consumers) (xs : List Consumer) (left : Counts) → AllOwn xs → AreCounted (map (closed_consumer (are_meant which)) xs) left → (k : Key) → IsOfSubscription xs k → ended which left k ≡ ends (are_meant which) xs k
ends_so which xs left own counted (Own s c) h = sym (one_of (are_meant which) s c xs own h)
ends_so which xs left own counted (OfQueue name) h = refl
ends_so which xs left own counted (SharedOwn client name) h = ap (λ n. n == 0) (counted (SharedOwn client name) refl) ∙ none_left (are_meant which) (SharedOwn client name) xs
ends_so which xs left own counted (Durable client name) h = refl

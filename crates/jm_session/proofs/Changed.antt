-- What a change of values leaves, one after the other, or of one alone that is found by its number.
use Rattle.std.proofs.Common.{◌≡◌, ◌<◌, ◌≤◌, ℕ, zero, suc, length, Bool, true, false, true≢false, cond, List, [], ◌∷◌, None, Some, refl, sym, ap, subst, ◌∙◌, arith}
use Rattle.std.specs.Prelude.{◌==◌, ◌&&◌, map, slice_get, position, nat_lt}
use Rattle.std.proofs.lemmas.Bool.Decides.{nat_tests}
use Rattle.std.proofs.lemmas.Bool.{eqb-true}
use Rattle.std.specs.List.{IsDistinct, AllByRecursion, position_or_len}
use Rattle.std.specs.Map.{keys_of, values_of}
use Rattle.indexmap.specs.IndexMap.{set_value_at}
use Rattle.jm_dest.specs.declared.session.SessionId.{SessionId}
use Rattle.jm_dest.specs.Names.{session_eq}
use Rattle.jm_machine.specs.declared.state.Consumer.{Consumer}
use Rattle.jm_machine.specs.declared.state.SessionState.{SessionState}
use Rattle.jm_machine.specs.Life.{closed_where}
use Rattle.jm_machine.specs.Machine.{closed_consumer, shut}
use Rattle.jm_machine.proofs.Keys.{session_same}
use Rattle.jm_session.specs.declared.number.ConsumerNumber.{ConsumerNumber}
use Rattle.jm_session.specs.Numbers.{IsNumbered, number_of}
use Rattle.jm_session.proofs.Found.{found_at, number_eq}

-- two that pass
both : (a b : Bool) → (a && b) ≡ true → (a ≡ true) × (b ≡ true)
both true b h = (refl, h)
both false b h = absurd (true≢false (sym h))

pub num_same : (a b : ℕ) → (a == b) ≡ true → a ≡ b
num_same a b = eqb-true a b

pub number_same : (a b : ConsumerNumber) → number_eq a b ≡ true → a ≡ b
number_same a b h =
    let parts = both (session_eq a.session b.session) (a.consumer == b.consumer) h in
    λ i. record { session = session_same a.session b.session parts.0 i; consumer = eqb-true a.consumer b.consumer parts.1 i }

module _ {K V : Type 0} (eq : K → K → Bool) (symmetric : (a b : K) → eq a b ≡ eq b a) (same : (a b : K) → eq a b ≡ true → a ≡ b) (number : V → K)
    (g : V → V) (keeps : (x : V) → number (g x) ≡ number x) (k : K) where
  -- a value, changed where it has the number
  abbrev pub changed_if : V → V
  changed_if x = cond (eq (number x) k) (g x) x

  hit : (x : V) → eq k (number x) ≡ true → g x ≡ changed_if x
  hit x h = sym (ap (λ b. cond b (g x) x) (symmetric (number x) k ∙ h))

  missed : (x : V) → eq k (number x) ≡ false → x ≡ changed_if x
  missed x h = sym (ap (λ b. cond b (g x) x) (symmetric (number x) k ∙ h))

  -- values of other numbers stay
  stay : (entries : List (K × V)) → IsNumbered number entries → AllByRecursion (λ y. eq k y ≡ false) (keys_of entries) → values_of entries ≡ map changed_if (values_of entries)
  stay [] h d = refl
  stay (e ∷ entries) h d =
      let apart : eq k (number e.1) ≡ false = (λ i. eq k (sym h.0 i)) ∙ d.0 in
      λ i. missed e.1 apart i ∷ stay entries h.1 d.1 i

  -- a value of the number, changed where it stands
  changed_at : (v : V) (entries : List (K × V)) (at : ℕ) → slice_get (values_of entries) at ≡ Some v → IsNumbered number entries → IsDistinct eq (keys_of entries) →
      position_or_len (eq k) (keys_of entries) ≡ at → at < length (keys_of entries) →
      (values_of (set_value_at entries at (g v)) ≡ map changed_if (values_of entries)) × IsNumbered number (set_value_at entries at (g v))
  unfolding IsDistinct
  changed_at v [] at there h d is within = absurd (omega arith)
  changed_at v (e ∷ entries) zero there h d is within = by (eq k e.0) refl
    where
      by : (b : Bool) → eq k e.0 ≡ b → (values_of (set_value_at (e ∷ entries) zero (g v)) ≡ map changed_if (values_of (e ∷ entries))) × IsNumbered number (set_value_at (e ∷ entries) zero (g v))
      by true this =
          let here : k ≡ e.0 = same k e.0 this in
          let is_v : v ≡ e.1 = cc in
          let is_w : g v ≡ changed_if e.1 = ap g is_v ∙ hit e.1 ((λ i. eq k (sym h.0 i)) ∙ this) in
          let apart : AllByRecursion (λ y. eq k y ≡ false) (keys_of entries) = subst (λ j. AllByRecursion (λ y. eq j y ≡ false) (keys_of entries)) (sym here) d.0 in (
            (λ i. is_w i ∷ stay entries h.1 apart i),
            (h.0 ∙ sym (keeps e.1) ∙ (λ i. number (g (sym is_v i))), h.1),
          )
      by false this = absurd (omega (arith, rw this at is))
  changed_at v (e ∷ entries) (suc at) there h d is within = by (eq k e.0) refl (changed_at v entries at there h.1 d.1)
    where
      by : (b : Bool) → eq k e.0 ≡ b →
          (position_or_len (eq k) (keys_of entries) ≡ at → at < length (keys_of entries) → (values_of (set_value_at entries at (g v)) ≡ map changed_if (values_of entries)) × IsNumbered number (set_value_at entries at (g v))) →
          (values_of (set_value_at (e ∷ entries) (suc at) (g v)) ≡ map changed_if (values_of (e ∷ entries))) × IsNumbered number (set_value_at (e ∷ entries) (suc at) (g v))
      by true this later = absurd (omega (arith, rw this at is))
      by false this later =
          let place : position_or_len (eq k) (keys_of entries) ≡ at = omega (arith, rw this at is) in
          let rest = later place (omega arith) in (
            (λ i. missed e.1 ((λ j. eq k (sym h.0 j)) ∙ this) i ∷ rest.0 i),
            (h.0, rest.1),
          )

  -- the same, where the number was looked for
  pub changed_found : (v : V) (entries : List (K × V)) (at : ℕ) → slice_get (values_of entries) at ≡ Some v → IsNumbered number entries → IsDistinct eq (keys_of entries) →
      position (eq k) (keys_of entries) ≡ Some at →
      (values_of (set_value_at entries at (g v)) ≡ map changed_if (values_of entries)) × IsNumbered number (set_value_at entries at (g v))
  changed_found v entries at there h d is =
      let place = found_at (eq k) (keys_of entries) at is in
      changed_at v entries at there h d place.0 place.1

  -- a number that is not found is no value's
  nowhere : (ks : List K) → length ks ≤ position_or_len (eq k) ks → AllByRecursion (λ y. eq k y ≡ false) ks
  nowhere [] h = tt
  nowhere (x ∷ ks) h = by (eq k x) refl (nowhere ks)
    where
      by : (b : Bool) → eq k x ≡ b → (length ks ≤ position_or_len (eq k) ks → AllByRecursion (λ y. eq k y ≡ false) ks) → AllByRecursion (λ y. eq k y ≡ false) (x ∷ ks)
      by true this later = absurd (omega (arith, rw this at h))
      by false this later = (this, later (omega (arith, rw this at h)))

  -- where the number is not found, the values stay
  pub changed_nowhere : (entries : List (K × V)) → IsNumbered number entries → position (eq k) (keys_of entries) ≡ None → values_of entries ≡ map changed_if (values_of entries)
  changed_nowhere entries h none = stay entries h (nowhere (keys_of entries) (past (position_or_len (eq k) (keys_of entries)) (length (keys_of entries)) (nat_lt (position_or_len (eq k) (keys_of entries)) (length (keys_of entries))) refl none))
    where
      past : (n m : ℕ) (b : Bool) → nat_lt n m ≡ b → cond b (Some n) None ≡ None → m ≤ n
      past n m true e none = cc
      past n m false e none = grind (arith, nat_tests)

-- a session that is closed stays as it is where it closes
pub session_stays : (p : SessionId → Bool) (x : SessionState) → x.is_open ≡ false → closed_where p x ≡ x
session_stays p x closed = go (p x.id)
  where
    go : (b : Bool) → cond b (record x { is_open = false }) x ≡ x
    go true = λ i. record x { is_open = sym closed i }
    go false = refl

-- a consumer that is closed stays as it is where it closes
pub consumer_stays : (p : SessionId → ℕ → Bool) (x : Consumer) → x.is_active ≡ false → closed_consumer p x ≡ x
consumer_stays p x closed = go (p x.session x.id)
  where
    selector : cond x.is_active None x.selector ≡ x.selector
    selector = ap (λ b. cond b None x.selector) closed

    go : (b : Bool) → cond b (shut x) x ≡ x
    go true = λ i. record x { is_active = sym closed i; selector = selector i }
    go false = refl

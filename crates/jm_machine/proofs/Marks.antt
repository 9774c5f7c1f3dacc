-- The marks of a consumer's listener leave all else of the consumer as it is.
use Rattle.std.proofs.Common.{◌≡◌, ℕ, Bool, true, false, cond, refl}
use Rattle.jm_dest.specs.declared.session.SessionId.{SessionId}
use Rattle.jm_machine.specs.declared.state.Consumer.{Consumer}
use Rattle.jm_machine.specs.Machine.{has_number, closed_consumer, listening_if, busy_if, shut}

-- a change keeps a consumer's key and number
pub record KeepsName (f : Consumer → Consumer) : Type 0 where
  pub key : (x : Consumer) → (f x).key ≡ x.key
  pub session : (x : Consumer) → (f x).session ≡ x.session
  pub id : (x : Consumer) → (f x).id ≡ x.id

pub listening_keeps : (s : SessionId) (c : ℕ) (on : Bool) → KeepsName (listening_if s c on)
listening_keeps s c on = record {
  key = λ x. elim (has_number s c x) as (λ b. (cond b (record x { is_listening = on }) x).key ≡ x.key) [ true ↦ refl | false ↦ refl ];
  session = λ x. elim (has_number s c x) as (λ b. (cond b (record x { is_listening = on }) x).session ≡ x.session) [ true ↦ refl | false ↦ refl ];
  id = λ x. elim (has_number s c x) as (λ b. (cond b (record x { is_listening = on }) x).id ≡ x.id) [ true ↦ refl | false ↦ refl ];
}

pub busy_keeps : (s : SessionId) (c : ℕ) (on : Bool) → KeepsName (busy_if s c on)
busy_keeps s c on = record {
  key = λ x. elim (has_number s c x) as (λ b. (cond b (record x { is_busy = on }) x).key ≡ x.key) [ true ↦ refl | false ↦ refl ];
  session = λ x. elim (has_number s c x) as (λ b. (cond b (record x { is_busy = on }) x).session ≡ x.session) [ true ↦ refl | false ↦ refl ];
  id = λ x. elim (has_number s c x) as (λ b. (cond b (record x { is_busy = on }) x).id ≡ x.id) [ true ↦ refl | false ↦ refl ];
}

pub closed_keeps : (p : SessionId → ℕ → Bool) → KeepsName (closed_consumer p)
closed_keeps p = record {
  key = λ x. elim (p x.session x.id) as (λ b. (cond b (shut x) x).key ≡ x.key) [ true ↦ refl | false ↦ refl ];
  session = λ x. elim (p x.session x.id) as (λ b. (cond b (shut x) x).session ≡ x.session) [ true ↦ refl | false ↦ refl ];
  id = λ x. elim (p x.session x.id) as (λ b. (cond b (shut x) x).id ≡ x.id) [ true ↦ refl | false ↦ refl ];
}

-- neither opens nor closes a consumer
pub listening_active : (s : SessionId) (c : ℕ) (on : Bool) (x : Consumer) → (listening_if s c on x).is_active ≡ x.is_active
listening_active s c on x = elim (has_number s c x) as (λ b. (cond b (record x { is_listening = on }) x).is_active ≡ x.is_active) [ true ↦ refl | false ↦ refl ]

pub busy_active : (s : SessionId) (c : ℕ) (on : Bool) (x : Consumer) → (busy_if s c on x).is_active ≡ x.is_active
busy_active s c on x = elim (has_number s c x) as (λ b. (cond b (record x { is_busy = on }) x).is_active ≡ x.is_active) [ true ↦ refl | false ↦ refl ]

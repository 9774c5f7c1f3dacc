-- What closes one after the other, until no number that is meant is open.
use Rattle.std.proofs.Common.{◌≡◌, ◌<◌, ◌∙◌, ℕ, length, get_or, Bool, true, false, cond, List, ◌++◌, ◌∷◌, [], None, refl, sym, ap, subst}
use Rattle.std.specs.Prelude.{◌==◌, is_some, map, position}
use Rattle.std.specs.List.{IsDistinct, list_any, remove}
use Rattle.std.specs.Ordering.{is_eq, nat_cmp}
use Rattle.std.specs.declared.cmp.Ordering.TheVariants.{Equal}
use Rattle.jm_dest.specs.declared.session.SessionId.{SessionId}
use Rattle.jm_dest.specs.Names.{session_eq}
use Rattle.jm_machine.specs.declared.consumers.Consumers.{Consumers}
use Rattle.jm_machine.specs.declared.consumers.Consumers.TheVariants.{OfConnection}
use Rattle.jm_machine.specs.declared.state.Consumer.{Consumer}
use Rattle.jm_machine.specs.declared.state.SessionState.{SessionState}
use Rattle.jm_machine.specs.Life.{closed_where, session_of}
use Rattle.jm_machine.specs.Machine.{are_meant, closed_consumer, consumer_of, of_number, shut}
use Rattle.jm_machine.specs.Sections.{own_place}
use Rattle.jm_machine.proofs.Keys.{session_refl}
use Rattle.jm_machine.proofs.Sections.{own_is}
use Rattle.jm_session.specs.declared.number.ConsumerNumber.{ConsumerNumber}
use Rattle.jm_session.specs.Numbers.{number_of}
use Rattle.jm_session.specs.Opened.{open_numbers}
use Rattle.jm_session.proofs.Changed.{consumer_stays, number_same, session_stays}
use Rattle.jm_session.proofs.Found.{number_eq, number_refl, number_sym, session_sym}
use Rattle.jm_machine.proofs.Keys.{session_same}
use Rattle.jm_session.proofs.Opened.{absent, all_left, closed_at, closed_nowhere}

-- ---- consumers

-- the numbers of the active ones
abbrev pub active_numbers : List Consumer → List ConsumerNumber
active_numbers xs = open_numbers number_of (λ x. x.is_active) xs

-- whether it is meant
abbrev pub is_among : Consumers → ConsumerNumber → Bool
is_among which k = is_eq (own_place which k.session k.consumer)

-- a number of none is not among those of the active ones
pub number_absent : (k : ConsumerNumber) (xs : List Consumer) (ks : List ConsumerNumber) → ks ≡ active_numbers xs → is_some (consumer_of xs k.session k.consumer) ≡ false → position (λ y. number_eq y k) ks ≡ None
number_absent k xs ks is none = ap (position (λ y. number_eq y k)) is ∙ absent number_of (λ x. x.is_active) number_eq k xs none

-- the number of an active one goes as it closes
pub number_gone : (k : ConsumerNumber) (xs : List Consumer) (ks : List ConsumerNumber) (at : ℕ) → ks ≡ active_numbers xs → IsDistinct number_eq ks → at < length ks → get_or ks at k ≡ k →
    remove ks at ≡ active_numbers (map (closed_consumer (of_number k.session k.consumer)) xs)
number_gone k xs ks at is =
    subst (λ js. IsDistinct number_eq js → at < length js → get_or js at k ≡ k → remove js at ≡ active_numbers (map (closed_consumer (of_number k.session k.consumer)) xs)) (sym is)
    (λ distinct within there. sym (closed_at number_of (λ x. x.is_active) number_eq shut (λ x. refl) k number_refl number_sym xs at distinct within there))

-- where no active one has the number, the numbers stay
pub number_nowhere : (k : ConsumerNumber) (xs : List Consumer) (ks : List ConsumerNumber) → ks ≡ active_numbers xs → position (λ y. number_eq y k) ks ≡ None →
    ks ≡ active_numbers (map (closed_consumer (of_number k.session k.consumer)) xs)
number_nowhere k xs ks is none =
    is ∙ sym (closed_nowhere number_of (λ x. x.is_active) number_eq shut (λ x. refl) k xs (ap (position (λ y. number_eq y k)) (sym is) ∙ none))

-- where one that is meant closed first, the others close as before
pub closed_first : (which : Consumers) (k : ConsumerNumber) → own_place which k.session k.consumer ≡ Equal → (x : Consumer) →
    closed_consumer (are_meant which) (closed_consumer (of_number k.session k.consumer) x) ≡ closed_consumer (are_meant which) x
closed_first which k inside x = by (number_eq (number_of x) k) refl
  where
    by : (b : Bool) → number_eq (number_of x) k ≡ b → closed_consumer (are_meant which) (closed_consumer (of_number k.session k.consumer) x) ≡ closed_consumer (are_meant which) x
    by false other = ap (λ b. closed_consumer (are_meant which) (cond b (shut x) x)) other
    by true own =
        let meant : are_meant which x.session x.id ≡ true =
        ap (λ (n : ConsumerNumber). are_meant which n.session n.consumer) (number_same (number_of x) k own) ∙ sym (own_is which k.session k.consumer) ∙ ap is_eq inside in
        ap (λ b. closed_consumer (are_meant which) (cond b (shut x) x)) own
        ∙ ap (λ b. cond b (shut x) (shut x)) meant
        ∙ sym (ap (λ b. cond b (shut x) x) meant)

-- where no active one is meant, all are closed that are meant
pub consumers_left : (which : Consumers) (xs : List Consumer) (ks : List ConsumerNumber) → ks ≡ active_numbers xs → list_any (is_among which) ks ≡ false → map (closed_consumer (are_meant which)) xs ≡ xs
consumers_left which xs ks is none =
    all_left number_of (λ x. x.is_active) (is_among which) (closed_consumer (are_meant which)) (consumer_stays (are_meant which))
    (λ x h. ap (λ b. cond b (shut x) x) (sym (own_is which x.session x.id) ∙ h)) xs (ap (list_any (is_among which)) (sym is) ∙ none)

-- ---- sessions

-- the numbers of the open ones
abbrev pub open_sessions : List SessionState → List SessionId
open_sessions xs = open_numbers (λ x. x.id) (λ x. x.is_open) xs

abbrev ended : SessionState → SessionState
ended x = record x { is_open = false }

-- whether it is of the connection
abbrev pub is_of : ℕ → SessionId → Bool
is_of connection id = is_eq (nat_cmp id.connection connection)

of_connection_is : (connection : ℕ) (id : SessionId) → is_of connection id ≡ (id.connection == connection)
of_connection_is connection id = own_is (OfConnection connection) id 0

pub session_absent : (k : SessionId) (xs : List SessionState) (ks : List SessionId) → ks ≡ open_sessions xs → is_some (session_of xs k) ≡ false → position (λ y. session_eq y k) ks ≡ None
session_absent k xs ks is none = ap (position (λ y. session_eq y k)) is ∙ absent (λ x. x.id) (λ x. x.is_open) session_eq k xs none

pub session_gone : (k : SessionId) (xs : List SessionState) (ks : List SessionId) (at : ℕ) → ks ≡ open_sessions xs → IsDistinct session_eq ks → at < length ks → get_or ks at k ≡ k →
    remove ks at ≡ open_sessions (map (closed_where (λ t. session_eq t k)) xs)
session_gone k xs ks at is =
    subst (λ js. IsDistinct session_eq js → at < length js → get_or js at k ≡ k → remove js at ≡ open_sessions (map (closed_where (λ t. session_eq t k)) xs)) (sym is)
    (λ distinct within there. sym (closed_at (λ x. x.id) (λ x. x.is_open) session_eq ended (λ x. refl) k session_refl session_sym xs at distinct within there))

pub session_nowhere : (k : SessionId) (xs : List SessionState) (ks : List SessionId) → ks ≡ open_sessions xs → position (λ y. session_eq y k) ks ≡ None →
    ks ≡ open_sessions (map (closed_where (λ t. session_eq t k)) xs)
session_nowhere k xs ks is none =
    is ∙ sym (closed_nowhere (λ x. x.id) (λ x. x.is_open) session_eq ended (λ x. refl) k xs (ap (position (λ y. session_eq y k)) (sym is) ∙ none))

pub ended_first : (connection : ℕ) (k : SessionId) → nat_cmp k.connection connection ≡ Equal → (x : SessionState) →
    closed_where (λ s. s.connection == connection) (closed_where (λ t. session_eq t k) x) ≡ closed_where (λ s. s.connection == connection) x
ended_first connection k inside x = by (session_eq x.id k) refl
  where
    by : (b : Bool) → session_eq x.id k ≡ b → closed_where (λ s. s.connection == connection) (closed_where (λ t. session_eq t k) x) ≡ closed_where (λ s. s.connection == connection) x
    by false other = ap (λ b. closed_where (λ s. s.connection == connection) (cond b (ended x) x)) other
    by true own =
        let meant : (x.id.connection == connection) ≡ true =
        ap (λ (s : SessionId). s.connection == connection) (session_same x.id k own) ∙ sym (of_connection_is connection k) ∙ ap is_eq inside in
        ap (λ b. closed_where (λ s. s.connection == connection) (cond b (ended x) x)) own
        ∙ ap (λ b. cond b (ended x) (ended x)) meant
        ∙ sym (ap (λ b. cond b (ended x) x) meant)

pub sessions_left : (connection : ℕ) (xs : List SessionState) (ks : List SessionId) → ks ≡ open_sessions xs → list_any (is_of connection) ks ≡ false → map (closed_where (λ s. s.connection == connection)) xs ≡ xs
sessions_left connection xs ks is none =
    all_left (λ x. x.id) (λ x. x.is_open) (is_of connection) (closed_where (λ s. s.connection == connection)) (session_stays (λ s. s.connection == connection))
    (λ x h. ap (λ b. cond b (ended x) x) (sym (of_connection_is connection x.id) ∙ h)) xs (ap (list_any (is_of connection)) (sym is) ∙ none)

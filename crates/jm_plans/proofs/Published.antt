-- Publications that were prepared and made are the machine's.
use Rattle.std.proofs.Common.{◌≡◌, ◌≤◌, ◌+◌, ℕ, List, [], ◌∷◌, ap, map, length, refl, sym, ◌∙◌}
use Rattle.std.specs.Prelude.{IfOk, Result, Ok, Err}
use Rattle.std.specs.List.{All}
use Rattle.std.proofs.lemmas.List.Elements.{All-nil, All-cons}
use Rattle.jm_base.specs.declared.refusal.Refusal.{Refusal}
use Rattle.jm_dest.specs.declared.key.Key.{Key}
use Rattle.jm_header.specs.declared.content.Content.{Content}
use Rattle.jm_machine.specs.declared.state.Consumer.{Consumer}
use Rattle.jm_machine.specs.declared.state.PlacedRow.{PlacedRow}
use Rattle.jm_machine.specs.Life.{Life}
use Rattle.jm_machine.specs.Machine.{places_end, published}
use Rattle.jm_stations.specs.Backlogs.{Backlog, HasMoreRoom, IsPublished}
use Rattle.jm_stations.specs.Stations.{Stations}
use Rattle.jm_sub.specs.Subscriptions.{Subscription}
use Rattle.jm_parts.specs.declared.publish.Publication.{Publication}
use Rattle.jm_parts.specs.Publications.{IsRouted, IsReady, ArePublished, station_indexes, published_stations}
use Rattle.jm_plans.specs.Publications.{ArePrepared}
use Rattle.jm_queues.specs.Queues.{published_queues}
use Rattle.jm_plans.specs.Provider.{Provider}
use Rattle.jm_parts.specs.State.{stations_of, IsSound}
use Rattle.jm_parts.proofs.Stations.{more_room}
use Rattle.jm_parts.proofs.Publishing.{published_all, published_is}
use Rattle.jm_plans.proofs.Sound.{all_limited, sound_room, sound_published}
use Rattle.jm_plans.proofs.Fits.{state_from}

-- the message of a publication, and where it goes
abbrev pub message_of : Publication → Content
message_of x = x.message

abbrev pub IsSent : Life → List Subscription → Publication → Type 0
IsSent life ss x = IsRouted life ss x.message (station_indexes x.goal)

pub ready_sent : (n : ℕ) (life : Life) (ss : List Subscription) (held queues : Stations) (xs : List Publication) → All (IsReady n life ss held queues) xs → All (IsSent life ss) xs
ready_sent n life ss held queues xs r = λ k d l. (r k d l).aimed.routed

-- one publication
pub one_sent : (n : ℕ) (life : Life) (ss : List Subscription) (held queues : Stations) (x : Publication) → IsReady n life ss held queues x → All (IsSent life ss) (x ∷ [])
one_sent n life ss held queues x r = All-cons (IsSent life ss) x [] r.aimed.routed (All-nil (IsSent life ss))

pub one_published : (place : ℕ) (old new : List Backlog) (x : Publication) → IsPublished (station_indexes x.goal) place x.message old new → ArePublished (x ∷ []) place old new
one_published place old new x h = (new, h, refl)

-- what is prepared, where it is
pub prepared_if : {V : Type 0} (items : V → List Publication) (p : Provider) (ms : List Content) (r : Result V Refusal) → p.held.next_place + length ms ≤ places_end →
    IfOk r (λ xs. map message_of (items xs) ≡ ms) → IfOk r (λ xs. All (IsReady (length ms) p.known.life p.subscriptions.list p.held p.queues) (items xs)) → IfOk r (λ xs. ArePrepared p ms (items xs))
prepared_if items p ms (Ok xs) places same ready = record { same = same; places = places; ready = ready }
prepared_if items p ms (Err e) places same ready = tt

-- what is kept
pub publication_sound : (limit : ℕ) (life : Life) (consumers : List Consumer) (ss : List Subscription) (keys : List Key) (old mid new : List Backlog) (place next : ℕ) (xs : List Publication) → IsSound limit consumers ss keys old place → HasMoreRoom old mid → All (IsSent life ss) xs → ArePublished xs place mid new → next ≤ places_end →
    IsSound limit consumers ss keys new next
publication_sound limit life consumers ss keys old mid new place next xs h r sent p le = sound_published limit life consumers ss keys mid new place next xs (sound_room limit consumers ss keys old mid place h r) sent p le

-- what callers see
pub publication_seen : (opening limit : ℕ) (life : Life) (consumers : List Consumer) (ss : List Subscription) (keys : List Key) (old mid new : List Backlog) (queues after : List ℕ → List PlacedRow) (place next : ℕ) (xs : List Publication) (ms : List Content) → IsSound limit consumers ss keys old place → HasMoreRoom old mid → All (IsSent life ss) xs →
    map message_of xs ≡ ms → ArePublished xs place mid new → after ≡ published_queues place (map message_of xs) queues → next ≡ place + length ms →
    state_from opening limit life consumers ss new after next ≡ published (state_from opening limit life consumers ss old queues place) ms
publication_seen opening limit life consumers ss keys old mid new queues after place next xs ms h r sent is p q end =
    let number : length mid ≡ length ss = r.number ∙ h.number in
    let made = (published_all limit life ss xs place mid new number (all_limited limit consumers ss keys mid place (sound_room limit consumers ss keys old mid place h r)) sent p).0 in
    let seen : stations_of ss new ≡ published_stations limit life place ms (stations_of ss old) = made ∙ (λ i. published_stations limit life place (is i) (more_room ss old mid r i)) in
    let queued : after ≡ published_queues place ms queues = q ∙ ap (λ xs. published_queues place xs queues) is in
    (λ i. record { opening = opening; limit = limit; life = life; consumers = consumers; stations = seen i; queues = queued i; next_place = end i }) ∙ sym (published_is (state_from opening limit life consumers ss old queues place) ms)

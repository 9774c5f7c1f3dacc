-- Subscriptions that have names: what decides whether they may be had.
use Rattle.std.proofs.Common.{◌≡◌, ◌≢◌, ◌<◌, ℕ, Bool, List, [], ◌∷◌, length, get_or, ap, sym, ◌∙◌, arith, Option, Some, None, zero, suc}
use Rattle.std.specs.Prelude.{slice_get, option_map, IfSome}
use Rattle.jm_base.specs.declared.refusal.Refusal.{Refusal}
use Rattle.jm_base.specs.declared.refusal.Refusal.TheVariants.{Memory}
use Rattle.jm_dest.specs.declared.key.Key.{Key}
use Rattle.jm_machine.specs.declared.state.Consumer.{Consumer}
use Rattle.jm_machine.specs.declared.state.Definition.{Definition}
use Rattle.jm_stations.specs.Backlogs.{Backlog, are_home}
use Rattle.jm_sub.specs.declared.sharing.Sharing.{Sharing}
use Rattle.jm_sub.specs.Sharing.{may}
use Rattle.jm_sub.specs.Subscriptions.{Subscription, definition_at}
use Rattle.jm_parts.specs.Named.{had_refusal, home_at, home_in, idle_in, may_have}

-- what stands at an index
pub home_there : (list : List Backlog) (i : ℕ) (home : Bool) → i < length list → ((d : Backlog) → home ≡ are_home (get_or list i d).rows) → home ≡ home_at (slice_get list i)
home_there [] i home l h = absurd (omega (arith, l))
home_there (b ∷ list) zero home l h = h b
home_there (b ∷ list) (suc i) home l h = home_there list i home (omega (arith, l)) h

-- whether a subscription may be had, by whether it is idle and its rows are home
pub had_by : (sharing : Sharing) (k : Key) (d : Definition) (consumers : List Consumer) (ss : List Subscription) (keys : List Key) (list : List Backlog) (idle home : Bool) → idle ≡ idle_in k consumers → home ≡ home_in k keys list →
    may sharing (definition_at k ss) idle home d ≡ may_have sharing k d consumers ss keys list
had_by sharing k d consumers ss keys list idle home e f = λ i. may sharing (definition_at k ss) (e i) (f i) d

pub had_refused : (selector : Option (List ℕ)) (r : Refusal) (a b : Bool) → a ≡ b → (r ≢ Memory → had_refusal selector a ≡ Some r) → r ≢ Memory → had_refusal selector b ≡ Some r
had_refused selector r a b e h n = ap (λ x. had_refusal selector x) (sym e) ∙ h n

-- there is room beside a copy of the key as well
pub room_beside : (P : Type 0) (k : Key) (x : Option (Key × Subscription)) (o : Option Subscription) → x ≡ option_map (λ (d : Subscription). (k, d)) o → IfSome o (λ d. P) → IfSome x (λ d. P)
room_beside P k None o e h = tt
room_beside P k (Some d) None e h = absurd cc
room_beside P k (Some d) (Some y) e h = h

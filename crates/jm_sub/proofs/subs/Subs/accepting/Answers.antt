use Rattle.std.proofs.Common.{◌≡◌, ◌∙◌, ◌<◌, ℕ, List, ap, length, subst, sym}
use Rattle.std.specs.Prelude.{map, slice_get}
use Rattle.std.specs.List.{All}
use Rattle.std.specs.Map.{keys_of}
use Rattle.std.specs.Option.{option_copied}
use Rattle.jm_sub.specs.Entries.{subscriptions_of}
use Rattle.jm_sub.specs.Subscriptions.{Subscriptions, accepting, accepting_places, publisher}
use Rattle.jm_sub.proofs.AcceptingPlaces.{accepting_keys, accepting_within}
use Rattle.jm_sub.proofs.Changed.{length_subscriptions}
use Rattle.jm_sub.proofs.subs.Subs.accepting.Goals as goal

pub keys_at-requires : goal.keys_at-requires
keys_at-requires c =
    let m = c.args.message.now in
    let by = publisher m (option_copied c.args.client) in
    let ss = subscriptions_of c.self.inside.items.entries in
    let there : c.as_slice.result.now ≡ accepting_places by m ss =
    c.as_slice.ensures.value ∙ c.in_ok-places.ensures.ok ∙ ap (λ (v : Subscriptions). accepting_places by m v.list) (sym c.self.view_is) in
    subst (λ n. All (λ i. i < n) c.as_slice.result.now) (length_subscriptions c.self.inside.items.entries) (subst (λ (ps : List ℕ). All (λ i. i < length ss) ps) (sym there) (accepting_within by m ss))

pub returns-clause-ok : goal.returns-clause-ok
returns-clause-ok c =
    let m = c.args.message.now in
    let by = publisher m (option_copied c.args.client) in
    let es = c.self.inside.items.entries in
    let there : c.as_slice.result.now ≡ accepting_places by m (subscriptions_of es) =
    c.as_slice.ensures.value ∙ c.in_ok-places.ensures.ok ∙ ap (λ (v : Subscriptions). accepting_places by m v.list) (sym c.self.view_is) in
    accepting_keys by m es c.in_ok-keys_at.field-0.items (c.in_ok-keys_at.ensures ∙ ap (map (slice_get (keys_of es))) there)
    ∙ ap (λ (v : Subscriptions). accepting by m v.list) c.self.view_is

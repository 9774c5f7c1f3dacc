use Rattle.std.proofs.Common.{◌≡◌, ℕ}
use Rattle.std.specs.Prelude.{nat_eq, slice_get}
use Rattle.std.specs.Option.{option_copied}
use Rattle.std.specs.Set.{is_member}
use Rattle.jm_sub.specs.Places.{channels_with, heard_in, passes}
use Rattle.jm_sub.specs.Subscriptions.{publisher}
use Rattle.jm_sub.proofs.accepting.heard_places.Given as goal

abbrev pub invariant-loop-literal : goal.invariant-loop-literal
invariant-loop-literal l = (at : ℕ) → is_member nat_eq l.places.items at
    ≡ passes (heard_in (channels_with l.topic l.yielded) (publisher l.message (option_copied l.client)) l.message) (slice_get l.items.entries at)

use Rattle.std.proofs.Common.{◌≡◌, ◌++◌, ℕ}
use Rattle.std.specs.Prelude.{nat_eq, ◌&&◌, ◌||◌}
use Rattle.std.specs.Option.{option_copied}
use Rattle.std.specs.Set.{is_member}
use Rattle.jm_grouped.specs.Grouped.{indexes_of}
use Rattle.jm_sub.specs.Channels.{channel_eq}
use Rattle.jm_sub.specs.Subscriptions.{publisher}
use Rattle.jm_sub.proofs.Heard.{wants_there}
use Rattle.jm_sub.proofs.accepting.add_channel.Given as goal

abbrev pub invariant-loop-place : goal.invariant-loop-place
invariant-loop-place l = record {
  whole : l.yielded ++ l.place-iterator ≡ indexes_of channel_eq l.channels.items l.channel;
  members : (at : ℕ) → is_member nat_eq l.places.items at
      ≡ (is_member nat_eq l.fn.places.items at || (is_member nat_eq l.yielded at && wants_there (publisher l.message (option_copied l.client)) l.message l.items.entries at));
}

use Rattle.std.proofs.Common.{◌≡◌, ◌∙◌, ℕ, ap}
use Rattle.std.specs.Prelude.{nat_eq, slice_get}
use Rattle.std.specs.Option.{option_copied}
use Rattle.std.specs.Set.{is_member}
use Rattle.jm_sub.specs.Places.{channels_of, channels_with, heard_in, passes}
use Rattle.jm_sub.specs.Subscriptions.{publisher}
use Rattle.jm_sub.proofs.Heard.{heard_takes}
use Rattle.jm_sub.proofs.Places.{places_listed}
use Rattle.jm_sub.proofs.accepting.accepting_places.Goals as goal

pub returns : goal.returns
returns c =
    let m = c.args.message.now in
    let by = publisher m (option_copied c.args.client) in
    let es = c.args.items.now.entries in
    let topic = c.args.topic.now in
    let members : (at : ℕ) → is_member nat_eq c.put_in_order.new.places.items at ≡ passes (heard_in (channels_of topic m) by m) (slice_get es at) = λ at.
    c.put_in_order.ensures.same at ∙ c.in_ok-places.ensures at ∙ ap (λ ls. passes (heard_in (channels_with topic ls) by m) (slice_get es at)) c.in_ok-literals.ensures in
    places_listed by m (heard_in (channels_of topic m) by m) (heard_takes by m topic c.requires.to c.law_literal.ensures) es c.put_in_order.new.places.items c.put_in_order.ensures.order members

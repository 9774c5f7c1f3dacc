use Rattle.std.proofs.Common.{◌∙◌, ◌∷◌, [], sym}
use Rattle.std.specs.Prelude.{slice_get, ◌||◌}
use Rattle.std.specs.Option.{option_copied}
use Rattle.jm_sub.specs.Places.{heard_in, literal_channel, passes}
use Rattle.jm_sub.specs.Subscriptions.{publisher}
use Rattle.jm_sub.proofs.Heard.{heard_next}
use Rattle.jm_sub.proofs.accepting.heard_places.Goals as goal

pub loop-literal-preserved : goal.loop-literal-preserved
loop-literal-preserved c = λ at.
    let o = slice_get c.args.items.now.entries at in
    let by = publisher c.args.message.now (option_copied c.args.client) in
    c.in_ok-add_channel-2.ensures at ∙ (λ i. c.loop-literal.invariant at i || passes (heard_in (literal_channel (c.in_ok-copy.ensures i) c.in-Some.literal ∷ []) by c.args.message.now) o)
    ∙ sym (heard_next by c.args.message.now c.args.topic.now c.loop-literal.yielded c.in-Some.literal o)

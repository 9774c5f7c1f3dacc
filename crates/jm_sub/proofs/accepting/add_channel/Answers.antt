use Rattle.std.proofs.Common.{◌≡◌, ◌∙◌, ◌++◌, ◌∷◌, [], ◌<◌, All, ap, arith, length, subst, sym, true, false}
use Rattle.std.specs.Prelude.{nat_eq, ◌&&◌, ◌||◌}
use Rattle.std.specs.Option.{option_copied}
use Rattle.std.specs.Set.{is_member}
use Rattle.std.proofs.lemmas.List.{append-nil, append_assoc}
use Rattle.jm_dest.specs.declared.key.Key.{Key}
use Rattle.jm_machine.specs.declared.state.Definition.{Definition}
use Rattle.jm_grouped.specs.Grouped.{indexes_of}
use Rattle.jm_sub.specs.Channels.{channel_eq}
use Rattle.jm_sub.specs.Subscriptions.{publisher, wants}
use Rattle.jm_sub.proofs.Changed.{length_channels}
use Rattle.jm_sub.proofs.Heard.{among, channel_heard, unwanted_next, wanted_next, wants_there}
use Rattle.jm_sub.proofs.accepting.add_channel.Goals as goal

pub entry_at-requires : goal.entry_at-requires
entry_at-requires c =
    let next : c.loop-place.place-iterator ≡ c.in-Some.place ∷ c.next.new.self = c.in-Some.ensures.steps in
    let whole : c.indexes_of-place-items.result ≡ c.loop-place.yielded ++ c.in-Some.place ∷ c.next.new.self = c.indexes_of-place-items.ensures.indexes ∙ sym c.loop-place.invariant.whole ∙ ap (λ xs. c.loop-place.yielded ++ xs) next in
    let within : c.in-Some.place < length c.args.channels.now.items =
    among (λ i. i < length c.args.channels.now.items) c.loop-place.yielded c.next.new.self c.in-Some.place (subst (All (λ i. i < length c.args.channels.now.items)) whole c.indexes_of-place-items.ensures.within) in
    omega (arith, within, ap length c.requires, length_channels c.args.items.now.entries)

pub loop-place-preserved-in-Continue-1 : goal.loop-place-preserved-in-Continue-1
loop-place-preserved-in-Continue-1 c =
    let es = c.args.items.now.entries in
    let m = c.args.message.now in
    let by = publisher m (option_copied c.args.client) in
    let e : Key × Definition = (c.entry_at.result.0.now, c.entry_at.result.1.now) in
    let next : c.loop-place.place-iterator ≡ c.in-Some.place ∷ c.next.new.self = c.in-Some.ensures.steps in
    let want : wants e.0 e.1 by m ≡ true = ap (λ d. wants e.0 d by m) (sym c.get.ensures) ∙ sym c.wants.ensures ∙ c.if-wants.true in
    record {
      whole = append_assoc c.loop-place.yielded (c.in-Some.place ∷ []) c.next.new.self ∙ ap (λ xs. c.loop-place.yielded ++ xs) (sym next) ∙ c.loop-place.invariant.whole;
      members = λ at.
          ap (λ ps. is_member nat_eq ps at) c.in_ok-push.ensures.items
          ∙ wanted_next by m es c.loop-place.places.items c.loop-place.yielded c.in-Some.place e at (is_member nat_eq c.args.places.now.items at) c.entry_at.ensures want (c.loop-place.invariant.members at);
    }

pub loop-place-preserved : goal.loop-place-preserved
loop-place-preserved c =
    let es = c.args.items.now.entries in
    let m = c.args.message.now in
    let by = publisher m (option_copied c.args.client) in
    let e : Key × Definition = (c.entry_at.result.0.now, c.entry_at.result.1.now) in
    let next : c.loop-place.place-iterator ≡ c.in-Some.place ∷ c.next.new.self = c.in-Some.ensures.steps in
    let want : wants e.0 e.1 by m ≡ false = ap (λ d. wants e.0 d by m) (sym c.get.ensures) ∙ sym c.wants.ensures ∙ c.if-wants.false in
    record {
      whole = append_assoc c.loop-place.yielded (c.in-Some.place ∷ []) c.next.new.self ∙ ap (λ xs. c.loop-place.yielded ++ xs) (sym next) ∙ c.loop-place.invariant.whole;
      members = λ at. unwanted_next by m es c.loop-place.places.items c.loop-place.yielded c.in-Some.place e at (is_member nat_eq c.args.places.now.items at) c.entry_at.ensures want (c.loop-place.invariant.members at);
    }

pub returns : goal.returns
returns c = λ at.
    let es = c.args.items.now.entries in
    let m = c.args.message.now in
    let by = publisher m (option_copied c.args.client) in
    let before = is_member nat_eq c.args.places.now.items at in
    let end : c.loop-place.place-iterator ≡ [] = c.in-None.ensures.steps.0 in
    let all : c.loop-place.yielded ≡ indexes_of channel_eq c.args.channels.now.items c.args.channel.now =
    sym (append-nil c.loop-place.yielded) ∙ ap (λ xs. c.loop-place.yielded ++ xs) (sym end) ∙ c.loop-place.invariant.whole in
    c.loop-place.invariant.members at
    ∙ ap (λ ys. before || (is_member nat_eq ys at && wants_there by m es at)) (all ∙ ap (λ cs. indexes_of channel_eq cs c.args.channel.now) c.requires)
    ∙ ap (λ b. before || b) (channel_heard c.args.channel.now by m es at)

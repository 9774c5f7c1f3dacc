use Rattle.std.proofs.Common.{◌≡◌, ◌∙◌, ◌+◌, true, false, ap, drop, sym}
use Rattle.std.specs.Prelude.{◌||◌}
use Rattle.std.specs.Set.{is_member}
use Rattle.jm_dest.specs.Names.{text_eq}
use Rattle.jm_dest.specs.declared.key.Key.{Key}
use Rattle.jm_machine.specs.declared.state.Definition.{Definition}
use Rattle.jm_sub.specs.Entries.{topics_of}
use Rattle.jm_sub.proofs.Topics.{dropped_next}
use Rattle.jm_sub.proofs.subs.is_topic_from.Goals as goal

pub returns-then-eq : goal.returns-then-eq
returns-then-eq c =
    let e : Key × Definition = (c.entry_at.result.0.now, c.entry_at.result.1.now) in
    let is : text_eq c.args.topic.now e.1.topic ≡ true = ap (λ (d : Definition). text_eq c.args.topic.now d.topic) (sym c.get.ensures) ∙ sym c.eq.ensures ∙ c.if-eq.true in
    sym (
    c.loop-at.invariant ∙ ap (λ xs. is_member text_eq (topics_of xs) c.args.topic.now) (dropped_next c.args.items.now.entries c.loop-at.at e c.entry_at.ensures)
    ∙ ap (λ b. b || is_member text_eq (topics_of (drop (c.loop-at.at + 1) c.args.items.now.entries)) c.args.topic.now) is)

pub loop-at-preserved : goal.loop-at-preserved
loop-at-preserved c =
    let e : Key × Definition = (c.entry_at.result.0.now, c.entry_at.result.1.now) in
    let is : text_eq c.args.topic.now e.1.topic ≡ false = ap (λ (d : Definition). text_eq c.args.topic.now d.topic) (sym c.get.ensures) ∙ sym c.eq.ensures ∙ c.if-eq.false in
    c.loop-at.invariant ∙ ap (λ xs. is_member text_eq (topics_of xs) c.args.topic.now) (dropped_next c.args.items.now.entries c.loop-at.at e c.entry_at.ensures)
    ∙ ap (λ b. b || is_member text_eq (topics_of (drop (c.loop-at.at + 1) c.args.items.now.entries)) c.args.topic.now) is

use Rattle.std.proofs.Common.{◌≡◌, ◌∙◌, ◌+◌, true, false, ap, arith, drop, sym}
use Rattle.std.specs.Set.{is_member}
use Rattle.jm_dest.specs.Names.{text_eq}
use Rattle.jm_dest.specs.declared.key.Key.{Key}
use Rattle.jm_machine.specs.declared.state.Definition.{Definition}
use Rattle.jm_sub.specs.Entries.{topics_of}
use Rattle.jm_sub.proofs.Topics.{count_next}
use Rattle.jm_sub.proofs.subs.number_of_topics.Goals as goal
use Rattle.jm_sub.proofs.subs.number_of_topics.Goals.{then-not-is_topic_from, else-not-is_topic_from}

pub loop-at-preserved : goal.loop-at-preserved
loop-at-preserved c =
    let es = c.args.items.now.entries in
    let e : Key × Definition = (c.entry_at.result.0.now, c.entry_at.result.1.now) in
    elim c.if-not-is_topic_from.branch [
      | then-not-is_topic_from w ↦
          let there : is_member text_eq (topics_of (drop (c.loop-at.at + 1) es)) e.1.topic ≡ false =
          ap (λ (d : Definition). is_member text_eq (topics_of (drop (c.loop-at.at + 1) es)) d.topic) (sym c.get.ensures) ∙ sym c.is_topic_from.ensures ∙ (cc) in
          let count = count_next es c.loop-at.at e c.entry_at.ensures false there in
          (omega (arith, w.number-is, c.loop-at.invariant.0, count), omega (arith, w.number-is, c.loop-at.invariant.1))
      | else-not-is_topic_from w ↦
          let there : is_member text_eq (topics_of (drop (c.loop-at.at + 1) es)) e.1.topic ≡ true =
          ap (λ (d : Definition). is_member text_eq (topics_of (drop (c.loop-at.at + 1) es)) d.topic) (sym c.get.ensures) ∙ sym c.is_topic_from.ensures ∙ (cc) in
          let count = count_next es c.loop-at.at e c.entry_at.ensures true there in
          (omega (arith, w.number-is, c.loop-at.invariant.0, count), omega (arith, w.number-is, c.loop-at.invariant.1))
    ]

use Rattle.std.proofs.Common.{◌+◌, ◌++◌, take, sym, subst, ap, ◌∙◌, arith}
use Rattle.std.specs.Prelude.{slice_get}
use Rattle.jm_keep.specs.Calls.{ArePublished, brought}
use Rattle.jm_changes.proofs.Come.{item_is, more_come}
use Rattle.jm_changes.proofs.sending.published.Goals as goal

pub push_brought-requires : goal.push_brought-requires
push_brought-requires g c =
    ap (λ ms. slice_get ms c.loop-message.index) c.requires.messages
    ∙ ap (λ i. slice_get c.args.messages.now i) c.loop-message.invariant.counted
    ∙ item_is c.args.messages.now c.loop-message.message-index c.message-item.result c.loop-message-test.true c.message-item.is

pub loop-message-preserved : goal.loop-message-preserved
loop-message-preserved g c =
    let state = g.P.Planned.state c.args.planned.now in
    let b = c.in_ok-push_brought.ensures in
    let old = c.loop-message.changes.items in
    let i = c.loop-message.message-index in
    record {
      counted = omega (arith, c.loop-message.invariant.counted);
      come =
          subst (λ cs. ArePublished state state.next_place (take (i + 1) c.args.messages.now) cs)
          (sym (b.2 ∙ ap (λ n. old ++ brought c.message-item.result (n + c.loop-message.index) b.0) c.next_place-first.ensures ∙ ap (λ n. old ++ brought c.message-item.result (state.next_place + n) b.0) c.loop-message.invariant.counted))
          (more_come state state.next_place c.args.messages.now i c.message-item.result b.0 old c.loop-message-test.true c.message-item.is c.loop-message.invariant.come b.1);
    }

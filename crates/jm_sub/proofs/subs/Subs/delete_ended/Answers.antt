use Rattle.std.proofs.Common.{◌≡◌, ◌∙◌, ◌-◌, ◌<◌, suc, ap, arith, get_or, length, sym}
use Rattle.std.specs.Prelude.{map}
use Rattle.std.specs.List.{remove}
use Rattle.std.specs.Map.{keys_of}
use Rattle.jm_dest.specs.declared.key.Key.{Key}
use Rattle.jm_sub.specs.Subscriptions.{Subscription, Subscriptions}
use Rattle.jm_sub.proofs.Ended.{ended_from, ended_next, keys_listed, stays_next}
use Rattle.jm_sub.proofs.subs.Subs.delete_ended.Goals as goal

pub loop-end-preserved-then-ends : goal.loop-end-preserved-then-ends
loop-end-preserved-then-ends c =
    let which = c.args.which.now in
    let left = c.args.attached.now in
    let ss = c.args.self.now.list in
    let at = c.loop-end.end - 1 in
    let next : suc at ≡ c.loop-end.end = omega arith in
    let within : at < length ss = omega (arith, c.loop-end.invariant.1.1) in
    let there : c.loop-end.self.list ≡ ended_from which left (suc at) ss = c.loop-end.invariant.0 ∙ ap (λ n. ended_from which left n ss) (sym next) in
    let keys : keys_of c.self-in-loop-end.inside.items.entries ≡ map (λ (s : Subscription). s.key) (ended_from which left (suc at) ss) =
    keys_listed c.self-in-loop-end.inside.items.entries ∙ ap (λ (v : Subscriptions). map (λ (s : Subscription). s.key) v.list) c.self-in-loop-end.view_is ∙ ap (map (λ (s : Subscription). s.key)) there in
    let here : (d : Key) → c.key_at.result.now ≡ get_or (map (λ (s : Subscription). s.key) (ended_from which left (suc at) ss)) at d = λ d. c.key_at.ensures d ∙ ap (λ ks. get_or ks at d) keys in (
      c.take_out.ensures.list ∙ ap (λ xs. remove xs at) there ∙ ended_next which left ss at c.key_at.result.now within here (sym c.ends.ensures.left ∙ c.if-ends.true),
      (omega (arith, c.loop-end.invariant.1.0, c.take_out.ensures.spare), omega (arith, c.loop-end.invariant.1.1)),
    )

pub loop-end-preserved : goal.loop-end-preserved
loop-end-preserved c =
    let which = c.args.which.now in
    let left = c.args.attached.now in
    let ss = c.args.self.now.list in
    let at = c.loop-end.end - 1 in
    let next : suc at ≡ c.loop-end.end = omega arith in
    let within : at < length ss = omega (arith, c.loop-end.invariant.1.1) in
    let there : c.loop-end.self.list ≡ ended_from which left (suc at) ss = c.loop-end.invariant.0 ∙ ap (λ n. ended_from which left n ss) (sym next) in
    let keys : keys_of c.self-in-loop-end.inside.items.entries ≡ map (λ (s : Subscription). s.key) (ended_from which left (suc at) ss) =
    keys_listed c.self-in-loop-end.inside.items.entries ∙ ap (λ (v : Subscriptions). map (λ (s : Subscription). s.key) v.list) c.self-in-loop-end.view_is ∙ ap (map (λ (s : Subscription). s.key)) there in
    let here : (d : Key) → c.key_at.result.now ≡ get_or (map (λ (s : Subscription). s.key) (ended_from which left (suc at) ss)) at d = λ d. c.key_at.ensures d ∙ ap (λ ks. get_or ks at d) keys in (
      there ∙ stays_next which left ss at c.key_at.result.now within here (sym c.ends.ensures.left ∙ c.if-ends.false),
      (omega (arith, c.loop-end.invariant.1.0), omega (arith, c.loop-end.invariant.1.1)),
    )

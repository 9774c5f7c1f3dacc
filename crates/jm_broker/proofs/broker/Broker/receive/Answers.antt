use Rattle.std.proofs.Common.{sym, ◌∙◌, subst, ℕ, refl, arith}
use Rattle.jm_broker.proofs.Waits.{begins, goes_on, stops, ends, nothing_is, WaitedFor}
use Rattle.jm_broker.proofs.broker.Broker.receive.Goals as goal

pub returns-then-turns-eq0 : goal.returns-then-turns-eq0
returns-then-turns-eq0 g c = ends c.args.session.now c.args.consumer c.args.turns c.args.pass.now c.args.pass.now _ (begins c.args.session.now c.args.consumer c.args.pass.now c.args.turns c.if-turns-eq0.true) refl

pub returns-then-not-is_nothing : goal.returns-then-not-is_nothing
returns-then-not-is_nothing g c =
    stops c.args.session.now c.args.consumer c.loop-turn.turn c.args.turns c.now-now.result c.args.pass.now c.loop-turn.pass c.receive-reply.new.pass c.receive-reply.result
    c.loop-turn.invariant c.receive-reply.ensures (omega arith) (sym c.is_nothing.ensures ∙ c.if-not-is_nothing.true)

pub returns-then-turn-turns : goal.returns-then-turn-turns
returns-then-turn-turns g c =
    let r = c.receive-reply.result in
    let nothing = sym c.is_nothing.ensures ∙ c.if-not-is_nothing.false in
    let all = goes_on c.args.session.now c.args.consumer c.loop-turn.turn c.now-now.result c.args.pass.now c.loop-turn.pass c.receive-reply.new.pass r c.loop-turn.invariant c.receive-reply.ensures nothing in
    let P : ℕ → Type 0 = λ k. WaitedFor c.args.session.now c.args.consumer c.args.pass.now c.receive-reply.new.pass k in
    ends c.args.session.now c.args.consumer c.args.turns c.args.pass.now c.receive-reply.new.pass r (subst P c.if-turn-turns.true all) (nothing_is r nothing)

pub loop-turn-preserved : goal.loop-turn-preserved
loop-turn-preserved g c =
    let nothing = sym c.is_nothing.ensures ∙ c.if-not-is_nothing.false in
    goes_on c.args.session.now c.args.consumer c.loop-turn.turn c.now-now.result c.args.pass.now c.loop-turn.pass c.receive-reply.new.pass c.receive-reply.result c.loop-turn.invariant c.receive-reply.ensures nothing

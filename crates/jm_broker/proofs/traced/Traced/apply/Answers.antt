use Rattle.std.proofs.Common.{◌≡◌, arith, ◌^◌, ◌<◌, length}
use Rattle.jm_broker.specs.Calls.{HasSame}
use Rattle.jm_broker.specs.Traces.{event}
use Rattle.jm_machine.specs.Entries.{is_not_made}
use Rattle.jm_broker.proofs.Pushed.{still_legal, still_counted, still_within}
use Rattle.jm_broker.proofs.traced.Traced.apply.Goals as goal

pub invariant_of-self-2 : goal.invariant_of-self-2
invariant_of-self-2 g c =
    let t = c.self.inside in
    let v = c.self.invariant in
    let n = c.advance.new in
    let a = c.advance.ensures in
    let b = is_not_made c.advance.result in
    let e = event c.args.step.now c.advance.result in
    let state = g.C.PlannedCore.state in
    let Q : Type 0 = (state n.core ≡ state t.core) × (n.events.items ≡ t.events.items) × HasSame c.args.pass.now n.pass × (n.book.total ≡ t.book.total) in
    let less : length t.events.items < 2 ^ 62 = omega (arith, c.if-len-ge-MOST.false, c.len.ensures, t.events.ok) in
    let legal = still_legal b (state t.opening) (state t.core) (state n.core) t.events.items n.events.items c.args.step.now c.advance.result Q v.legal v.ends a.reply a.events a.same (λ h. (h.0, h.1)) in
    record {
      legal = legal.0;
      ends = legal.1;
      kept = λ clean. a.kept clean (v.kept (a.clean clean));
      counted = still_counted b t.first t.book.total n.book.total t.events.items n.events.items e Q v.counted a.events a.counted a.same (λ h. (h.1, h.3));
      in_range = v.in_range;
      in_size = still_within b (2 ^ 62) t.events.items n.events.items e Q less a.events a.same (λ h. h.1);
      rest_parts = v.rest_parts;
      rest_amount = v.rest_amount;
      some_left = v.some_left;
    }

use Rattle.std.proofs.Common.{◌∙◌, ap, sym, subst, refl, true, inl, arith, get_or, List, None}
use Rattle.jm_machine.specs.declared.state.Row.{Row}
use Rattle.jm_machine.specs.Machine.{delivery}
use Rattle.jm_machine.specs.Rows.{deliver, live, next}
use Rattle.jm_stations.specs.Backlogs.{any, empty, gone}
use Rattle.jm_stations.proofs.Any.{answered_any, changed_any}
use Rattle.jm_rows.specs.Rows.{IsOneAtMost}
use Rattle.jm_rows.proofs.Single.{answered_first, rows_delivered}
use Rattle.jm_rows.proofs.rows.Rows.settle_next.Goals as goal

pub receive-requires-clause-picked : goal.receive-requires-clause-picked
receive-requires-clause-picked c = (any, c.in_ok-picked.ensures.any)

pub invariant_of-self : goal.invariant_of-self
invariant_of-self c =
    subst (λ n. IsOneAtMost n c.receive.new.self.list) (sym c.receive.ensures.next_place)
    (rows_delivered c.self.inside.stations.next_place c.args.now gone (λ r. inl refl) c.self.inside.stations.list c.receive.new.self.list c.self.invariant (c.receive.ensures.list any c.in_ok-picked.ensures.any ∙ changed_any c.args.now 0 gone c.self.inside.stations.list)).0

pub returns-clause-answer : goal.returns-clause-answer
returns-clause-answer c =
    c.receive.ensures.answer any (empty None) c.in_ok-picked.ensures.any
    ∙ answered_any c.args.now (get_or c.self.inside.stations.list 0 (empty None)).rows
    ∙ answered_first c.self.inside.stations.list c.args.now (empty None) (omega (arith, c.len.ensures.list, c.if-len-eq0.false))
    ∙ ap (λ (x : List Row). delivery (next c.args.now (live c.args.now x))) c.self.view_is

pub returns-clause-rows : goal.returns-clause-rows
returns-clause-rows c =
    (rows_delivered c.self.inside.stations.next_place c.args.now gone (λ r. inl refl) c.self.inside.stations.list c.receive.new.self.list c.self.invariant (c.receive.ensures.list any c.in_ok-picked.ensures.any ∙ changed_any c.args.now 0 gone c.self.inside.stations.list)).1
    ∙ ap (λ (x : List Row). deliver c.args.now gone x) c.self.view_is

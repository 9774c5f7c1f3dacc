use Rattle.std.proofs.Common.{◌∙◌, ap, sym, subst, refl, false, inr, arith, get_or, List, None}
use Rattle.jm_machine.specs.declared.state.Row.{Row}
use Rattle.jm_machine.specs.Machine.{delivery}
use Rattle.jm_machine.specs.Rows.{deliver, live, next, sent_out}
use Rattle.jm_stations.specs.Backlogs.{any, empty, out_row}
use Rattle.jm_stations.proofs.Any.{answered_any, changed_any}
use Rattle.jm_rows.specs.Rows.{IsOneAtMost}
use Rattle.jm_rows.proofs.Single.{answered_first, rows_delivered}
use Rattle.jm_rows.proofs.rows.Rows.take.Goals as goal

pub deliver-requires-clause-picked : goal.deliver-requires-clause-picked
deliver-requires-clause-picked c = (any, c.in_ok-picked.ensures.any)

pub invariant_of-self : goal.invariant_of-self
invariant_of-self c =
    subst (λ n. IsOneAtMost n c.deliver.new.self.list) (sym c.deliver.ensures.next_place)
    (rows_delivered c.self.inside.stations.next_place c.args.now (out_row c.args.session.now c.args.consumer) (λ r. inr (sent_out c.args.session.now c.args.consumer r, refl)) c.self.inside.stations.list c.deliver.new.self.list c.self.invariant (c.deliver.ensures.list any c.in_ok-picked.ensures.any ∙ changed_any c.args.now 0 (out_row c.args.session.now c.args.consumer) c.self.inside.stations.list)).0

pub returns-clause-answer : goal.returns-clause-answer
returns-clause-answer c =
    c.deliver.ensures.answer any (empty None) c.in_ok-picked.ensures.any
    ∙ answered_any c.args.now (get_or c.self.inside.stations.list 0 (empty None)).rows
    ∙ answered_first c.self.inside.stations.list c.args.now (empty None) (omega (arith, c.len.ensures.list, c.if-len-eq0.false))
    ∙ ap (λ (x : List Row). delivery (next c.args.now (live c.args.now x))) c.self.view_is

pub returns-clause-rows : goal.returns-clause-rows
returns-clause-rows c =
    (rows_delivered c.self.inside.stations.next_place c.args.now (out_row c.args.session.now c.args.consumer) (λ r. inr (sent_out c.args.session.now c.args.consumer r, refl)) c.self.inside.stations.list c.deliver.new.self.list c.self.invariant (c.deliver.ensures.list any c.in_ok-picked.ensures.any ∙ changed_any c.args.now 0 (out_row c.args.session.now c.args.consumer) c.self.inside.stations.list)).1
    ∙ ap (λ (x : List Row). deliver c.args.now (out_row c.args.session.now c.args.consumer) x) c.self.view_is

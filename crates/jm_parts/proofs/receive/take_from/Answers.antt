use Rattle.std.proofs.Common.{◌≡◌, ◌∙◌, true, false, ap, subst, sym, Bool, Some}
use Rattle.jm_machine.specs.Machine.{at_queue}
use Rattle.jm_machine.specs.Rows.{deliver_chosen, settles_at_once}
use Rattle.jm_stations.specs.Backlogs.{IsPicked}
use Rattle.jm_queues.specs.Queues.{rows_in}
use Rattle.jm_parts.proofs.Left.{left_out, left_settled}
use Rattle.jm_parts.proofs.receive.take_from.Goals as goal

pub receive-requires-clause-picked : goal.receive-requires-clause-picked
receive-requires-clause-picked c =
    let r = c.args.receiver.now in
    let at_once : settles_at_once (Some r.mode) ≡ true = sym c.settles.ensures ∙ c.if-settles.true in
    (c.requires.picked.0, subst (λ (b : Bool). IsPicked c.requires.picked.0 b r.moment c.args.queues.now.list c.args.index c.args.picked) at_once c.requires.picked.1)

pub deliver-requires-clause-picked : goal.deliver-requires-clause-picked
deliver-requires-clause-picked c =
    let r = c.args.receiver.now in
    let later : settles_at_once (Some r.mode) ≡ false = sym c.settles.ensures ∙ c.if-settles.false in
    (c.requires.picked.0, subst (λ (b : Bool). IsPicked c.requires.picked.0 b r.moment c.args.queues.now.list c.args.index c.args.picked) later c.requires.picked.1)

pub returns-then-settles-clause-answer : goal.returns-then-settles-clause-answer
returns-then-settles-clause-answer c = λ name p h picked.
    let r = c.args.receiver.now in
    let at_once : settles_at_once (Some r.mode) ≡ true = sym c.settles.ensures ∙ c.if-settles.true in
    c.receive.ensures.answer name p h (subst (λ (b : Bool). IsPicked p b r.moment c.args.queues.now.list c.args.index c.args.picked) at_once picked)

pub returns-then-settles-clause-rows : goal.returns-then-settles-clause-rows
returns-then-settles-clause-rows c = λ name p h picked.
    let r = c.args.receiver.now in
    let at_once : settles_at_once (Some r.mode) ≡ true = sym c.settles.ensures ∙ c.if-settles.true in
    c.receive.ensures.rows name p h (subst (λ (b : Bool). IsPicked p b r.moment c.args.queues.now.list c.args.index c.args.picked) at_once picked)
    ∙ ap (λ f. at_queue name (deliver_chosen p r.moment f) (rows_in c.args.queues.now)) (left_settled r.mode r.session r.consumer at_once)

pub returns-clause-answer : goal.returns-clause-answer
returns-clause-answer c = λ name p h picked.
    let r = c.args.receiver.now in
    let later : settles_at_once (Some r.mode) ≡ false = sym c.settles.ensures ∙ c.if-settles.false in
    c.deliver.ensures.answer name p h (subst (λ (b : Bool). IsPicked p b r.moment c.args.queues.now.list c.args.index c.args.picked) later picked)

pub returns-clause-rows : goal.returns-clause-rows
returns-clause-rows c = λ name p h picked.
    let r = c.args.receiver.now in
    let later : settles_at_once (Some r.mode) ≡ false = sym c.settles.ensures ∙ c.if-settles.false in
    c.deliver.ensures.rows name p h (subst (λ (b : Bool). IsPicked p b r.moment c.args.queues.now.list c.args.index c.args.picked) later picked)
    ∙ ap (λ f. at_queue name (deliver_chosen p r.moment f) (rows_in c.args.queues.now)) (left_out r.mode r.session r.consumer later)

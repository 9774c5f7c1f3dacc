use Rattle.std.proofs.Common.{◌≡◌, ◌∙◌, true, false, ap, get_or, subst, sym, Bool, Some}
use Rattle.jm_machine.specs.Rows.{deliver_placed, settles_at_once}
use Rattle.jm_stations.specs.Backlogs.{Backlog, IsPicked, any, changed_at, gone, out_row}
use Rattle.jm_stations.proofs.Any.{answered_any, changed_any}
use Rattle.jm_parts.proofs.Left.{left_out, left_settled}
use Rattle.jm_parts.proofs.receive.deliver_from.Goals as goal

pub receive-requires-clause-picked : goal.receive-requires-clause-picked
receive-requires-clause-picked c =
    let r = c.args.receiver.now in
    let at_once : settles_at_once (Some r.mode) ≡ true = sym c.settles.ensures ∙ c.if-settles.true in
    (any, subst (λ (b : Bool). IsPicked any b r.moment c.args.stations.now.list c.args.index c.args.picked) at_once c.requires.picked)

pub deliver-requires-clause-picked : goal.deliver-requires-clause-picked
deliver-requires-clause-picked c =
    let r = c.args.receiver.now in
    let later : settles_at_once (Some r.mode) ≡ false = sym c.settles.ensures ∙ c.if-settles.false in
    (any, subst (λ (b : Bool). IsPicked any b r.moment c.args.stations.now.list c.args.index c.args.picked) later c.requires.picked)

pub returns-then-settles-clause-answer : goal.returns-then-settles-clause-answer
returns-then-settles-clause-answer c = λ d.
    let r = c.args.receiver.now in
    let at_once : settles_at_once (Some r.mode) ≡ true = sym c.settles.ensures ∙ c.if-settles.true in
    c.receive.ensures.answer any d (subst (λ (b : Bool). IsPicked any b r.moment c.args.stations.now.list c.args.index c.args.picked) at_once c.requires.picked)
    ∙ answered_any r.moment (get_or c.args.stations.now.list c.args.index d).rows

pub returns-then-settles-clause-list : goal.returns-then-settles-clause-list
returns-then-settles-clause-list c =
    let r = c.args.receiver.now in
    let at_once : settles_at_once (Some r.mode) ≡ true = sym c.settles.ensures ∙ c.if-settles.true in
    c.receive.ensures.list any (subst (λ (b : Bool). IsPicked any b r.moment c.args.stations.now.list c.args.index c.args.picked) at_once c.requires.picked)
    ∙ changed_any r.moment c.args.index gone c.args.stations.now.list
    ∙ ap (λ f. changed_at c.args.index (λ (b : Backlog). record b { rows = deliver_placed r.moment f b.rows }) c.args.stations.now.list) (left_settled r.mode r.session r.consumer at_once)

pub returns-clause-answer : goal.returns-clause-answer
returns-clause-answer c = λ d.
    let r = c.args.receiver.now in
    let later : settles_at_once (Some r.mode) ≡ false = sym c.settles.ensures ∙ c.if-settles.false in
    c.deliver.ensures.answer any d (subst (λ (b : Bool). IsPicked any b r.moment c.args.stations.now.list c.args.index c.args.picked) later c.requires.picked)
    ∙ answered_any r.moment (get_or c.args.stations.now.list c.args.index d).rows

pub returns-clause-list : goal.returns-clause-list
returns-clause-list c =
    let r = c.args.receiver.now in
    let later : settles_at_once (Some r.mode) ≡ false = sym c.settles.ensures ∙ c.if-settles.false in
    c.deliver.ensures.list any (subst (λ (b : Bool). IsPicked any b r.moment c.args.stations.now.list c.args.index c.args.picked) later c.requires.picked)
    ∙ changed_any r.moment c.args.index (out_row r.session r.consumer) c.args.stations.now.list
    ∙ ap (λ f. changed_at c.args.index (λ (b : Backlog). record b { rows = deliver_placed r.moment f b.rows }) c.args.stations.now.list) (left_out r.mode r.session r.consumer later)

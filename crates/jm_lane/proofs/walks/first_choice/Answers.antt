use Rattle.std.proofs.Common.{◌≡◌, ◌≤◌, ◌<◌, ◌∙◌, ◌&&◌, ap, sym, subst, arith, false, not, take, drop, length, get_or}
use Rattle.std.proofs.lemmas.List.{take_all}
use Rattle.std.proofs.lemmas.List.Elements.{All-more, All-weaker}
use Rattle.jm_lane.specs.Rows.{is_waiting, is_expired, is_held_back, is_ready}
use Rattle.jm_lane.specs.Chosen.{goes_before, is_better, is_choice, passes, row_of}
use Rattle.jm_selector.specs.Selectors.{matches}
use Rattle.jm_lane.proofs.Choice.{none_behind, out_not_better, fails_left, fails_right}
use Rattle.jm_lane.proofs.Dues.{all_joined, rest_unready}
use Rattle.jm_lane.specs.declared.row.Row.{Row}
use Rattle.jm_lane.proofs.walks.first_choice.Goals as goal

pub loop-i-init : goal.loop-i-init
loop-i-init c =
    let best = row_of c.args.best.now in
    let p = matches c.args.selector.now in
    All-weaker (λ r. is_waiting r ≡ false) (λ r. is_better best p c.args.table.now c.args.now r ≡ false) (λ r out. out_not_better (goes_before best r) (is_waiting r) (not (is_expired c.args.now r) && not (is_held_back c.args.now r)) (passes p c.args.table.now r) out) (take c.args.low c.args.rows.now.items) c.requires.before

pub returns-then-not-goes_before-clause-before : goal.returns-then-not-goes_before-clause-before
returns-then-not-goes_before-clause-before c =
    let best = row_of c.args.best.now in
    let rows = c.args.rows.now.items in
    let choice = is_choice (matches c.args.selector.now) c.args.table.now c.args.now in
    let before : goes_before best (get_or rows c.loop-i.i c.index-row.result.now) ≡ false = ap (goes_before best) (sym c.index-row.ensures) ∙ sym c.goes_before.ensures ∙ c.if-not-goes_before.true in
    let end : length rows ≤ c.len.result = omega arith in
    rw (take_all c.len.result rows end) (none_behind best choice c.requires.same.0 rows c.loop-i.i c.index-row.result.now c.requires.same.1 c.requires.rising (omega arith) before c.loop-i.invariant)

pub returns-then-holds_back_rest-clause-before : goal.returns-then-holds_back_rest-clause-before
returns-then-holds_back_rest-clause-before c =
    let best = row_of c.args.best.now in
    let p = matches c.args.selector.now in
    let rows = c.args.rows.now.items in
    let i = c.loop-i.i in
    let early = subst (λ (r : Row). c.args.now < r.due) c.index-row.ensures (c.holds_back_rest.ensures.row c.if-holds_back_rest.true) in
    let rest = rest_unready c.args.now i rows c.index-row.result.now (c.requires.turn (c.holds_back_rest.ensures.turn c.if-holds_back_rest.true)) (omega arith) early in
    let end : length rows ≤ c.len-then-holds_back_rest.result = omega arith in
    rw (take_all c.len-then-holds_back_rest.result rows end) (all_joined (λ r. is_better best p c.args.table.now c.args.now r ≡ false) i rows c.loop-i.invariant (All-weaker (λ r. is_ready c.args.now r ≡ false) (λ r. is_better best p c.args.table.now c.args.now r ≡ false) (λ r e. fails_right (goes_before best r) (is_choice p c.args.table.now c.args.now r) (fails_left (is_ready c.args.now r) (passes p c.args.table.now r) e)) (drop i rows) rest))

pub loop-i-preserved : goal.loop-i-preserved
loop-i-preserved c =
    let best = row_of c.args.best.now in
    let p = matches c.args.selector.now in
    let row = c.index-row.result.now in
    let there = get_or c.args.rows.now.items c.loop-i.i row in
    let choice : is_choice p c.args.table.now c.args.now there ≡ false = ap (is_choice p c.args.table.now c.args.now) (sym c.index-row.ensures) ∙ sym c.is_choice.ensures ∙ c.if-is_choice.false in
    All-more (λ r. is_better best p c.args.table.now c.args.now r ≡ false) _ c.loop-i.i row (omega arith) c.loop-i.invariant (fails_right (goes_before best there) (is_choice p c.args.table.now c.args.now there) choice)

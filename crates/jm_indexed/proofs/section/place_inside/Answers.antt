use Rattle.std.proofs.Common.{Option, Some, None, IfSome}
use Rattle.std.specs.Prelude.{IfNone, MatchOption}
use Rattle.jm_indexed.specs.Order.{IsInsideAt, IsOutsideFrom}
use Rattle.jm_indexed.proofs.Sections.{outside_all}
use Rattle.jm_indexed.proofs.section.place_inside.Goals as goal

matched : {X : Type 0} (r : Option X) (P : X → Type 0) (Q R : Type 0) → (Q → R) → IfSome r P → IfNone r Q → MatchOption r R P
matched None P Q R follows found none = follows none
matched (Some x) P Q R follows found none = found

pub returns-in-None : goal.returns-in-None
returns-in-None g c =
    let place = g.S.Section.place c.args.section.now in
    let keys = c.args.keys.now in
    let slots = c.args.values.now.slots in
    let order = c.args.order.now in
    let counted = c.count_ahead-first.ensures in
    let first = c.count_ahead-first.result in
    let next = c.next_inside-in-None in
    matched next.result (IsInsideAt place keys slots order) _ (IsOutsideFrom place keys slots order 0) (λ none. outside_all place keys slots order g.K.Ord.cmp c.requires first counted.ahead (none counted.begun)) next.ensures.found next.ensures.none

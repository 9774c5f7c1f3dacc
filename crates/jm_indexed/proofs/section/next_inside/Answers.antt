use Rattle.std.proofs.Common.{◌<◌, ◌∙◌, ap, arith, get_or, length, sym}
use Rattle.std.specs.Ordering.{is_eq}
use Rattle.std.proofs.lemmas.List.{get_or_read}
use Rattle.jm_indexed.proofs.Sections.{outside_from}
use Rattle.jm_indexed.proofs.section.next_inside.Goals as goal

pub returns-then-not-is_eq-clause-none : goal.returns-then-not-is_eq-clause-none
returns-then-not-is_eq-clause-none g c =
    let keys = c.args.keys.now in
    let order = c.args.order.now in
    let section = c.args.section.now in
    let at = c.loop-at.at in
    let inside : at < length order = omega arith in
    let read = get_or_read keys (get_or order at 0) c.index-keys-slot.result (c.requires.within at 0 inside) c.index-keys-slot.is in
    outside_from (g.S.Section.place section) (g.met.S.Section.monotone section) keys order c.requires at inside c.index-keys-slot.result read c.args.values.now.slots c.args.first c.loop-at.auto.at c.loop-at.invariant
    (ap is_eq (sym c.compare.ensures) ∙ sym c.is_eq.ensures ∙ c.if-not-is_eq.true)

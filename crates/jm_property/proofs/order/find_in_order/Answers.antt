use Rattle.std.proofs.Common.{◌≡◌, ◌<◌, ◌∙◌, false, ap, arith, subst, length, get_or, rules}
use Rattle.std.specs.Str.{bytes_eq}
use Rattle.jm_property.specs.Same.{names_of}
use Rattle.jm_property.proofs.Orders.{none_behind, none_other}
use Rattle.jm_property.proofs.Tables.{name_is, named, names_length, value_of-absent}
use Rattle.jm_property.proofs.order.find_in_order.Goals as goal

pub returns-then-at-order : goal.returns-then-at-order
returns-then-at-order c =
    let counted = c.count_before-at.ensures in (
      tt,
      λ e. value_of-absent c.args.entries.now c.args.name.now (none_behind (names_of c.args.entries.now) c.args.order.now c.requires c.args.name.now c.count_before-at.result counted.before counted.behind c.if-at-order.true),
    )

pub returns-then-eq : goal.returns-then-eq
returns-then-eq c =
    let place = get_or c.args.order.now c.count_before-at.result 0 in
    let inside : c.count_before-at.result < length c.args.order.now = omega (arith, c.count_before-at.ensures.within, c.if-at-order.false) in
    let within : place < length c.args.entries.now = subst (λ n. place < n) (names_length c.args.entries.now) (c.requires.within c.count_before-at.result inside) in (
      named c.args.entries.now place c.index-entries-place.result c.args.name.now within c.index-entries-place.is (search rules),
      λ e. cc,
    )

pub returns-else-eq : goal.returns-else-eq
returns-else-eq c =
    let counted = c.count_before-at.ensures in
    let place = get_or c.args.order.now c.count_before-at.result 0 in
    let inside : c.count_before-at.result < length c.args.order.now = omega (arith, counted.within, c.if-at-order.false) in
    let within : place < length c.args.entries.now = subst (λ n. place < n) (names_length c.args.entries.now) (c.requires.within c.count_before-at.result inside) in
    let apart : bytes_eq c.index-entries-place.result.0 c.args.name.now ≡ false = search rules in (
      tt,
      λ e. value_of-absent c.args.entries.now c.args.name.now
          (none_other (names_of c.args.entries.now) c.args.order.now c.requires c.args.name.now c.count_before-at.result counted.before counted.behind
          (ap (λ name. bytes_eq name c.args.name.now) (name_is c.args.entries.now place c.index-entries-place.result within c.index-entries-place.is) ∙ apart)),
    )

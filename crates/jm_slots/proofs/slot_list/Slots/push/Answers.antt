use Rattle.std.proofs.Common.{◌∙◌, arith, ap, sym}
use Rattle.jm_slots.specs.Items.{gaps_from, items}
use Rattle.jm_slots.proofs.Items.{gaps-push, items-push}
use Rattle.jm_slots.proofs.slot_list.Slots.push.Goals as goal

pub invariant_of-self : goal.invariant_of-self
invariant_of-self g c = (
  c.self.invariant.0 ∙ sym (gaps-push 0 c.self.inside.slots.items c.args.item) ∙ ap (gaps_from 0) (sym c.push_reserved.ensures.items),
  omega (arith, c.requires, ap (λ s. s.spare) c.self.view_is, c.push_reserved.ensures.len, c.push_reserved.new.self.ok, c.self.inside.slots.ok),
)

pub returns-clause-items : goal.returns-clause-items
returns-clause-items g c = rw (← c.self.view_is) (ap items c.push_reserved.ensures.items ∙ items-push c.self.inside.slots.items c.args.item)

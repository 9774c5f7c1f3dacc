use Rattle.std.proofs.Common.{◌∙◌, ap, sym, nat_eq}
use Rattle.jm_grouped.proofs.Taken.{length-items_of}
use Rattle.jm_grouped.proofs.grouped_list.GroupedList.is_empty.Goals as goal

pub returns : goal.returns
returns g c = rw (← c.self.view_is) (c.is_empty.ensures ∙ ap (λ n. nat_eq n 0) (sym (length-items_of c.self.inside.items.items c.self.inside.slots.slots c.self.invariant.even)))

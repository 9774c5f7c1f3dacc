use Rattle.std.proofs.Common.{◌≡◌, ◌∙◌, Some, ap, arith, get_or, length, map}
use Rattle.std.specs.Prelude.{nat_lt}
use Rattle.std.specs.List.{filter}
use Rattle.jm_slots.specs.Items.{items}
use Rattle.jm_slots.specs.Marks.{marked_below}
use Rattle.jm_indexed.proofs.Marked.{IsKept, are_kept, marks_each, marks_from}
use Rattle.jm_indexed.proofs.sweep.keep_entries.Given.{Over}
use Rattle.jm_indexed.proofs.sweep.keep_entries.Goals as goal

pub keep_places-requires : goal.keep_places-requires
keep_places-requires g c =
    let many = marks_each (g.C.EntryChoice.kept c.args.choice.now) c.args.keys.now.items c.deref.result.now c.args.values.now.slots c.mark_slots.new.marks.items c.requires.even c.deref.ensures.value c.mark_slots.ensures.marks in
    λ k d l. omega (arith, many, c.deref-2.ensures.len, c.mark_slots.new.marks.ok, c.requires.ordered.rises.within k d l)

pub keep_marked-requires : goal.keep_marked-requires
keep_marked-requires g c =
    let many = marks_each (g.C.EntryChoice.kept c.args.choice.now) c.args.keys.now.items c.deref.result.now c.args.values.now.slots c.mark_slots.new.marks.items c.requires.even c.deref.ensures.value c.mark_slots.ensures.marks in
    omega (arith, many, c.deref-3.ensures.len, c.mark_slots.new.marks.ok, c.args.keys.now.ok)

pub retain_marked-requires : goal.retain_marked-requires
retain_marked-requires g c =
    let many = marks_each (g.C.EntryChoice.kept c.args.choice.now) c.args.keys.now.items c.deref.result.now c.args.values.now.slots c.mark_slots.new.marks.items c.requires.even c.deref.ensures.value c.mark_slots.ensures.marks in
    omega (arith, many, c.deref-4.ensures.len, c.mark_slots.new.marks.ok, c.requires.even)

-- what is left
left : (g : Over) (c : goal.After-clear g) → IsKept g.met.K.Ord.total c.args.keys.now.items c.args.values.now.slots c.args.order.now.items c.requires.ordered c.requires.even (g.C.EntryChoice.kept c.args.choice.now) c.keep_marked.new.items.items c.retain_marked.new.self.slots c.keep_places.new.order.items
left g c =
    let keys = c.args.keys.now.items in
    let slots = c.args.values.now.slots in
    let order = c.args.order.now.items in
    let marks = c.mark_slots.new.marks.items in
    let written = marks_from (g.C.EntryChoice.kept c.args.choice.now) keys c.deref.result.now slots marks c.deref.ensures.value c.mark_slots.ensures.marks in
    let gone : c.len-gone.result ≡ length keys = omega (arith, c.len-gone.ensures, c.args.keys.now.ok) in
    let keys_is = c.keep_marked.ensures.items ∙ ap (λ ms. marked_below c.len-gone.result ms keys) c.deref-3.ensures.value in
    let slots_is = c.retain_marked.ensures.slots ∙ ap (λ ms. map (λ v. Some v) (items (marked_below c.len-gone.result ms slots))) c.deref-4.ensures.value in
    let order_is = c.keep_places.ensures.items ∙ ap (λ ms. filter (λ n. nat_lt n (length ms)) (map (λ n. get_or ms n 0) order)) c.deref-2.ensures.value in
    are_kept g.met.K.Ord.total keys slots order c.requires.ordered c.requires.even (g.C.EntryChoice.kept c.args.choice.now) marks c.len-gone.result written gone
    c.keep_marked.new.items.items c.retain_marked.new.self.slots c.keep_places.new.order.items keys_is slots_is order_is

pub returns-clause-indexed : goal.returns-clause-indexed
returns-clause-indexed g c =
    let kept = left g c in
    let fewer = kept.fewer in
    record {
      ordered = kept.ordered;
      even = kept.as_many;
      unmarked = c.clear.ensures.items;
      fits = omega (arith, fewer, c.clear.ensures.capacity, c.mark_slots.ensures.capacity, c.requires.fits);
    }

pub returns-clause-entries : goal.returns-clause-entries
returns-clause-entries g c = let kept = left g c in kept.entries

use Rattle.std.proofs.Common.{◌≡◌, ◌+◌, ◌∙◌, ap, arith, is_some, sym, None, Some}
use Rattle.std.specs.Map.{lookup}
use Rattle.std.specs.Option.{option_copied_mut}
use Rattle.jm_machine.specs.Attached.{number_at}
use Rattle.jm_machine.proofs.Counts.{none_held, one_more, some_held}
use Rattle.jm_machine.proofs.Keys.{set_eq}
use Rattle.jm_machine.proofs.attached.Attached.join.Goals as goal

pub returns-in-None-clause-number : goal.returns-in-None-clause-number
returns-in-None-clause-number c = λ k.
    let same = c.get_mut.follows.holds-at-none in
    let absent : lookup (set_eq c.args.key) c.self.inside.counts.entries ≡ None = sym c.get_mut.ensures.value ∙ ap option_copied_mut c.in-None.is in
    let none = none_held c.self.inside.counts.entries c.args.key absent in
    rw (← c.self.view_is) (one_more c.self.inside.counts.entries c.insert.new.self.entries c.args.key 1 (omega (arith, none))
    (λ q. rw same at (c.insert.ensures.updates q)) k)

pub overflow_add-number : goal.overflow_add-number
overflow_add-number c =
    let some : lookup (set_eq c.args.key) c.self.inside.counts.entries ≡ Some c.in-Some.number.now = sym c.get_mut.ensures.value ∙ ap option_copied_mut c.in-Some.is in
    let held_is = some_held c.self.inside.counts.entries c.args.key c.in-Some.number.now some in
    let before = ap (λ s. number_at s c.args.key) c.self.view_is in
    omega (arith, c.requires.fits, held_is, before)

pub returns-in-Some-clause-number : goal.returns-in-Some-clause-number
returns-in-Some-clause-number c = λ k.
    let n = c.in-Some.number.now + 1 in
    let some : lookup (set_eq c.args.key) c.self.inside.counts.entries ≡ Some c.in-Some.number.now = sym c.get_mut.ensures.value ∙ ap option_copied_mut c.in-Some.is in
    let held_is = some_held c.self.inside.counts.entries c.args.key c.in-Some.number.now some in
    rw (← c.self.view_is) (one_more c.self.inside.counts.entries (c.get_mut.follows.lender n).entries c.args.key n (ap (λ m. m + 1) (sym held_is)) ((c.get_mut.follows.holds n).updates (ap is_some some)) k)

use Rattle.std.proofs.Common.{ap, sym, ◌∙◌}
use Rattle.std.specs.Option.{option_copied_mut}
use Rattle.jm_tx.specs.declared.buffer.Buffer.{Buffer}
use Rattle.jm_tx.proofs.Kept.{through, noted, nothing_back, sent_stays, kept_written, room_stays}
use Rattle.jm_tx.proofs.halves.Halves.put_back.Goals as goal

pub put_back-requires : goal.put_back-requires
put_back-requires c = sym (noted c.args.self.now c.args.session.now _ (sym c.in-Some.ensures.value)).1 ∙ c.requires.none

pub returns-in-Some-clause-sent : goal.returns-in-Some-clause-sent
returns-in-Some-clause-sent c =
    let old = c.args.self.now in
    let s = c.args.session.now in
    let is = sym c.in-Some.ensures.value in
    sent_stays old _ s c.put_back.new.self (through old _ s c.in-Some.half.now c.put_back.new.self is (c.get_mut.follows.holds c.put_back.new.self))
    (ap (λ (x : Buffer). x.sent) c.put_back.ensures ∙ sym (noted old s _ is).0)

pub returns-in-Some-clause-kept : goal.returns-in-Some-clause-kept
returns-in-Some-clause-kept c =
    let old = c.args.self.now in
    let s = c.args.session.now in
    kept_written old _ s c.put_back.new.self (through old _ s c.in-Some.half.now c.put_back.new.self (sym c.in-Some.ensures.value) (c.get_mut.follows.holds c.put_back.new.self))
    _ (ap (λ (x : Buffer). x.messages) c.put_back.ensures)

pub returns-in-Some-clause-room : goal.returns-in-Some-clause-room
returns-in-Some-clause-room c = room_stays c.args.self.now _ c.args.session.now c.put_back.new.self (c.get_mut.follows.holds c.put_back.new.self)

pub returns-in_default-clause-kept : goal.returns-in_default-clause-kept
returns-in_default-clause-kept c =
    let none = sym c.get_mut.ensures.value ∙ ap option_copied_mut c.in_default.is in
    rw c.get_mut.follows.holds-at-none (nothing_back c.args.self.now c.args.session.now c.args.messages.items none c.requires.back)

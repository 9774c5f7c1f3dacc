use Rattle.std.proofs.Common.{[], None, ap, sym, inl, ◌∙◌}
use Rattle.std.specs.Option.{option_copied_mut}
use Rattle.jm_tx.specs.declared.buffer.Buffer.{Buffer}
use Rattle.jm_tx.specs.Halves.{kept_of}
use Rattle.jm_tx.proofs.Kept.{through, noted, waiting, sent_stays, kept_written, room_stays, may_put_back}
use Rattle.jm_tx.proofs.halves.Halves.take_commit.Goals as goal

pub returns-in-Some-clause-sent : goal.returns-in-Some-clause-sent
returns-in-Some-clause-sent c =
    let old = c.args.self.now in
    let s = c.args.session.now in
    let is = sym c.in-Some.ensures.value in
    sent_stays old _ s c.take_commit.new.self (through old _ s c.in-Some.half.now c.take_commit.new.self is (c.get_mut.follows.holds c.take_commit.new.self))
    (ap (λ (x : Buffer). x.sent) c.take_commit.ensures.left ∙ sym (noted old s _ is).0)

pub returns-in-Some-clause-kept : goal.returns-in-Some-clause-kept
returns-in-Some-clause-kept c =
    let old = c.args.self.now in
    let s = c.args.session.now in
    kept_written old _ s c.take_commit.new.self (through old _ s c.in-Some.half.now c.take_commit.new.self (sym c.in-Some.ensures.value) (c.get_mut.follows.holds c.take_commit.new.self))
    _ (ap (λ (x : Buffer). x.messages) c.take_commit.ensures.left)

pub returns-in-Some-clause-room : goal.returns-in-Some-clause-room
returns-in-Some-clause-room c = room_stays c.args.self.now _ c.args.session.now c.take_commit.new.self (c.get_mut.follows.holds c.take_commit.new.self)

pub returns-in-Some-clause-messages : goal.returns-in-Some-clause-messages
returns-in-Some-clause-messages c = c.take_commit.ensures.messages ∙ sym (noted c.args.self.now c.args.session.now _ (sym c.in-Some.ensures.value)).1

pub returns-in-Some-clause-back : goal.returns-in-Some-clause-back
returns-in-Some-clause-back c =
    may_put_back c.args.self.now _ c.args.session.now c.take_commit.new.self _ (through c.args.self.now _ c.args.session.now c.in-Some.half.now c.take_commit.new.self (sym c.in-Some.ensures.value) (c.get_mut.follows.holds c.take_commit.new.self))

pub returns-in-None-clause-messages : goal.returns-in-None-clause-messages
returns-in-None-clause-messages c = c.new.ensures.items ∙ sym (noted c.args.self.now c.args.session.now None (sym c.get_mut.ensures.value ∙ ap option_copied_mut c.in-None.is)).1

pub returns-in-None-clause-kept : goal.returns-in-None-clause-kept
returns-in-None-clause-kept c =
    let old = c.args.self.now in
    let s = c.args.session.now in
    let none = sym c.get_mut.ensures.value ∙ ap option_copied_mut c.in-None.is in
    rw c.get_mut.follows.holds-at-none (waiting (kept_of old) s [] (noted old s None none).1)

pub returns-in-None-clause-back : goal.returns-in-None-clause-back
returns-in-None-clause-back c = inl c.new.ensures.items

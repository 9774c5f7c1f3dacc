use Rattle.std.proofs.Common.{arith, ap, sym, subst, ◌∙◌}
use Rattle.std.specs.Option.{option_copied_mut}
use Rattle.jm_header.specs.Headers.{next_stamped}
use Rattle.jm_tx.specs.Buffers.{is_transacted, KnownSendFits}
use Rattle.jm_tx.proofs.Kept.{through, noted, room_stays, send_fits}
use Rattle.jm_tx.proofs.halves.Halves.send.Goals as goal

pub returns-in-Some-clause-fits : goal.returns-in-Some-clause-fits
returns-in-Some-clause-fits c =
    let old = c.args.self.now in
    let s = c.args.sender.session in
    let x = c.in-Some.half.now in
    let y = c.send_as.new.self in
    let is = sym c.in-Some.ensures.value in
    let is_noted = noted old s _ is in
    let waits = is_transacted c.args.mode in
    send_fits waits old _ s x y _ c.send_as.result is_noted.0 is_noted.1 (through old _ s x y is (c.get_mut.follows.holds y))
    (subst (λ n. KnownSendFits waits x (next_stamped c.args.draft c.args.destination c.args.sender n c.args.now) c.send_as.result y) (sym is_noted.0) c.send_as.ensures)

pub returns-in-Some-clause-room : goal.returns-in-Some-clause-room
returns-in-Some-clause-room c =
    let same = room_stays c.args.self.now _ c.args.sender.session c.send_as.new.self (c.get_mut.follows.holds c.send_as.new.self) in
    omega (arith, same)

pub send_first-requires : goal.send_first-requires
send_first-requires c = rw c.get_mut.follows.holds-at-none (sym c.get_mut.ensures.value ∙ ap option_copied_mut c.in_default.is)

pub returns-clause-fits : goal.returns-clause-fits
returns-clause-fits c = rw c.get_mut.follows.holds-at-none at c.send_first.ensures.fits

pub returns-clause-room : goal.returns-clause-room
returns-clause-room c = rw c.get_mut.follows.holds-at-none at c.send_first.ensures.room

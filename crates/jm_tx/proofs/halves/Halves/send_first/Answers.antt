use Rattle.std.proofs.Common.{Ok, Err, true≢false, refl, sym, subst}
use Rattle.std.proofs.lemmas.Result.{err_from_is_err_and}
use Rattle.jm_header.specs.Headers.{next_stamped}
use Rattle.jm_tx.specs.Buffers.{is_transacted, new_buffer, KnownSendFits}
use Rattle.jm_tx.proofs.Kept.{noted, same_notes, first_sent, first_refused, first_wants, without_room}
use Rattle.jm_tx.proofs.halves.Halves.send_first.Goals as goal

pub returns-in_err-sent-clause-fits : goal.returns-in_err-sent-clause-fits
returns-in_err-sent-clause-fits c =
    let p = err_from_is_err_and c.from_residual.result c.from_residual.ensures.1 in
    let nothing = noted c.args.self.now c.args.sender.session _ c.requires in
    let waits = is_transacted c.args.mode in
    let x = new_buffer c.args.sender c.args.mode 0 in
    rw (p.1, p.2) (first_refused waits c.args.self.now c.args.sender.session x c.send.new.self _ c.in_err-sent.field-0.0
    (subst (λ n. KnownSendFits waits x (next_stamped c.args.draft c.args.destination c.args.sender n c.args.now) (Err c.in_err-sent.field-0.0) c.send.new.self) (sym nothing.0) (rw c.new-half.ensures at c.in_err-sent.ensures)))

pub returns-in_err-add-clause-fits : goal.returns-in_err-add-clause-fits
returns-in_err-add-clause-fits c =
    let p = err_from_is_err_and c.from_residual-in_err-add.result c.from_residual-in_err-add.ensures.1 in
    let nothing = noted c.args.self.now c.args.sender.session _ c.requires in
    let waits = is_transacted c.args.mode in
    let x = new_buffer c.args.sender c.args.mode 0 in
    rw (p.1, p.2) (first_wants waits c.args.self.now c.add.new.self c.args.sender.session x c.send.new.self _ c.in_ok-sent.sent
    (subst (λ n. KnownSendFits waits x (next_stamped c.args.draft c.args.destination c.args.sender n c.args.now) (Ok c.in_ok-sent.sent) c.send.new.self) (sym nothing.0) (rw c.new-half.ensures at c.in_ok-sent.ensures))
    (without_room c.args.self.now c.args.sender.session c.requires (λ h. true≢false (sym (c.in_err-add.ensures.succeeds h))))
    (same_notes c.args.self.now c.add.new.self c.in_err-add.ensures.err))

pub returns-clause-fits : goal.returns-clause-fits
returns-clause-fits c =
    let nothing = noted c.args.self.now c.args.sender.session _ c.requires in
    let waits = is_transacted c.args.mode in
    let x = new_buffer c.args.sender c.args.mode 0 in
    first_sent waits c.args.self.now c.add.new.self c.args.sender.session x c.send.new.self _ c.in_ok-sent.sent c.requires refl refl c.in_ok-add.ensures.ok
    (subst (λ n. KnownSendFits waits x (next_stamped c.args.draft c.args.destination c.args.sender n c.args.now) (Ok c.in_ok-sent.sent) c.send.new.self) (sym nothing.0) (rw c.new-half.ensures at c.in_ok-sent.ensures))

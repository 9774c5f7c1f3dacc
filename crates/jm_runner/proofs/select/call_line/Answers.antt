use Rattle.std.proofs.Common.{◌≡◌, ◌∙◌, ap, subst, sym, string_bytes, IfOk}
use Rattle.std.proofs.lemmas.Result.{IfOk-weaker}
use Rattle.jm_session.specs.Sends.{sent_of}
use Rattle.jm_runner.specs.Select.{call_line, counted, sent_after, send_line}
use Rattle.jm_runner.proofs.select.call_line.Goals as goal

pub returns : goal.returns
returns c =
    let sent = sent_of c.args.sends.now in
    let stamp = c.in_ok-stamped-in-Send.ensures in
    subst (λ call. IfOk c.send_line.result (λ line. (string_bytes line ≡ call_line c.args.selector.now sent c.args.number call) × (sent_of c.stamp_next.new.sends ≡ sent_after sent call)))
    (sym c.in-Send.is)
    (IfOk-weaker c.send_line.result _ _ (λ line is. (
      is ∙ ap (send_line c.args.selector.now c.args.number) stamp.0,
      stamp.1 ∙ ap (λ stamped. counted c.in-Send.session stamped sent) stamp.0,
    )) c.send_line.ensures)

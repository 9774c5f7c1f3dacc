use Rattle.std.proofs.Common.{rules, ◌≡◌, ◌++◌, List, length, min, sym, ap, ◌∙◌, append-nil}
use Rattle.std.proofs.lemmas.Slice.Zip.{zip_end}
use Rattle.jm_machine.specs.declared.entry.Entry.{Entry}
use Rattle.jm_model.proofs.Records.{entries_end, either_end}
use Rattle.jm_model.proofs.recorded.entries.Goals as goal

pub returns : goal.returns
returns c =
    let n : length c.loop-call.yielded ≡ min (length c.args.calls.now) (length c.args.replies.now) =
    zip_end c.args.calls.now c.args.replies.now c.loop-call.yielded c.into_iter-call-iterator.result c.loop-call.call-iterator c.next.new.self c.next.result (search rules) (search rules) c.loop-call.yielded_by c.in-None.is c.next.ensures.steps in
    let e = entries_end c.args.opening c.args.calls.now c.args.replies.now (length c.loop-call.yielded) (either_end (length c.args.calls.now) (length c.args.replies.now) (length c.loop-call.yielded) n) in
    sym (append-nil c.loop-call.entries.items) ∙ sym (ap (λ (xs : List Entry). c.loop-call.entries.items ++ xs) e) ∙ c.loop-call.invariant

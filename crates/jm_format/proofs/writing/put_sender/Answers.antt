use Rattle.std.proofs.Common.{◌∙◌, ◌++◌, ap, List, ℕ}
use Rattle.std.specs.Int.{w32, to_be_bytes}
use Rattle.jm_format.proofs.Written.{three}
use Rattle.jm_format.proofs.writing.put_sender.Goals as goal

pub returns-clause-written : goal.returns-clause-written
returns-clause-written c =
    three c.args.out.now.items
    (to_be_bytes w32 c.args.sender.opening) (to_be_bytes w32 c.args.sender.session.connection) (to_be_bytes w32 c.args.sender.session.number)
    c.extend_from_slice.new.self.items c.extend_from_slice-2.new.self.items c.extend_from_slice-3.new.self.items
    (c.in_ok-extend_from_slice.ensures.items ∙ ap (λ (xs : List ℕ). c.args.out.now.items ++ xs) (c.to_be_bytes.ensures ∙ ap (to_be_bytes w32) c.get.ensures.value))
    (c.in_ok-extend_from_slice-2.ensures.items ∙ ap (λ (xs : List ℕ). c.extend_from_slice.new.self.items ++ xs) (c.to_be_bytes-2.ensures ∙ ap (to_be_bytes w32) c.get-2.ensures.value))
    (c.in_ok-extend_from_slice-3.ensures.items ∙ ap (λ (xs : List ℕ). c.extend_from_slice-2.new.self.items ++ xs) (c.to_be_bytes-3.ensures ∙ ap (to_be_bytes w32) c.get-3.ensures.value))

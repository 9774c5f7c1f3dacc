use Rattle.std.proofs.Common.{◌≡◌, rules}
use Rattle.std.specs.Prelude.{◌==◌, filter, not}
use Rattle.std.proofs.lemmas.Map.Made.{filter_same_pairs}
use Rattle.jm_transactions.specs.Courses.{course_of}
use Rattle.jm_transactions.proofs.Courses.{all_dropped}
use Rattle.jm_transactions.proofs.transactions.Transactions.end_all.Goals as goal

pub returns : goal.returns
returns c =
    let kept : c.retain.new.self.entries ≡ filter (λ e. not (e.0.connection == c.args.id)) c.args.self.now.sent.entries = filter_same_pairs _ _ _ (λ k v b w f' t. search rules) _ _ c.retain.ensures.filtered in
    λ i. record (course_of c.args.self.now) { sent = λ s. all_dropped (λ places. places.items) c.args.id c.args.self.now.sent.entries c.retain.new.self.entries kept s i }

use Rattle.std.proofs.Common.{◌≡◌, drop}
use Rattle.jm_machine.specs.Life.{Life}
use Rattle.jm_scope.specs.Scopes.{scope_seen}
use Rattle.jm_transactions.specs.Courses.{course_of}
use Rattle.jm_transactions.specs.Transactions.{messages_at}
use Rattle.jm_model.specs.Answers.{Clients, brought}
use Rattle.jm_model.proofs.replies.publish_all.Given as goal

abbrev pub invariant-loop-place : goal.invariant-loop-place
invariant-loop-place l = (of : Life) → Clients of (course_of l.transactions) →
    brought (scope_seen l.scope) of (messages_at l.entries (drop l.place-index l.places)) l.lone ≡ brought (scope_seen l.scope) of (messages_at l.entries l.places) l.fn.lone

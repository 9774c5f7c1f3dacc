use Rattle.std.proofs.Common.{[], drop}
use Rattle.jm_machine.specs.Life.{Life}
use Rattle.jm_scope.specs.Scopes.{scope_seen}
use Rattle.jm_transactions.specs.Transactions.{Follows}
use Rattle.jm_transactions.specs.Courses.{course_of}
use Rattle.jm_model.proofs.Placing.{to_answer, Remains}
use Rattle.jm_model.proofs.replies.answers.Given as goal

abbrev pub invariant-loop-place : goal.invariant-loop-place
invariant-loop-place l = (life : Life) → Follows l.entries life [] (course_of l.fn.transactions) →
    Remains (scope_seen l.scope) l.entries (course_of l.transactions) l.replies.items l.place l.lone (drop l.place l.entries) (to_answer (scope_seen l.scope) 0 life [] l.fn.lone l.entries)

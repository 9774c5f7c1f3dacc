use Rattle.jm_parts.proofs.listen.done_at.Goals as goal

pub returns-then-ok-clause-rows : goal.returns-then-ok-clause-rows
returns-then-ok-clause-rows c = λ name e. rw c.if-ok.true (c.settle_at.ensures.rows name e)

pub returns-else-ok-clause-rows : goal.returns-else-ok-clause-rows
returns-else-ok-clause-rows c = λ name e. rw c.if-ok.false (c.give_back_at.ensures.rows name e)

use Rattle.jm_loading.proofs.Paired.{placed_as, same_content}
use Rattle.jm_loading.proofs.messages.messages_of.Goals as goal

pub returns-clause-ok : goal.returns-clause-ok
returns-clause-ok c =
    let all = c.in_ok-all_unheld.ensures in
    record { placed = placed_as c.args.rows.items _ (rw c.deref.ensures.value at c.in_ok-check.ensures.fit) all.pairs; pairs = all.pairs; same = same_content c.args.rows.items _ all.pairs; unheld = all.unheld }

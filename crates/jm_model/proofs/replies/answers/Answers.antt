use Rattle.std.proofs.Common.{[], drop, refl}
use Rattle.std.proofs.Math.ListN.{drop_of_length-le}
use Rattle.jm_machine.specs.Isolation.{asks_no_shared}
use Rattle.jm_scope.specs.Scopes.{scope_seen}
use Rattle.jm_transactions.specs.Courses.{course_of}
use Rattle.jm_model.proofs.Asked.{all_one}
use Rattle.jm_model.proofs.Placing.{answer_turn, to_answer, all_answered}
use Rattle.jm_model.proofs.replies.answers.Goals as goal

pub feed-requires-clause-unshared : goal.feed-requires-clause-unshared
feed-requires-clause-unshared c =
    let S = scope_seen c.args.scope.now in
    all_one (asks_no_shared S.key S.clients) c.args.entries.now c.loop-place.place c.index-entries-place.result c.loop-place-test.true c.index-entries-place.is c.requires.unshared

pub loop-place-preserved : goal.loop-place-preserved
loop-place-preserved c life follows =
    rw c.in_ok-add_reply.ensures
    (answer_turn (scope_seen c.args.scope.now) (course_of c.loop-place.transactions) (course_of c.note.new.self) c.loop-place.place c.loop-place.lone c.feed.new.lone c.args.entries.now c.index-entries-place.result c.in_ok-reply.reply c.loop-place.replies.items
    (to_answer (scope_seen c.args.scope.now) 0 life [] c.args.lone.now c.args.entries.now) c.loop-place-test.true c.index-entries-place.is c.in_ok-reply.ensures c.in_ok-note.ensures (c.loop-place.invariant life follows))

pub loop-place-init : goal.loop-place-init
loop-place-init c life follows = record { life = life; before = []; follows = follows; rest = rw c.new-replies.ensures.items refl }

pub returns : goal.returns
returns c life follows = all_answered (scope_seen c.args.scope.now) c.args.entries.now (course_of c.loop-place.transactions) c.loop-place.replies.items c.loop-place.place c.loop-place.lone (drop c.loop-place.place c.args.entries.now) _ (drop_of_length-le c.args.entries.now c.loop-place-test.false) (c.loop-place.invariant life follows)

use Rattle.jm_scope.specs.Scopes.{scope_seen}
use Rattle.jm_model.proofs.Fed.{places_turn}
use Rattle.jm_model.proofs.replies.publish_all.Goals as goal

pub loop-place-preserved : goal.loop-place-preserved
loop-place-preserved c of clients =
    places_turn (scope_seen c.args.scope.now) of c.args.entries.now c.args.places.now c.loop-place.place-index c.loop-place.lone c.publish_at.new.lone _
    c.loop-place-test.true (c.in_ok-publish_at.ensures of clients) (c.loop-place.invariant of clients)

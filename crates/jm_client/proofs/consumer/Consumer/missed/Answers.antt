use Rattle.jm_client.proofs.Replies.{told_missed}
use Rattle.jm_client.proofs.consumer.Consumer.missed.Goals as goal

pub number_of-requires : goal.number_of-requires
number_of-requires g c = told_missed _ _ _ c.in_ok-answer.ensures

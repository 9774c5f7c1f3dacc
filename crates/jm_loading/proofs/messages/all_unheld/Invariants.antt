use Rattle.std.specs.List.{All}
use Rattle.jm_parts.specs.declared.stored.StoredMessage.{StoredMessage}
use Rattle.jm_loading.specs.Messages.{ArePairs, IsUnheld}
use Rattle.jm_loading.proofs.messages.all_unheld.Given as goal

abbrev pub invariant-loop-row : goal.invariant-loop-row
invariant-loop-row l = record {
  pairs : ArePairs l.yielded l.messages.items;
  unheld : All (λ (m : StoredMessage). IsUnheld m.holders) l.messages.items;
}

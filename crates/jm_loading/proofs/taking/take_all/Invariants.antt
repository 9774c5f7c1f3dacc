use Rattle.std.proofs.Common.{List, take}
use Rattle.jm_decoding.specs.declared.message.MessageRow.{MessageRow}
use Rattle.jm_decoding.specs.declared.station.StationRow.{StationRow}
use Rattle.jm_loading.specs.Fitting.{IsHeld, held_cmp}
use Rattle.jm_loading.specs.Holding.{AreHeldAs}
use Rattle.jm_loading.specs.Messages.{ArePlacedAs}
use Rattle.jm_loading.specs.Stations.{AreStationsOf}
use Rattle.jm_loading.specs.Unfit.{AreFit}
use Rattle.jm_loading.proofs.taking.take_all.Given as goal

abbrev pub invariant-loop-at : goal.invariant-loop-at
invariant-loop-at l = record {
  held : (rows : List MessageRow) → ArePlacedAs rows l.fn.messages → AreHeldAs rows l.stations.subscriptions.items (take l.at l.held) l.messages;
  fit : (known : List StationRow) → AreStationsOf known l.stations.queues.items l.stations.subscriptions.items → (rows : List MessageRow) → ArePlacedAs rows l.fn.messages → AreFit held_cmp (IsHeld known rows) l.held l.at;
}

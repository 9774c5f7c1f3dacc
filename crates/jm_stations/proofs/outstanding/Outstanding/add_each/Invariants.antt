use Rattle.std.proofs.Common.{◌≡◌, ℕ, true, take}
use Rattle.jm_stations.specs.Backlogs.{is_named}
use Rattle.jm_stations.proofs.outstanding.Outstanding.add_each.Given as goal

abbrev pub invariant-loop-index : goal.invariant-loop-index
invariant-loop-index l = record {
  before : (k : ℕ) → is_named l.initial.self.indexes k ≡ true → is_named l.self.indexes k ≡ true;
  out : (k : ℕ) → is_named (take l.index-index l.indexes) k ≡ true → is_named l.self.indexes k ≡ true;
  number : l.self.number ≡ l.initial.self.number;
  room : l.self.room ≡ l.initial.self.room;
}

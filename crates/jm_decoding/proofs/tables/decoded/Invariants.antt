-- The rows before the one in turn may be read, and stand for what was decoded.
use Rattle.std.specs.Prelude.{take}
use Rattle.std.specs.List.{AllByRecursion}
use Rattle.jm_decoding.specs.Tables.{StandFor}
use Rattle.jm_decoding.proofs.tables.decoded.Given as goal

abbrev pub invariant-loop-at : goal.invariant-loop-at
invariant-loop-at g l = record {
  stand : StandFor g.T.Decode.stands_for (take l.at l.rows) l.decoded.items;
  readable : AllByRecursion g.T.Decode.is_readable (take l.at l.rows);
}

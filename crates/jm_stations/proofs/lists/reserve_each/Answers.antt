use Rattle.std.proofs.Common.{◌<◌, ℕ, List, length, get_or, set, subst, sym, take, arith}
use Rattle.std.specs.List.{All}
use Rattle.std.proofs.lemmas.List.{take_all, take_more}
use Rattle.jm_pending.specs.Rows.{Held}
use Rattle.jm_stations.proofs.Room.{IsRoomAt, room_more, roomier_more}
use Rattle.jm_stations.proofs.lists.reserve_each.Goals as goal

pub loop-index-preserved : goal.loop-index-preserved
loop-index-preserved c =
    let h : Held = c.at_mut-held.result.now in
    let h' : Held = c.reserve.new.self in
    let n = c.loop-index.index-index in
    let is = c.args.indexes.now in
    let i : ℕ = get_or is n 0 in
    let lists = c.loop-index.lists.items in
    let within = c.requires.within n 0 c.loop-index-test.true in
    let inside : i < length lists = omega (arith, c.loop-index.invariant.lists.number, within) in
    let found = c.at_mut-held.ensures.value in
    record {
      lists = roomier_more lists i h h' inside found c.reserve.ensures.same c.reserve.ensures.kept c.args.lists.now.items c.loop-index.invariant.lists;
      room = subst (λ (xs : List ℕ). All (IsRoomAt c.args.additional (set lists i h')) xs) (sym (take_more is n 0 c.loop-index-test.true)) (room_more lists i h h' inside found c.reserve.ensures.same c.reserve.ensures.kept c.args.additional (take n is) c.in_ok-reserve.ensures.ok c.loop-index.invariant.room);
    }

pub returns-clause-ok : goal.returns-clause-ok
returns-clause-ok c = subst (λ (xs : List ℕ). All (IsRoomAt c.args.additional c.loop-index.lists.items) xs) (take_all c.loop-index.index-index c.args.indexes.now (omega arith)) c.loop-index.invariant.room

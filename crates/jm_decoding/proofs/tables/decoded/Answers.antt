use Rattle.std.specs.Prelude.{◌≡◌, ◌+◌, [], ◌∷◌, ◌++◌, take}
use Rattle.std.proofs.Common.{◌∙◌, ap, sym, arith}
use Rattle.std.proofs.lemmas.List.{take_more}
use Rattle.jm_decoding.proofs.Standing.{all_more, stand_more}
use Rattle.jm_decoding.proofs.tables.decoded.Goals as goal

pub loop-at-preserved : goal.loop-at-preserved
loop-at-preserved g c =
    let before = take c.loop-at.at c.args.rows.now in
    let rows : take (c.loop-at.at + 1) c.args.rows.now ≡ before ++ c.index-rows-at.result ∷ [] =
    take_more c.args.rows.now c.loop-at.at c.index-rows-at.result (omega arith) ∙ ap (λ r. before ++ r ∷ []) (sym c.index-rows-at.is) in
    record {
      stand = rw (rows, c.in_ok-push-in-Ok.ensures.items) (stand_more g.T.Decode.stands_for before c.loop-at.decoded.items c.index-rows-at.result c.in-Ok.value
          c.loop-at.invariant.stand c.in-Ok.ensures.ok);
      readable = rw rows (all_more g.T.Decode.is_readable before c.index-rows-at.result c.loop-at.invariant.readable c.in-Ok.ensures.readable);
    }

use Rattle.std.proofs.Common.{sym}
use Rattle.std.proofs.lemmas.Bool.{lt-ltb, ltb-true}
use Rattle.jm_loading.proofs.Search.{ends, ends_back}
use Rattle.jm_loading.proofs.holders.are_before.Goals as goal

pub returns-in-Some : goal.returns-in-Some
returns-in-Some c =
    let last = c.in-Some.row.now in (
      λ less. ends c.args.rows.now c.args.index last (sym c.in-Some.ensures.value) (ltb-true _ _ less),
      λ end. lt-ltb last.index c.args.index (ends_back c.args.rows.now c.args.index last (sym c.in-Some.ensures.value) end),
    )

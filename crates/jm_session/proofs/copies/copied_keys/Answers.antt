use Rattle.std.proofs.Common.{◌≡◌, ◌<◌, ◌+◌, ◌∙◌, ◌++◌, ◌∷◌, [], ap, get_or, length, sym, take, arith, rules}
use Rattle.std.proofs.lemmas.List.{take_more}
use Rattle.jm_session.proofs.copies.copied_keys.Goals as goal

pub loop-index-preserved : goal.loop-index-preserved
loop-index-preserved g c =
    let keys = c.args.set.now.keys in
    let i = c.loop-index.index in
    let key = c.key_at.result.now in
    let within : i < length keys = omega (arith, c.len-index-end.ensures.len) in
    let here : key ≡ get_or keys i key = c.key_at.ensures key in
    let more : take (i + 1) keys ≡ take i keys ++ get_or keys i key ∷ [] = take_more keys i key within in
    let same : take i keys ++ key ∷ [] ≡ take (i + 1) keys = ap (λ k. take i keys ++ k ∷ []) here ∙ sym more in
    search (rules, same)

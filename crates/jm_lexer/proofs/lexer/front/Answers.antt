use Rattle.std.proofs.Common.{◌≡◌, ◌<◌, length, get_or, arith}
use Rattle.jm_lexer.proofs.Contents.{after_quote_taken}
use Rattle.jm_lexer.proofs.lexer.front.Goals as goal

pub text_front-requires : goal.text_front-requires
text_front-requires c =
    let some : 0 < length c.args.z.now = omega arith in
    let quote : get_or c.args.z.now 0 0 ≡ 39 = omega arith in
    after_quote_taken c.args.z.now c.requires some quote

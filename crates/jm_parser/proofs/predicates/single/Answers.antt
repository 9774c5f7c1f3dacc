use Rattle.std.proofs.Common.{◌≡◌, ◌++◌}
use Rattle.std.specs.Char.{encode_utf8}
use Rattle.std.specs.Str.Iter.{chars_rest}
use Rattle.jm_parser.proofs.Single.{single_one, single_more}
use Rattle.jm_parser.proofs.predicates.single.Goals as goal

pub returns-in-None : goal.returns-in-None
returns-in-None c =
    let e : c.args.text.now ≡ encode_utf8 c.in_ok-first.first ++ chars_rest c.next.new.self = cc (c.in_ok-first.ensures.steps.0, c.chars-chars.ensures.rest) in
    single_one _ _ _ c.utf8.text e c.in-None.ensures.steps.0.0

pub returns-in-Some : goal.returns-in-Some
returns-in-Some c =
    let e : c.args.text.now ≡ encode_utf8 c.in_ok-first.first ++ chars_rest c.next.new.self = cc (c.in_ok-first.ensures.steps.0, c.chars-chars.ensures.rest) in
    single_more _ _ _ _ c.utf8.text e c.in-Some.ensures.steps.2

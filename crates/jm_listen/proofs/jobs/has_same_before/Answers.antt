use Rattle.std.proofs.Common.{rules, arith, refl, below_more}
use Rattle.std.proofs.lemmas.Option.{slice_get_read}
use Rattle.jm_listen.proofs.Same.{apart_at}
use Rattle.jm_listen.proofs.jobs.has_same_before.Goals as goal

pub returns-then-eq : goal.returns-then-eq
returns-then-eq g c = record {
  i = c.args.at;
  j = c.loop-earlier.earlier;
  one = c.index-jobs-at.result;
  other = c.index-jobs-earlier.result;
  before = omega arith;
  stands = slice_get_read c.args.jobs.now _ c.args.at c.index-jobs-at.result refl (omega arith) c.index-jobs-at.is;
  other_stands = slice_get_read c.args.jobs.now _ c.loop-earlier.earlier c.index-jobs-earlier.result refl (omega arith) c.index-jobs-earlier.is;
  same = search rules;
}

pub loop-earlier-preserved : goal.loop-earlier-preserved
loop-earlier-preserved g c =
    let at = slice_get_read c.args.jobs.now _ c.args.at c.index-jobs-at.result refl (omega arith) c.index-jobs-at.is in
    let before = slice_get_read c.args.jobs.now _ c.loop-earlier.earlier c.index-jobs-earlier.result refl (omega arith) c.index-jobs-earlier.is in
    below_more _ _ c.loop-earlier.invariant
    (apart_at c.args.jobs.now c.args.at c.loop-earlier.earlier c.index-jobs-at.result c.index-jobs-earlier.result at before (search rules))

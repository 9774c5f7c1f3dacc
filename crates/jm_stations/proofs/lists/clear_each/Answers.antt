use Rattle.std.proofs.Common.{◌≡◌, ◌<◌, ◌∙◌, length, get_or, set, subst, sym, ap, refl, List, arith}
use Rattle.std.proofs.Math.Numerals.{add-one}
use Rattle.std.proofs.lemmas.List.{take_all, length-set}
use Rattle.jm_gaps.proofs.Items.{item_read}
use Rattle.jm_dest.specs.declared.key.Key.{Key}
use Rattle.jm_machine.specs.Attached.{ended}
use Rattle.jm_pending.specs.Rows.{Held}
use Rattle.jm_lane.specs.Holders.{Covers, Follows}
use Rattle.jm_stations.specs.Kept.{cleared, cleared_under}
use Rattle.jm_stations.proofs.Holders.{covers_one, counted_one}
use Rattle.jm_stations.proofs.Each.{keeps_all}
use Rattle.jm_stations.proofs.Closing.{cleared_none, cleared_more, cleared_keeps}
use Rattle.jm_stations.proofs.lists.clear_each.Goals as goal

pub loop-index-init : goal.loop-index-init
loop-index-init c = record {
  number = refl;
  lists = cleared_none (ended c.args.which.now c.args.attached.now) c.args.keys.now.keys c.args.lists.now.items;
  counted = c.requires.counted;
  messages = keeps_all c.args.table.now;
  spare = refl;
}

pub clear_where-requires : goal.clear_where-requires
clear_where-requires c =
    let h : Held = c.at_mut-held.result.now in
    let lists = c.loop-index.lists.items in
    let inside : c.loop-index.index < length lists = omega (arith, c.loop-index.invariant.number) in
    subst (λ (x : Held). Covers c.loop-index.table x.rows) (sym (item_read lists c.loop-index.index h c.at_mut-held.ensures.value)) (covers_one c.loop-index.table lists c.loop-index.index h inside c.loop-index.invariant.counted)

pub loop-index-preserved : goal.loop-index-preserved
loop-index-preserved c =
    let h : Held = c.at_mut-held.result.now in
    let h' : Held = c.clear_where.new.held in
    let i = c.loop-index.index in
    let init = c.args.lists.now.items in
    let lists = c.loop-index.lists.items in
    let keys = c.args.keys.now.keys in
    let p = ended c.args.which.now c.args.attached.now in
    let key : Key = c.key_at.result.now in
    let inside : i < length lists = omega (arith, c.loop-index.invariant.number) in
    let within : i < length keys = omega (arith, c.requires.number) in
    let value : h ≡ get_or lists i h = item_read lists c.loop-index.index h c.at_mut-held.ensures.value in
    let goes : c.ends-ends.result ≡ p (get_or keys i key) = c.ends-ends.ensures.left ∙ ap p (c.key_at.ensures key) in
    let after : h' ≡ cleared (p (get_or keys i key)) h = c.clear_where.ensures.rows ∙ ap (λ b. cleared b h) goes in
    let more = cleared_more p keys init i key h h' within c.requires.number (value ∙ ap (λ (xs : List Held). get_or xs i h) c.loop-index.invariant.lists) after in
    record {
      number = length-set lists i h' ∙ c.loop-index.invariant.number;
      lists = rw add-one (ap (λ (xs : List Held). set xs i h') c.loop-index.invariant.lists ∙ more);
      counted = counted_one c.loop-index.table c.clear_where.new.table lists i h h' inside c.loop-index.invariant.counted (subst (λ (x : Held). Follows c.loop-index.table c.clear_where.new.table x.rows h'.rows) value c.clear_where.ensures.table);
      messages = cleared_keeps (p (get_or keys i key)) c.args.table.now c.loop-index.table c.clear_where.new.table h h' after c.loop-index.invariant.messages c.clear_where.ensures.table;
      spare = c.loop-index.invariant.spare;
    }

pub returns-clause-lists : goal.returns-clause-lists
returns-clause-lists c =
    c.loop-index.invariant.lists ∙ ap (λ (ks : List Key). cleared_under (ended c.args.which.now c.args.attached.now) ks c.args.lists.now.items) (take_all c.loop-index.index c.args.keys.now.keys (omega (arith, c.requires.number)))

use Rattle.std.proofs.Common.{◌≡◌, ◌<◌, ◌∙◌, Some, ap, arith, length, sym}
use Rattle.std.specs.Map.{keys_of}
use Rattle.jm_indexed.specs.Order.{index_in}
use Rattle.jm_indexed.proofs.Entries.{entries_found, entries_value, entries_within, found_near}
use Rattle.jm_indexed.proofs.Slotted.{length-keys_of}
use Rattle.jm_indexed.proofs.key_map.KeyMap.index_near.Given.{Over}
use Rattle.jm_indexed.proofs.key_map.KeyMap.index_near.Goals as goal

-- the key stands at the guess
near : (g : Over) (c : goal.Then-eq g) → Some c.args.guess ≡ index_in g.K.PartialEq.eq (keys_of c.args.self.now.entries) c.args.key.now
near g c =
    let ks = keys_of c.args.self.now.entries in
    let inside : c.args.guess < length ks = omega (arith, c.if-guess-len.true, c.len.ensures.len, length-keys_of c.args.self.now.entries) in
    sym (found_near g.met.K.Eq.laws c.args.key.now ks c.args.guess c.len.ensures.once inside
    (ap (λ x. g.K.PartialEq.eq x c.args.key.now) (sym (c.key_at.ensures c.args.key.now)) ∙ sym c.eq.ensures ∙ c.if-eq.true))

pub returns-then-eq-clause-index : goal.returns-then-eq-clause-index
returns-then-eq-clause-index g c = near g c

pub returns-then-eq-clause-found : goal.returns-then-eq-clause-found
returns-then-eq-clause-found g c = entries_found g.met.K.Eq.laws c.args.key.now c.args.self.now.entries (Some c.args.guess) (near g c)

pub returns-then-eq-clause-value : goal.returns-then-eq-clause-value
returns-then-eq-clause-value g c = entries_value g.met.K.Eq.laws c.args.key.now c.args.self.now.entries (Some c.args.guess) (near g c)

pub returns-then-eq-clause-within : goal.returns-then-eq-clause-within
returns-then-eq-clause-within g c = entries_within g.met.K.Eq.laws c.args.key.now c.args.self.now.entries (Some c.args.guess) (near g c)

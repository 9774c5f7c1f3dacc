use Rattle.std.proofs.Common.{◌∙◌, ap, length, sym}
use Rattle.std.specs.List.{list_any}
use Rattle.std.specs.Map.{keys_of}
use Rattle.jm_indexed.specs.Entries.{entries_of}
use Rattle.jm_indexed.proofs.key_map.KeyMap.any_key.Goals as goal

pub any_kept-requires : goal.any_kept-requires
any_kept-requires g c = c.self.invariant.even ∙ ap length (sym c.as_slice.ensures.value)

pub returns : goal.returns
returns g c =
    rw (← c.self.view_is) (c.any_kept.ensures ∙ ap (λ ks. list_any (g.C.Choice.kept c.args.choice.now) (keys_of (entries_of ks c.self.inside.values.slots))) c.as_slice.ensures.value)

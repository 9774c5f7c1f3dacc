use Rattle.std.proofs.Common.{◌≡◌, ◌<◌, Bool, true, false, cond, Option, Some, Result, Ok, Err, OnOk, OnErr, arith, nat_eq, sym, subst, ◌∙◌}
use Rattle.std.specs.Map.{lookup}
use Rattle.jm_lane.specs.declared.table.Stored.{Stored}
use Rattle.jm_lane.proofs.table.Table.put.Goals as goal

-- what stands after a message is put has a holder
held : (b : Bool) (o : Option Stored) (new s : Stored) → ((s : Stored) → o ≡ Some s → 0 < s.holders) → cond b (Some new) o ≡ Some s → 0 < new.holders → 0 < s.holders
held true o new s had e one = let same : new ≡ s = cc in subst (λ (x : Stored). 0 < x.holders) same one
held false o new s had e one = had s e

either : {T E A B P : Type 0} (r : Result T E) → OnOk r A → OnErr r B → (A → P) → (B → P) → P
either (Ok x) ok err f g = f ok
either (Err x) ok err f g = g err

pub invariant_of-self : goal.invariant_of-self
invariant_of-self c =
    either c.insert.result c.insert.ensures.updates c.insert.ensures.err
    (λ u. record {
      once = c.insert.ensures.unique;
      held = λ p s e. held (nat_eq c.args.place p) (lookup (nat_eq p) c.self.inside.messages.entries) _ s (c.self.invariant.held p) (sym (u.0 p) ∙ e) (omega arith);
    })
    (λ same. rw same c.self.invariant)

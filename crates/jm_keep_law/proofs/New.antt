-- Of a new core nothing is stored.
use Rattle.std.proofs.Common.{◌≡◌, ℕ, refl, sym, subst, ap, Some, None}
use Rattle.std.specs.Prelude.{IfSome}
use Rattle.jm_dest.specs.declared.key.Key.{Key}
use Rattle.jm_dest.specs.declared.key.Key.TheVariants.{Queue, Own, SharedOwn, Durable}
use Rattle.jm_format.specs.Format as format
use Rattle.jm_machine.specs.Machine.{new_core}
use Rattle.jm_keep.specs.Persisted.{stored_row, durable_definition, due_time, count_of}
use Rattle.jm_keep.specs.Steps.{NewStoresNothing}

none : (opening limit : ℕ) (key : Key) (place : ℕ) → stored_row (new_core opening limit) key place ≡ None
none opening limit (Queue name) place = refl
none opening limit (Own s c) place = refl
none opening limit (SharedOwn client name) place = refl
none opening limit (Durable client name) place = refl

undefined : (opening limit : ℕ) (key : Key) → None ≡ durable_definition (new_core opening limit) key
undefined opening limit (Queue name) = refl
undefined opening limit (Own s c) = refl
undefined opening limit (SharedOwn client name) = refl
undefined opening limit (Durable client name) = refl

pub new_stores_nothing : NewStoresNothing
new_stores_nothing opening limit = record {
  definitions = undefined opening limit;
  counts = λ key place. sym (ap count_of (none opening limit key place));
  messages = λ place. record {
    held = λ key. subst (λ o. IfSome o (λ r. None ≡ Some (format.record r.message))) (sym (none opening limit key place)) tt;
    free = λ f. refl;
  };
  dues = λ place. record {
    held = λ key. subst (λ o. IfSome o (λ r. None ≡ due_time r.message)) (sym (none opening limit key place)) tt;
    free = λ f. refl;
  };
}

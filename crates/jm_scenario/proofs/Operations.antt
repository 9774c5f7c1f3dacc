-- Which operations are calls by sessions: those that have a field `s`.
use Rattle.std.proofs.Common.{◌≡◌, ◌∙◌, Bool, true, false, Result, Option, Some, None, option_map, option_and_then, refl, ap, sym, subst, codes}
use Rattle.std.specs.Prelude.{◌||◌, not}
use Rattle.serde_json.specs.Data.{Data}
use Rattle.serde_json.specs.Find.{as_bool, as_str}
use Rattle.jm_machine.specs.declared.call.ClientCall.{ClientCall}
use Rattle.jm_scenario.specs.Calls.{call_as, call_in_place, call_of, operation}
use Rattle.jm_fields.specs.Drafts.{draft}
use Rattle.jm_fields.specs.Fields.{has, is_known, is_operation_in_place}
use Rattle.jm_scenario.specs.Items.{is_by_session}
use Rattle.jm_fields.specs.Reading.{Reads, where_true}
use Rattle.jm_fields.specs.Values.{destination, mode, moment, name, no_local, number, optional, required, session}
use Rattle.jm_fields.specs.declared.misfit.Misfit.{Misfit}
use Rattle.jm_fields.specs.declared.field.Owner.{Owner}
use Rattle.jm_fields.specs.declared.field.Owner.TheVariants.{Scenario, Open, Start, Stop, CloseConnection, Session, CloseSession, Acknowledge, Recover, Commit, Rollback, Consumer, Durable, Shared, SharedDurable, CloseConsumer, Missed, Unsubscribe, Listener, Send, Receive, Take, Done, ForkOrJoin}

-- a call that is spelled is one by a session, or is none
record Is (b : Bool) (spelled : Option ClientCall) : Type 0 where
  each : (call : ClientCall) → spelled ≡ Some call → is_by_session call ≡ b

is_none : (b : Bool) → Is b None
is_none b = record { each = λ call e. cc }

is_one : (b : Bool) (one : ClientCall) → is_by_session one ≡ b → Is b (Some one)
is_one b one is = record { each = λ call e. let same : one ≡ call = cc in subst (λ that. is_by_session that ≡ b) same is }

last : {A : Type 0} (b : Bool) (make : A → ClientCall) (given : Option A) → ((a : A) → is_by_session (make a) ≡ b) → Is b (option_map make given)
last b make None each = is_none b
last b make (Some a) each = is_one b (make a) (each a)

then : {A : Type 0} (b : Bool) (make : A → Option ClientCall) (given : Option A) → ((a : A) → Is b (make a)) → Is b (option_and_then make given)
then b make None each = is_none b
then b make (Some a) each = each a

kept_where : (b test : Bool) (spelled : Option ClientCall) → Is b spelled → Is b (where_true test spelled)
kept_where b true spelled is = is
kept_where b false spelled is = is_none b

-- the call of an operation is by a session exactly where the operation has a field `s`
by_session : (owner : Owner) (value : Data) → Is (has owner (codes "s")) (call_as owner value)
by_session Scenario value = is_none false
by_session Open value = then false _ (required number (codes "c") value) (λ c. last false _ (optional name (codes "client") value) (λ client. refl))
by_session Start value = last false _ (required number (codes "c") value) (λ c. refl)
by_session Stop value = last false _ (required number (codes "c") value) (λ c. refl)
by_session CloseConnection value = last false _ (required number (codes "c") value) (λ c. refl)
by_session Session value = then true _ (required session (codes "s") value) (λ s. last true _ (required mode (codes "mode") value) (λ m. refl))
by_session CloseSession value = last true _ (required session (codes "s") value) (λ s. refl)
by_session Acknowledge value = last true _ (required session (codes "s") value) (λ s. refl)
by_session Recover value = last true _ (required session (codes "s") value) (λ s. refl)
by_session Commit value = last true _ (required session (codes "s") value) (λ s. refl)
by_session Rollback value = last true _ (required session (codes "s") value) (λ s. refl)
by_session Consumer value = then true _ (required session (codes "s") value) (λ s. then true _ (required number (codes "k") value) (λ k. then true _ (destination value) (λ d. then true _ (optional as_str (codes "selector") value) (λ selector. last true _ (no_local value) (λ mark. refl)))))
by_session Durable value = then true _ (required session (codes "s") value) (λ s. then true _ (required number (codes "k") value) (λ k. then true _ (destination value) (λ d. then true _ (required name (codes "name") value) (λ n. then true _ (optional as_str (codes "selector") value) (λ selector. last true _ (no_local value) (λ mark. refl))))))
by_session Shared value = then true _ (required session (codes "s") value) (λ s. then true _ (required number (codes "k") value) (λ k. then true _ (destination value) (λ d. then true _ (required name (codes "name") value) (λ n. last true _ (optional as_str (codes "selector") value) (λ selector. refl)))))
by_session SharedDurable value = then true _ (required session (codes "s") value) (λ s. then true _ (required number (codes "k") value) (λ k. then true _ (destination value) (λ d. then true _ (required name (codes "name") value) (λ n. last true _ (optional as_str (codes "selector") value) (λ selector. refl)))))
by_session CloseConsumer value = then true _ (required session (codes "s") value) (λ s. last true _ (required number (codes "k") value) (λ k. refl))
by_session Missed value = then true _ (required session (codes "s") value) (λ s. last true _ (required number (codes "k") value) (λ k. refl))
by_session Unsubscribe value = then true _ (required session (codes "s") value) (λ s. last true _ (required name (codes "name") value) (λ n. refl))
by_session Listener value = then true _ (required session (codes "s") value) (λ s. then true _ (required number (codes "k") value) (λ k. last true _ (required as_bool (codes "on") value) (λ mark. refl)))
by_session Send value = then true _ (required session (codes "s") value) (λ s. then true _ (destination value) (λ to. then true _ (required moment (codes "now") value) (λ now. last true _ (draft value) (λ d. refl))))
by_session Receive value = then true _ (required session (codes "s") value) (λ s. then true _ (required number (codes "k") value) (λ k. last true _ (required moment (codes "now") value) (λ now. refl)))
by_session Take value = then true _ (required session (codes "s") value) (λ s. then true _ (required number (codes "k") value) (λ k. last true _ (required moment (codes "now") value) (λ now. refl)))
by_session Done value = then true _ (required session (codes "s") value) (λ s. then true _ (required number (codes "k") value) (λ k. last true _ (required as_bool (codes "ok") value) (λ mark. refl)))
by_session ForkOrJoin value = is_none false

-- a call that has its place stays
stays : (is_forked b : Bool) (spelled : Option ClientCall) → Is b spelled → (not is_forked || b) ≡ true → call_in_place is_forked spelled ≡ spelled
stays is_forked b None is placed = refl
stays is_forked b (Some call) is placed =
    subst (λ test. where_true test (Some call) ≡ Some call) (sym (subst (λ s. (not is_forked || s) ≡ true) (sym (is.each call refl)) placed)) refl

-- and one that has none goes
goes : (is_forked b : Bool) (spelled : Option ClientCall) → Is b spelled → (not is_forked || b) ≡ false → call_in_place is_forked spelled ≡ None
goes is_forked b None is placed = refl
goes is_forked b (Some call) is placed =
    subst (λ test. where_true test (Some call) ≡ None) (sym (subst (λ s. (not is_forked || s) ≡ false) (sym (is.each call refl)) placed)) refl

-- the call that a value spells is that of its operation
call_of-operation : (owner : Owner) (value : Data) → operation value ≡ Some owner → call_of value ≡ where_true (is_known owner value) (call_as owner value)
call_of-operation owner value is = ap (λ spelled. option_and_then (λ one. where_true (is_known one value) (call_as one value)) spelled) is

by_operation : (owner : Owner) (value : Data) → Is (has owner (codes "s")) (where_true (is_known owner value) (call_as owner value))
by_operation owner value = kept_where (has owner (codes "s")) (is_known owner value) (call_as owner value) (by_session owner value)

pub call_stays : (result : Result ClientCall Misfit) (is_forked : Bool) (owner : Owner) (value : Data) → operation value ≡ Some owner → is_operation_in_place is_forked owner ≡ true →
    Reads result (where_true (is_known owner value) (call_as owner value)) → Reads result (call_in_place is_forked (call_of value))
call_stays result is_forked owner value is placed reads =
    subst (Reads result) (sym (ap (call_in_place is_forked) (call_of-operation owner value is)
    ∙ stays is_forked (has owner (codes "s")) (where_true (is_known owner value) (call_as owner value)) (by_operation owner value) placed)) reads

pub call_goes : (is_forked : Bool) (owner : Owner) (value : Data) → operation value ≡ Some owner → is_operation_in_place is_forked owner ≡ false → call_in_place is_forked (call_of value) ≡ None
call_goes is_forked owner value is placed =
    ap (call_in_place is_forked) (call_of-operation owner value is)
    ∙ goes is_forked (has owner (codes "s")) (where_true (is_known owner value) (call_as owner value)) (by_operation owner value) placed

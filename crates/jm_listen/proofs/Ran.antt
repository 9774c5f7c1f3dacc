-- What all tasks did, as what all jobs did.
use Rattle.std.proofs.Common.{◌≡◌, Bool, true, cond, Option, Result, ℕ, zero, suc, ◌+◌, ◌<◌, List, [], ◌∷◌, length, map, get_or, refl, sym, ap, ◌∙◌, subst, arith}
use Rattle.std.specs.Prelude.{is_ok, slice_index_or}
use Rattle.jm_dest.specs.declared.session.SessionId.{SessionId}
use Rattle.jm_machine.specs.declared.call.Call.{Call}
use Rattle.jm_audit.specs.Passes.{Calls}
use Rattle.jm_listen.specs.declared.jobs.Job.{Job}
use Rattle.jm_listen.specs.declared.jobs.Task.{Task}
use Rattle.jm_listener.specs.declared.listener.After.{After}
use Rattle.jm_listener.specs.declared.listener.ListenerFault.{ListenerFault}
use Rattle.jm_listen.specs.Turns.{Turn, Takes, Ends, Follows, call_after, message, one_more}
use Rattle.jm_listen.specs.Runs.{JobTurned, JobRan, TaskRan, AllRan}

-- a turn in which a message came
pub one_message : (s : SessionId) (c : ℕ) (old taken told new : Calls) (answer : Result After ListenerFault) (ok accepted : Bool) (call : Option Call) (ended : ℕ)
    → Takes s c old taken true → ok ≡ is_ok answer → Ends s c ok taken told accepted → call ≡ call_after answer → Follows s call told new
    → ended ≡ cond accepted 1 0 → Turn s c old new ended
one_message s c old taken told new answer ok accepted call ended takes well ends named follows count =
    let P : Bool → Type 0 = λ b. Ends s c b taken told accepted in
    let Q : Option Call → Type 0 = λ x. Follows s x told new in
    message answer accepted taken told takes (subst P well ends) (subst Q named follows) count

-- one turn more
pub ran_on : {N L : Type 0} (n : ℕ) (old mid new : Job N L) (ended more : ℕ) → JobRan n old mid ended → JobTurned mid new more → JobRan (n + 1) old new (ended + more)
ran_on n old mid new ended more ran one =
    let P : ℕ → Type 0 = λ c. Turn mid.session c mid.pass new.pass more in
    let Q : SessionId → Type 0 = λ s. Turn s old.consumer mid.pass new.pass more in
    let turned : Turn old.session old.consumer mid.pass new.pass more = subst Q ran.session (subst P ran.consumer one.turned) in
    record {
      session = one.session ∙ ran.session;
      consumer = one.consumer ∙ ran.consumer;
      ran = one_more n mid.pass new.pass ended more ran.ran turned;
    }

map_or : {A B : Type 0} (f : A → B) (xs : List A) (i : ℕ) (d : A) → get_or (map f xs) i (f d) ≡ f (get_or xs i d)
map_or f [] i d = refl
map_or f (x ∷ xs) zero d = refl
map_or f (x ∷ xs) (suc i) d = map_or f xs i d

length_map : {A B : Type 0} (f : A → B) (xs : List A) → length (map f xs) ≡ length xs
length_map f [] = refl
length_map f (x ∷ xs) = ap (λ n. suc n) (length_map f xs)

pub all_ran : {N L : Type 0} (turns : ℕ) (olds news : List (Job N L)) (counts : List ℕ) (ts ts' : List (Task N L)) → map (λ t. t.job) ts ≡ olds → news ≡ map (λ t. t.job) ts' → counts ≡ map (λ t. t.ended) ts' → length ts' ≡ length ts → ((i : ℕ) (d : Task N L) → i < length ts → TaskRan turns (slice_index_or ts i d) (slice_index_or ts' i d)) → AllRan turns olds news counts
all_ran {N} {L} turns olds news counts ts ts' o n c len h = (
  ap length c ∙ length_map (λ (t : Task N L). t.ended) ts' ∙ len ∙ sym (length_map (λ (t : Task N L). t.job) ts) ∙ ap length o,
  λ i d less.
      (let e : Task N L = record { job = d; ended = 0 } in
      let less' : i < length ts = omega (arith, ap length o, length_map (λ (t : Task N L). t.job) ts) in
      let told = h i e less' in
      let old : (get_or ts i e).job ≡ get_or olds i d = sym (map_or (λ (t : Task N L). t.job) ts i e) ∙ ap (λ xs. get_or xs i d) o in
      let new : (get_or ts' i e).job ≡ get_or news i d = sym (map_or (λ (t : Task N L). t.job) ts' i e) ∙ ap (λ xs. get_or xs i d) (sym n) in
      let count : (get_or ts' i e).ended ≡ get_or counts i 0 = sym (map_or (λ (t : Task N L). t.ended) ts' i e) ∙ ap (λ xs. get_or xs i 0) (sym c) in
      let A : Job N L → Type 0 = λ x. JobRan turns x (get_or ts' i e).job (get_or ts' i e).ended in
      let B : Job N L → Type 0 = λ x. JobRan turns (get_or olds i d) x (get_or ts' i e).ended in
      let C : ℕ → Type 0 = λ x. JobRan turns (get_or olds i d) (get_or news i d) x in
      subst C count (subst B new (subst A old told))),
)

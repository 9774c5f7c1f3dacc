-- What a run of the parts of items says of the items.
use Rattle.std.proofs.Common.{◌≡◌, ℕ, List, Result, Ok, Err, ap, subst, ◌∙◌}
use Rattle.std.specs.Prelude.{All, IfOk, length, map}
use Rattle.jm_base.specs.declared.refusal.Refusal.{Refusal}
use Rattle.jm_machine.specs.Machine.{State}
use Rattle.jm_machine.specs.declared.answer.Answer.{Answer}
use Rattle.jm_audit.specs.declared.audit.FinishFault.{FinishFault}
use Rattle.jm_scenario.specs.declared.item.Item.{Item}
use Rattle.jm_forks.specs.declared.part.Part.{Part}
use Rattle.jm_forks.specs.Forks.{parts, sessions_of}
use Rattle.jm_forks.proofs.Laws.{calls_of_parts-parts}
use Rattle.jm_dest.specs.declared.session.SessionId.{SessionId}
use Rattle.jm_seats.specs.Seats.{Seating, unopened_at, IsUnused}
use Rattle.jm_threaded.specs.Runs.{AreNew}
use Rattle.jm_threaded.specs.Threaded.{PlaysThreaded, RunsAudited}
use Rattle.jm_threaded.proofs.Made.{told_all}

-- what is so of a result that is there, said otherwise
pub if_there : {X E : Type 0} {P Q : X → Type 0} (r : Result X E) → ((x : X) → P x → Q x) → IfOk r P → IfOk r Q
if_there (Ok x) f p = f x p
if_there (Err e) f p = p

-- parts that were run at new seats are the items that were played
pub played : {A : Type 0} (opening : ℕ) (items : List Item) (all : List Part) (replies : List (Result Answer Refusal)) (verdict : Result A FinishFault) (end : State)
    → all ≡ parts items → (seats : Seating) × AreNew opening (sessions_of all) seats × RunsAudited seats all replies verdict end
    → PlaysThreaded opening items replies verdict end
played opening items all replies verdict end is ran =
    let run : RunsAudited ran.0 (parts items) replies verdict end = subst (λ ps. RunsAudited ran.0 ps replies verdict end) is ran.2 in
    record {
      seats = ran.0;
      new = subst (λ ps. AreNew opening (sessions_of ps) ran.0) is ran.1;
      ran = run;
      replied = told_all ran.0 (parts items) replies run.after run.fit ∙ ap length (calls_of_parts-parts items);
    }

-- seats that were made for sessions are new seats of those
pub are_new : (opening : ℕ) (sessions all : List SessionId) (seating : Seating) → sessions ≡ all
    → map (λ seat. seat.half) seating.seats ≡ map (unopened_at opening) sessions → All (λ seat. IsUnused seat.pass) seating.seats × IsUnused seating.connections
    → AreNew opening all seating
are_new opening sessions all seating is halves unused =
    record { halves = halves ∙ ap (λ list. map (unopened_at opening) list) is; unused = unused.0; connections = unused.1 }

-- What a run of all jobs leaves.
use Rattle.std.specs.Prelude.{◌≡◌, ℕ, ◌<◌, List, length, slice_index, slice_index_or}
use Rattle.jm_listen.specs.declared.jobs.Job.{Job}
use Rattle.jm_listen.specs.declared.jobs.Task.{Task}
use Rattle.jm_listen.specs.Turns.{Turn, Turns}

-- the job made one turn
pub record JobTurned {N L : Type 0} (old new : Job N L) (ended : ℕ) : Type 0 where
  pub session : new.session ≡ old.session
  pub consumer : new.consumer ≡ old.consumer
  pub turned : Turn old.session old.consumer old.pass new.pass ended

-- the job made so many turns, and that many of its deliveries were ended
pub record JobRan {N L : Type 0} (turns : ℕ) (old new : Job N L) (ended : ℕ) : Type 0 where
  pub session : new.session ≡ old.session
  pub consumer : new.consumer ≡ old.consumer
  pub ran : Turns old.session old.consumer old.pass turns new.pass ended

abbrev pub TaskRan : {N L : Type 0} → ℕ → Task N L → Task N L → Type 0
TaskRan turns old new = JobRan turns old.job new.job new.ended

-- each job did
abbrev pub AllRan : {N L : Type 0} → ℕ → List (Job N L) → List (Job N L) → List ℕ → Type 0
AllRan turns olds news counts = (length counts ≡ length olds) × ((i : ℕ) (d : _) → i < length olds → JobRan turns (slice_index_or olds i d) (slice_index_or news i d) (slice_index counts i))

-- Whether two jobs are of one session.
use Rattle.std.specs.Prelude.{◌≡◌, ◌≢◌, ℕ, ◌<◌, List, Some, slice_get}
use Rattle.jm_listen.specs.declared.jobs.Job.{Job}

-- two jobs are of one session
pub record SameSession {N L : Type 0} (jobs : List (Job N L)) : Type 0 where
  pub i : ℕ
  pub j : ℕ
  pub one : Job N L
  pub other : Job N L
  pub before : j < i
  pub stands : slice_get jobs i ≡ Some one
  pub other_stands : slice_get jobs j ≡ Some other
  pub same : one.session ≡ other.session

-- none of the first n jobs is of the session of job i
abbrev pub ApartBefore : {N L : Type 0} → List (Job N L) → ℕ → ℕ → Type 0
ApartBefore jobs i n = (j : ℕ) → j < n → (one other : _) → slice_get jobs i ≡ Some one → slice_get jobs j ≡ Some other → one.session ≢ other.session

-- no two of the first n jobs are of one session
abbrev pub Apart : {N L : Type 0} → List (Job N L) → ℕ → Type 0
Apart jobs n = (i : ℕ) → i < n → ApartBefore jobs i i

-- Jobs of one session.
use Rattle.std.proofs.Common.{◌≡◌, ℕ, List, Some, sym, ap, ◌∙◌}
use Rattle.std.specs.Prelude.{slice_get}
use Rattle.jm_listen.specs.declared.jobs.Job.{Job}

some_is : {A : Type 0} (x y : A) → Some x ≡ Some y → x ≡ y
some_is x y h = cc

-- two jobs that were read at those places are of different sessions, so whatever stands there is
pub apart_at : {N L : Type 0} (jobs : List (Job N L)) (i j : ℕ) (a b : Job N L) → slice_get jobs i ≡ Some a → slice_get jobs j ≡ Some b → (a.session ≡ b.session → ⊥)
    → (one other : Job N L) → slice_get jobs i ≡ Some one → slice_get jobs j ≡ Some other → one.session ≡ other.session → ⊥
apart_at {N} {L} jobs i j a b ai bj not one other oi oj same =
    let x : a ≡ one = some_is a one (sym ai ∙ oi) in
    let y : b ≡ other = some_is b other (sym bj ∙ oj) in
    not (ap (λ (k : Job N L). k.session) x ∙ same ∙ sym (ap (λ (k : Job N L). k.session) y))

use Rattle.std.proofs.Common.{ℕ, false, ap, sym}
use Rattle.std.specs.Prelude.{◌==◌, is_some, None}
use Rattle.std.specs.HashMap.{get}
use Rattle.jm_transactions.specs.Courses.{course_of}
use Rattle.jm_transactions.proofs.Courses.{closed_noted}
use Rattle.jm_transactions.proofs.transactions.Transactions.close_connection.Goals as goal

pub returns-in-Some : goal.returns-in-Some
returns-in-Some c =
    let k = c.in-Some.connection.now in
    let known = sym c.in-Some.ensures.value in
    let written = (c.get_mut.follows.holds (record { is_open = false; client = None })).3 (ap is_some known) in
    let noted = λ (d : ℕ). closed_noted c.args.id d (get (λ a b. a == b) c.args.self.now.connections) k _ known (written.0 d) in
    λ i. record (course_of c.args.self.now) { connection = λ d. (noted d).0 i; client = λ d. (noted d).1 i }

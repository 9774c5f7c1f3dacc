-- What writes one after the other append to a sink.
use Rattle.std.proofs.Common.{◌+◌, ◌-◌, ◌∙◌, ◌++◌, ℕ, List, Option, ap, sym, subst, take, drop, length}
use Rattle.std.proofs.KnownBytes.{Appends-trans}
use Rattle.std.proofs.Math.Seq.{take-add}
use Rattle.std.proofs.lemmas.List.{take_rest}
use Rattle.std.specs.Io.KnownBytes.{Appends}

-- a write of the rest after other writes
pub write_more : (a b c : Option (List ℕ)) (bytes : List ℕ) (written count : ℕ) → Appends a b (take written bytes)
    → Appends b c (take count (take (length bytes - written) (drop written bytes))) → Appends a c (take (written + count) bytes)
write_more a b c bytes written count p q =
    subst (Appends a c) (ap (λ rest. take written bytes ++ take count rest) (take_rest bytes written) ∙ sym (take-add written count bytes))
    (Appends-trans a b c (take written bytes) (take count (take (length bytes - written) (drop written bytes))) p q)

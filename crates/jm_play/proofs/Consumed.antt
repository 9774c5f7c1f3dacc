-- What reads one after the other take from a source.
use Rattle.std.proofs.Common.{◌≡◌, ◌≤◌, ◌<◌, ◌+◌, ◌∙◌, ℕ, sym, ap, subst, List, [], ◌++◌, append_assoc, append-nil, length, length-append, length-take-le, take, Option, Some, None, IfSome}
use Rattle.std.specs.Io.KnownBytes.{Consumes, IsAtEnd}
use Rattle.jm_play.specs.Source.{GaveTooMuch, scenario_max}

-- a read after other reads
pub read_more : (a b c : Option (List ℕ)) (first next : List ℕ) → Consumes a b first → Consumes b c next → Consumes a c (first ++ next)
read_more None b c first next p q = tt
read_more (Some x) None c first next p q = absurd p
read_more (Some x) (Some y) None first next p q = absurd q
read_more (Some x) (Some y) (Some z) first next p q = p ∙ ap (λ rest. first ++ rest) q ∙ sym (append_assoc first next z)

-- a read that gives nothing, after other reads that gave all
pub read_whole : (a b c : Option (List ℕ)) (bytes : List ℕ) → Consumes a b bytes → Consumes b c [] → IsAtEnd c → IfSome a (λ all. bytes ≡ all)
read_whole None b c bytes p q e = tt
read_whole (Some x) None c bytes p q e = absurd p
read_whole (Some x) (Some y) None bytes p q e = absurd q
read_whole (Some x) (Some y) (Some z) bytes p q e = sym (p ∙ ap (λ rest. bytes ++ rest) (q ∙ e) ∙ append-nil bytes)

-- the same of a chunk, of which that read gave none
pub read_end : (a b c : Option (List ℕ)) (bytes chunk : List ℕ) (n : ℕ) → Consumes a b bytes
    → Consumes b c (take n chunk) → (n ≡ 0 → 0 < length chunk → IsAtEnd c) → n ≡ 0 → 0 < length chunk → IfSome a (λ all. bytes ≡ all)
read_end a b c bytes chunk n p q end none room =
    read_whole a b c bytes p (subst (λ k. Consumes b c (take k chunk)) none q) (end none room)

-- a read that makes the bytes too many
pub read_too_much : (a b c : Option (List ℕ)) (bytes chunk : List ℕ) (n : ℕ) → Consumes a b bytes
    → Consumes b c (take n chunk) → n ≤ length chunk → scenario_max < length bytes + n → GaveTooMuch a c
read_too_much a b c bytes chunk n p q within many = (
  bytes ++ take n chunk,
  read_more a b c bytes (take n chunk) p q,
  subst (λ k. scenario_max < k) (sym (length-append bytes (take n chunk) ∙ ap (λ k. length bytes + k) (length-take-le n chunk within))) many,
)

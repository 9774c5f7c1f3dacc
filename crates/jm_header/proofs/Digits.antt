-- The text of a JMSMessageID, as it is written from its end.
use Rattle.std.proofs.Common.{◌≡◌, ℕ, zero, suc, ◌<◌, ◌≤◌, ◌^◌, List, [], ◌∷◌, ◌++◌, length, codes, decimal, IsAscii, append_assoc, rules}
use Rattle.std.proofs.lemmas.List.{append-nil}
use Rattle.std.proofs.lemmas.Fmt.{length-decimal-le, IsAscii-decimal}
use Rattle.std.proofs.lemmas.Str.{IsAscii-append}

pub at_most_20 : (n : ℕ) → n < 2 ^ 64 → length (decimal n) ≤ 20
at_most_20 n h = search (rules, length-decimal-le 20)

pub at_most_10 : (n : ℕ) → n < 2 ^ 32 → length (decimal n) ≤ 10
at_most_10 n h = search (rules, length-decimal-le 10)

-- the text of four numbers
abbrev pub text_of : ℕ → ℕ → ℕ → ℕ → List ℕ
text_of o c s n = codes "ID:" ++ decimal o ++ codes "-" ++ decimal c ++ codes "." ++ decimal s ++ codes "." ++ decimal n

nested : (o c s n : List ℕ) → codes "ID:" ++ o ++ codes "-" ++ c ++ codes "." ++ s ++ codes "." ++ n ≡ 73 ∷ 68 ∷ 58 ∷ (o ++ 45 ∷ (c ++ 46 ∷ (s ++ 46 ∷ n)))
nested o c s n = simp append_assoc

pub written : (o c s n : ℕ) (l0 l1 l2 l3 l4 l5 l6 : List ℕ) → l0 ≡ [] → l1 ≡ 46 ∷ (decimal n ++ l0) → l2 ≡ 46 ∷ (decimal s ++ l1) → l3 ≡ 45 ∷ (decimal c ++ l2)
    → l4 ≡ 58 ∷ (decimal o ++ l3) → l5 ≡ 68 ∷ l4 → l6 ≡ 73 ∷ l5 → l6 ≡ text_of o c s n
written o c s n l0 l1 l2 l3 l4 l5 l6 e0 e1 e2 e3 e4 e5 e6 =
    let e = append-nil (decimal n) in
    let f = nested (decimal o) (decimal c) (decimal s) (decimal n) in
    cc

one : (b : ℕ) → b < 128 → IsAscii (b ∷ [])
one b h zero = h
one b h (suc i) = search rules

more : (front : List ℕ) (b n : ℕ) → IsAscii front → b < 128 → n < 2 ^ 64 → IsAscii (front ++ b ∷ [] ++ decimal n)
more front b n h hb hn = IsAscii-append (front ++ b ∷ []) (decimal n) (IsAscii-append front (b ∷ []) h (one b hb)) (IsAscii-decimal n hn)

start_ascii : (o : ℕ) → o < 2 ^ 64 → IsAscii (codes "ID:" ++ decimal o)
start_ascii o h = IsAscii-append (codes "ID:") (decimal o) (IsAscii-append (73 ∷ 68 ∷ []) (58 ∷ []) (IsAscii-append (73 ∷ []) (68 ∷ []) (one 73 (search rules)) (one 68 (search rules))) (one 58 (search rules))) (IsAscii-decimal o h)

pub text_ascii : (o c s n : ℕ) → o < 2 ^ 64 → c < 2 ^ 64 → s < 2 ^ 64 → n < 2 ^ 64 → IsAscii (text_of o c s n)
text_ascii o c s n ho hc hs hn =
    let a = start_ascii o ho in
    let b = more (codes "ID:" ++ decimal o) 45 c a (search rules) hc in
    let d = more (codes "ID:" ++ decimal o ++ codes "-" ++ decimal c) 46 s b (search rules) hs in
    more (codes "ID:" ++ decimal o ++ codes "-" ++ decimal c ++ codes "." ++ decimal s) 46 n d (search rules) hn

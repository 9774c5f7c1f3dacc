-- Turns of a receiver.
use Rattle.std.proofs.Common.{◌≡◌, ℕ, ◌+◌, ◌<◌, List, [], ◌∷◌, ◌++◌, length, Bool, true, false, refl, ap, sym, ◌∙◌, subst, arith, append_assoc, length-append, Result, Ok, Err}
use Rattle.std.specs.Prelude.{MatchBool}
use Rattle.std.proofs.lemmas.List.{append-nil}
use Rattle.jm_base.specs.declared.refusal.Refusal.{Refusal}
use Rattle.jm_dest.specs.declared.session.SessionId.{SessionId}
use Rattle.jm_machine.specs.declared.answer.Answer.{Answer}
use Rattle.jm_machine.specs.declared.answer.Answer.TheVariants.{Done, Sent, Delivered, Nothing, Missed}
use Rattle.jm_machine.specs.Entries.{is_not_made}
use Rattle.jm_audit.specs.declared.pass.PassEntry.{PassEntry}
use Rattle.jm_audit.specs.Passes.{Calls}
use Rattle.jm_broker.specs.Calls.{AllWaited, Gains, HasSame, Noted, Received, receive, entry, is_nothing}

waited_push : (s : SessionId) (c n t : ℕ) (ws : List PassEntry) → AllWaited s c ws → AllWaited s c (ws ++ entry n (receive s c t) (Ok Nothing) ∷ [])
waited_push s c n t [] h = ((t, refl), tt)
waited_push s c n t (x ∷ ws) h = (h.0, waited_push s c n t ws h.1)

pub nothing_is : (r : Result Answer Refusal) → is_nothing r ≡ true → r ≡ Ok Nothing
nothing_is (Ok Done) h = cc
nothing_is (Ok (Sent n)) h = cc
nothing_is (Ok (Delivered d)) h = cc
nothing_is (Ok Nothing) h = refl
nothing_is (Ok (Missed n)) h = cc
nothing_is (Err r) h = cc

gains_same : (old mid new : Calls) (es : List PassEntry) → Gains old mid es → HasSame mid new → Gains old new es
gains_same old mid new es g h = (h.0 ∙ g.0, h.1 ∙ g.1)

gains_then : (old mid new : Calls) (es fs : List PassEntry) → Gains old mid es → Gains mid new fs → Gains old new (es ++ fs)
gains_then old mid new es fs g h = (
  h.0 ∙ ap (λ m. m ++ fs) g.0 ∙ append_assoc old.entries es fs,
  omega (arith, h.1, g.1, length-append es fs),
)

-- k receives were answered Nothing, and nothing else was called
abbrev pub WaitedFor : SessionId → ℕ → Calls → Calls → ℕ → Type 0
WaitedFor s c old new k = (waited : List PassEntry) × AllWaited s c waited × Gains old new waited × (length waited ≡ k)

pub begins : (s : SessionId) (c : ℕ) (old : Calls) (k : ℕ) → k ≡ 0 → WaitedFor s c old old k
begins s c old k h = ([], tt, (sym (append-nil old.entries), omega arith), sym h)

pub goes_on : (s : SessionId) (c k t : ℕ) (old mid new : Calls) (r : Result Answer Refusal) → WaitedFor s c old mid k → Noted mid new (receive s c t) r → is_nothing r ≡ true → WaitedFor s c old new (k + 1)
goes_on s c k t old mid new r h noted nothing =
    let P : Result Answer Refusal → Type 0 = λ x. Noted mid new (receive s c t) x in
    let one = subst P (nothing_is r nothing) noted in
    let e = entry one.0 (receive s c t) (Ok Nothing) in (
      h.0 ++ e ∷ [],
      waited_push s c one.0 t h.0 h.1,
      gains_then old mid new h.0 (e ∷ []) h.2 one.1,
      length-append h.0 (e ∷ []) ∙ ap (λ n. n + 1) h.3,
    )

not_nothing : (b m : Bool) (X Y Z : Type 0) → b ≡ false → MatchBool m Y Z → MatchBool b X (MatchBool m Y Z)
not_nothing true m X Y Z n h = cc
not_nothing false m X Y Z n h = h

either_way : (m : Bool) (P Q Y Z : Type 0) → (P → Y) → (Q → Z) → MatchBool m P Q → MatchBool m Y Z
either_way true P Q Y Z f g h = f h
either_way false P Q Y Z f g h = g h

pub stops : (s : SessionId) (c k turns t : ℕ) (old mid new : Calls) (r : Result Answer Refusal) → WaitedFor s c old mid k → Noted mid new (receive s c t) r → k < turns → is_nothing r ≡ false → Received s c turns old new r
stops s c k turns t old mid new r h noted less not =
    let X : Type 0 = Gains old new h.0 × (length h.0 ≡ turns) in
    let Y : Type 0 = Gains old new h.0 × (length h.0 < turns) in
    let Z : Type 0 = (n : ℕ) × (u : ℕ) × Gains old new (h.0 ++ entry n (receive s c u) r ∷ []) × (length h.0 < turns) in
    let Q : Type 0 = (n : ℕ) × Gains mid new (entry n (receive s c t) r ∷ []) in
    let short : length h.0 < turns = omega (arith, h.3) in (
      h.0,
      h.1,
      not_nothing (is_nothing r) (is_not_made r) X Y Z not
          (either_way (is_not_made r) (HasSame mid new) Q Y Z
          (λ same. (gains_same old mid new h.0 h.2 same, short))
          (λ one. (one.0, t, gains_then old mid new h.0 (entry one.0 (receive s c t) r ∷ []) h.2 one.1, short))
          noted),
    )

pub ends : (s : SessionId) (c turns : ℕ) (old new : Calls) (r : Result Answer Refusal) → WaitedFor s c old new turns → r ≡ Ok Nothing → Received s c turns old new r
ends s c turns old new r h is = let P : Result Answer Refusal → Type 0 = λ x. Received s c turns old new x in subst P (sym is) (h.0, h.1, (h.2, h.3))

-- What the sessions of a run sent, once the half of one is written, and once those of a connection are emptied.
use Rattle.std.proofs.Common.{◌≡◌, ◌+◌, ℕ, Bool, true, false, true≢false, cond, List, [], ◌∷◌, ◌++◌, refl, ap, sym, subst, ◌∙◌, inl, inr, arith, ◌<◌, Option, Some, None, Result, Ok, Err}
use Rattle.std.specs.Prelude.{◌==◌, is_some}
use Rattle.std.specs.HashMap.{get, Updates, WritesThrough}
use Rattle.std.specs.Map.{lookup}
use Rattle.std.specs.Map.Calls.{RetainsPairs}
use Rattle.jm_base.specs.declared.refusal.Refusal.{Refusal}
use Rattle.jm_base.specs.declared.refusal.Refusal.TheVariants.{Memory}
use Rattle.jm_dest.specs.declared.session.SessionId.{SessionId}
use Rattle.jm_dest.specs.Names.{session_eq}
use Rattle.jm_header.specs.declared.content.Content.{Content}
use Rattle.jm_header.proofs.Same.{session_same}
use Rattle.jm_tx.specs.declared.buffer.Buffer.{Buffer}
use Rattle.jm_tx.specs.declared.buffer.Sent.{Sent}
use Rattle.jm_tx.specs.declared.halves.Halves.{Halves}
use Rattle.jm_tx.specs.Buffers.{KnownSendFits}
use Rattle.jm_tx.specs.Halves.{sent_of, kept_of, room, has_sent, sends_in, messages_in, none_sent, none_kept, with_messages, without_connection, IsAsBefore, MayPutBack, HasNoRoom, RunSendFits}

-- where nothing is noted, nothing was sent, and nothing waits
pub nothing_sent : (halves : Halves) → halves.halves.entries ≡ [] → sent_of halves ≡ none_sent
unfolding sent_of
nothing_sent halves e = λ i. λ s. ap (λ es. sends_in (lookup (session_eq s) es)) e i

pub nothing_waits : (halves : Halves) → halves.halves.entries ≡ [] → kept_of halves ≡ none_kept
unfolding kept_of
nothing_waits halves e = λ i. λ s. ap (λ es. messages_in (lookup (session_eq s) es)) e i

-- what an empty table says
pub ruleset nothing = (nothing_sent, nothing_waits)

-- where the notes are as before, so is what they say
pub same_notes : (old new : Halves) → new.halves.entries ≡ old.halves.entries → IsAsBefore old new
unfolding sent_of kept_of
same_notes old new e = ((λ i. λ s. ap (λ es. sends_in (lookup (session_eq s) es)) e i), (λ i. λ s. ap (λ es. messages_in (lookup (session_eq s) es)) e i))

-- what is written through the note of a session
pub through : (old new : Halves) (s : SessionId) (x y : Buffer) → get session_eq old.halves s ≡ Some x → WritesThrough session_eq (session_eq s) old.halves y new.halves →
    Updates session_eq old.halves new.halves s (Some y)
through old new s x y is h = h.3 (ap is_some is)

-- it takes no room
pub room_stays : (old new : Halves) (s : SessionId) (y : Buffer) → WritesThrough session_eq (session_eq s) old.halves y new.halves → room new ≡ room old
unfolding room
room_stays old new s y h = h.6

-- what is said of a session by its note
pub noted : (halves : Halves) (s : SessionId) (x : Option Buffer) → get session_eq halves.halves s ≡ x → (sent_of halves s ≡ sends_in x) × (kept_of halves s ≡ messages_in x)
unfolding sent_of kept_of
noted halves s x e = (ap sends_in e, ap messages_in e)

-- a number that is given anew for one session, where it is what it was
num_pick : (b : Bool) (n m : ℕ) → (b ≡ true → n ≡ m) → cond b n m ≡ m
num_pick true n m h = h refl
num_pick false n m h = refl

list_pick : (b : Bool) (n m : List Content) → (b ≡ true → n ≡ m) → m ≡ cond b n m
list_pick true n m h = sym (h refl)
list_pick false n m h = refl

-- messages that wait already
pub waiting : (kept : SessionId → List Content) (s : SessionId) (messages : List Content) → kept s ≡ messages → kept ≡ with_messages s messages kept
waiting kept s messages e = λ i. λ t. list_pick (session_eq s t) messages (kept t) (λ h. sym e ∙ ap kept ((session_same s t).0 h)) i

-- where nothing is noted of the session, nothing may be put back but nothing
pub nothing_back : (old : Halves) (s : SessionId) (messages : List Content) → get session_eq old.halves s ≡ None → MayPutBack old s messages → kept_of old ≡ with_messages s messages (kept_of old)
unfolding has_sent
nothing_back old s messages none back = waiting (kept_of old) s messages ((noted old s None none).1 ∙ empty back)
  where
    empty : MayPutBack old s messages → [] ≡ messages
    empty back = elim back [ inl e ↦ sym e | inr h ↦ absurd (true≢false (sym h ∙ ap is_some none)) ]

-- a note of the session is written
pub sent_written : (old new : Halves) (s : SessionId) (x : Buffer) → Updates session_eq old.halves new.halves s (Some x) → sent_of new ≡ (λ t. cond (session_eq s t) x.sent (sent_of old t))
unfolding sent_of
sent_written old new s x h = λ i. λ t. each t i
  where
    go : (b : Bool) (o : Option Buffer) → sends_in (cond b (Some x) o) ≡ cond b x.sent (sends_in o)
    go true o = refl
    go false o = refl

    each : (t : SessionId) → sent_of new t ≡ cond (session_eq s t) x.sent (sent_of old t)
    each t = ap sends_in (h.0 t) ∙ go (session_eq s t) (get session_eq old.halves t)

pub kept_written : (old new : Halves) (s : SessionId) (x : Buffer) → Updates session_eq old.halves new.halves s (Some x) → (messages : List Content) → x.messages ≡ messages →
    kept_of new ≡ with_messages s messages (kept_of old)
unfolding kept_of
kept_written old new s x h messages e = λ i. λ t. each t i
  where
    go : (b : Bool) (o : Option Buffer) → messages_in (cond b (Some x) o) ≡ cond b messages (messages_in o)
    go true o = e
    go false o = refl

    each : (t : SessionId) → kept_of new t ≡ with_messages s messages (kept_of old) t
    each t = ap messages_in (h.0 t) ∙ go (session_eq s t) (get session_eq old.halves t)

-- it counts as before
pub sent_stays : (old new : Halves) (s : SessionId) (x : Buffer) → Updates session_eq old.halves new.halves s (Some x) → x.sent ≡ sent_of old s → sent_of new ≡ sent_of old
sent_stays old new s x h e = sent_written old new s x h ∙ (λ i. λ t. num_pick (session_eq s t) x.sent (sent_of old t) (λ k. e ∙ ap (sent_of old) ((session_same s t).0 k)) i)

-- as many wait as before
pub kept_stays : (old new : Halves) (s : SessionId) (x : Buffer) → Updates session_eq old.halves new.halves s (Some x) → x.messages ≡ kept_of old s → kept_of new ≡ kept_of old
kept_stays old new s x h e = kept_written old new s x h _ e ∙ sym (waiting (kept_of old) s (kept_of old s) refl)

-- where its note was written, its messages may be put back
pub may_put_back : (old new : Halves) (s : SessionId) (y : Buffer) (messages : List Content) → Updates session_eq old.halves new.halves s (Some y) → MayPutBack new s messages
unfolding has_sent
may_put_back old new s y messages u = inr (ap is_some u.1)

-- a send of a session whose note is written
pub send_fits : (b : Bool) (old new : Halves) (s : SessionId) (x y : Buffer) (stamp : Result Content Refusal) (r : Result Sent Refusal) → sent_of old s ≡ x.sent → kept_of old s ≡ x.messages →
    Updates session_eq old.halves new.halves s (Some y) → KnownSendFits b x stamp r y → RunSendFits b s old stamp r new
send_fits b old new s x y (Err e) r sent kept u h = (h.0, (sent_stays old new s y u (ap (λ (o : Buffer). o.sent) h.1 ∙ sym sent), kept_stays old new s y u (ap (λ (o : Buffer). o.messages) h.1 ∙ sym kept)))
send_fits b old new s x y (Ok m) (Err e) sent kept u h =
    (h.0, inl h.1, (sent_stays old new s y u (ap (λ (o : Buffer). o.sent) h.2 ∙ sym sent), kept_stays old new s y u (ap (λ (o : Buffer). o.messages) h.2 ∙ sym kept)))
send_fits true old new s x y (Ok m) (Ok sent_as) sent kept u h = (
  h.0,
  sent_written old new s y u ∙ (λ i. λ t. cond (session_eq s t) (next i) (sent_of old t)),
  kept_written old new s y u _ more,
)
  where
    next : y.sent ≡ sent_of old s + 1
    next = ap (λ (o : Buffer). o.sent) h.1 ∙ ap (λ n. n + 1) (sym sent)

    more : y.messages ≡ kept_of old s ++ m ∷ []
    more = ap (λ (o : Buffer). o.messages) h.1 ∙ ap (λ ms. ms ++ m ∷ []) (sym kept)
send_fits false old new s x y (Ok m) (Ok sent_as) sent kept u h = (
  h.0,
  sent_written old new s y u ∙ (λ i. λ t. cond (session_eq s t) (next i) (sent_of old t)),
  kept_stays old new s y u (ap (λ (o : Buffer). o.messages) h.1 ∙ sym kept),
)
  where
    next : y.sent ≡ sent_of old s + 1
    next = ap (λ (o : Buffer). o.sent) h.1 ∙ ap (λ n. n + 1) (sym sent)

-- a first send that is refused, of which nothing is noted
pub first_refused : (b : Bool) (old : Halves) (s : SessionId) (x y : Buffer) (stamp : Result Content Refusal) (e : Refusal) → KnownSendFits b x stamp (Err e) y → RunSendFits b s old stamp (Err e) old
first_refused b old s x y (Err r) e h = (h.0, (refl, refl))
first_refused b old s x y (Ok m) e h = (h.0, inl h.1, (refl, refl))

-- a first send for which there is no room
pub first_wants : (b : Bool) (old new : Halves) (s : SessionId) (x y : Buffer) (stamp : Result Content Refusal) (sent : Sent) → KnownSendFits b x stamp (Ok sent) y → HasNoRoom old s → IsAsBefore old new →
    RunSendFits b s old stamp (Err Memory) new
first_wants b old new s x y (Err r) sent h none same = absurd (not_ok h.0)
  where
    not_ok : Ok sent ≡ Err r → ⊥
    not_ok e = cc
first_wants b old new s x y (Ok m) sent h none same = (refl, inr none, same)

-- what a session of the connection keeps
abbrev pub emptied : ℕ → SessionId → Buffer → Buffer
emptied c s x = cond (s.connection == c) (record x { messages = [] }) x

-- each note is written
module _ {F : Type 0} (T : F → SessionId → Buffer → Bool → Buffer → F → Type 0) (c : ℕ) (f : F)
    (says : (s : SessionId) (x : Buffer) (b : Bool) (y : Buffer) (g : F) → T f s x b y g → (b ≡ true) × (y ≡ emptied c s x) × (g ≡ f)) where
  abbrev mapped : List (SessionId × Buffer) → List (SessionId × Buffer)
  mapped [] = []
  mapped (e ∷ es) = (e.0, emptied c e.0 e.1) ∷ mapped es

  all_mapped : (es kept : List (SessionId × Buffer)) → RetainsPairs T f es kept → kept ≡ mapped es
  all_mapped [] kept h = h
  all_mapped (e ∷ es) kept h =
      let s = says e.0 e.1 h.0 h.1 h.2 h.4 in
      let rest = all_mapped es h.3 (subst (λ g. RetainsPairs T g es h.3) s.2 h.5) in
      h.6 ∙ (λ j. cond (s.0 j) ((e.0, s.1 j) ∷ rest j) (rest j))

  emptied_sent : (s : SessionId) (x : Buffer) → (emptied c s x).sent ≡ x.sent
  emptied_sent s x = go (s.connection == c)
    where
      go : (b : Bool) → (cond b (record x { messages = [] }) x).sent ≡ x.sent
      go true = refl
      go false = refl

  emptied_kept : (s t : SessionId) (x : Buffer) → s ≡ t → (emptied c s x).messages ≡ cond (t.connection == c) [] x.messages
  emptied_kept s t x e = ap (λ u. (emptied c u x).messages) e ∙ go (t.connection == c)
    where
      go : (b : Bool) → (cond b (record x { messages = [] }) x).messages ≡ cond b [] x.messages
      go true = refl
      go false = refl

  mapped_sent : (t : SessionId) (es : List (SessionId × Buffer)) → sends_in (lookup (session_eq t) (mapped es)) ≡ sends_in (lookup (session_eq t) es)
  mapped_sent t [] = refl
  mapped_sent t (e ∷ es) = go (session_eq t e.0) (mapped_sent t es)
    where
      go : (b : Bool) → sends_in (lookup (session_eq t) (mapped es)) ≡ sends_in (lookup (session_eq t) es) →
          sends_in (cond b (Some (emptied c e.0 e.1)) (lookup (session_eq t) (mapped es))) ≡ sends_in (cond b (Some e.1) (lookup (session_eq t) es))
      go true later = emptied_sent e.0 e.1
      go false later = later

  mapped_kept : (t : SessionId) (es : List (SessionId × Buffer)) → messages_in (lookup (session_eq t) (mapped es)) ≡ cond (t.connection == c) [] (messages_in (lookup (session_eq t) es))
  mapped_kept t [] = list_pick (t.connection == c) [] [] (λ h. refl)
  mapped_kept t (e ∷ es) = go (session_eq t e.0) refl (mapped_kept t es)
    where
      go : (b : Bool) → session_eq t e.0 ≡ b → messages_in (lookup (session_eq t) (mapped es)) ≡ cond (t.connection == c) [] (messages_in (lookup (session_eq t) es)) →
          messages_in (cond b (Some (emptied c e.0 e.1)) (lookup (session_eq t) (mapped es))) ≡ cond (t.connection == c) [] (messages_in (cond b (Some e.1) (lookup (session_eq t) es)))
      go true h later = emptied_kept e.0 t e.1 (sym ((session_same t e.0).0 h))
      go false h later = later

  pub connection_emptied : (old new : Halves) → RetainsPairs T f old.halves.entries new.halves.entries → (sent_of new ≡ sent_of old) × (kept_of new ≡ without_connection c (kept_of old))
  unfolding sent_of kept_of
  connection_emptied old new h =
      let all = all_mapped old.halves.entries new.halves.entries h in (
        (λ i. λ t. (ap (λ es. sends_in (lookup (session_eq t) es)) all ∙ mapped_sent t old.halves.entries) i),
        (λ i. λ t. (ap (λ es. messages_in (lookup (session_eq t) es)) all ∙ mapped_kept t old.halves.entries) i),
      )

-- no room is left where a note could not be with_sent
pub without_room : (old : Halves) (s : SessionId) → get session_eq old.halves s ≡ None → (0 < room old → ⊥) → HasNoRoom old s
without_room old s none h = ((noted old s None none).0, omega (arith, h))

-- a session's first send
pub first_sent : (b : Bool) (old new : Halves) (s : SessionId) (x y : Buffer) (stamp : Result Content Refusal) (sent : Sent) → get session_eq old.halves s ≡ None → x.sent ≡ 0 → x.messages ≡ [] →
    Updates session_eq old.halves new.halves s (Some y) → KnownSendFits b x stamp (Ok sent) y → RunSendFits b s old stamp (Ok sent) new
first_sent b old new s x y stamp sent none number messages u h =
    let nothing = noted old s None none in
    send_fits b old new s x y stamp (Ok sent) (nothing.0 ∙ sym number) (nothing.1 ∙ sym messages) u h

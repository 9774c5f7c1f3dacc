-- Lists of which those are changed that may have rows out.
use Rattle.std.proofs.Common.{◌≡◌, ◌≢◌, ◌+◌, ◌<◌, ◌≤◌, ◌==◌, ◌||◌, ◌++◌, ℕ, suc, List, [], ◌∷◌, length, get_or, set, map, take, drop, Bool, true, false, refl, ap, sym, subst, ◌∙◌, arith, inl, inr, append-nil, append_assoc}
use Rattle.std.proofs.lemmas.Bool.Decides.{nat_tests, eqb_tells}
use Rattle.std.proofs.lemmas.List.{length-map, get_or-map, get_or_default, length-set, get_or-set_same, get_or-set_other, same_lists, drop_more, drop_all, drop-set-lt, take_more_set, length-take-le, length-append, get_or_at, get_or_read}
use Rattle.jm_lane.specs.Rows.{are_home}
use Rattle.jm_pending.specs.Rows.{Held}
use Rattle.jm_stations.specs.Backlogs.{is_named}
use Rattle.jm_stations.specs.Outstanding.{AreRising, AreHomeBut}
use Rattle.jm_stations.proofs.Rising.{rising_below, rising_drop, rising_push, rising_wider, named_drop, named_push}

-- the indexes that stay, of those before one, and all from it on
abbrev pub left : List ℕ → ℕ → ℕ → List ℕ
left indexes stay at = take stay indexes ++ drop at indexes

-- of the lists with the indexes before one each is changed, as none is that is not named; those indexes stay whose lists may
-- have rows out
pub record IsSwept (f : Held → Held) (init lists : List Held) (indexes : List ℕ) (at stay : ℕ) : Type 0 where
  pub number : length lists ≡ length init
  pub same : (k : ℕ) (d : Held) → k < length init → f (get_or lists k d) ≡ f (get_or init k d)
  pub done : (k : ℕ) (d : Held) → k < length init → is_named (drop at indexes) k ≡ false → f (get_or lists k d) ≡ get_or lists k d
  pub few : stay ≤ at
  pub rising : AreRising 0 (length init) (left indexes stay at)
  pub others : AreHomeBut (left indexes stay at) lists

-- nothing is done yet
pub swept_none : (f : Held → Held) → ((h : Held) → are_home h.rows ≡ true → f h ≡ h) → (init : List Held) (indexes : List ℕ) → AreRising 0 (length init) indexes → AreHomeBut indexes init → IsSwept f init init indexes 0 0
swept_none f idle init indexes r o = record {
  number = refl;
  same = λ k d l. refl;
  done = λ k d l n. idle (get_or init k d) (o k d l n);
  few = omega arith;
  rising = r;
  others = o;
}

-- one that stays is put behind those that stay
left_stays : (indexes : List ℕ) (stay at i : ℕ) → stay ≤ at → at < length indexes → i ≡ get_or indexes at 0 → left (set indexes stay i) (stay + 1) (at + 1) ≡ left indexes stay at
left_stays indexes stay at i le l is =
    let inside : stay < length indexes = omega (arith, le, l) in
    let before : stay < at + 1 = omega (arith, le) in
    rw (take_more_set indexes stay i inside, drop-set-lt (at + 1) indexes stay i before, drop_more indexes at 0 l, is, append_assoc) refl

left_goes : (indexes : List ℕ) (stay at : ℕ) → at < length indexes → left indexes stay at ≡ take stay indexes ++ get_or indexes at 0 ∷ drop (at + 1) indexes
left_goes indexes stay at l = ap (λ xs. take stay indexes ++ xs) (drop_more indexes at 0 l)

-- what is left of the indexes behind one stays as it was
pub record IsPut (indexes after : List ℕ) (stay stay' at i : ℕ) (goes : Bool) : Type 0 where
  pub out : goes ≡ true → (after ≡ indexes) × (stay' ≡ stay)
  pub put : goes ≡ false → (after ≡ set indexes stay i) × (stay' ≡ stay + 1)

kept_few : (indexes after : List ℕ) (stay stay' at i : ℕ) (goes : Bool) → IsPut indexes after stay stay' at i goes → stay ≤ at → stay' ≤ at + 1
kept_few indexes after stay stay' at i true w le = omega (arith, (w.out refl).1, le)
kept_few indexes after stay stay' at i false w le = omega (arith, (w.put refl).1, le)

kept_rest : (indexes after : List ℕ) (stay stay' at i : ℕ) (goes : Bool) → IsPut indexes after stay stay' at i goes → stay ≤ at → drop (at + 1) after ≡ drop (at + 1) indexes
kept_rest indexes after stay stay' at i true w le = ap (drop (at + 1)) (w.out refl).0
kept_rest indexes after stay stay' at i false w le = ap (drop (at + 1)) (w.put refl).0 ∙ drop-set-lt (at + 1) indexes stay i (omega (arith, le))

kept_left : (indexes after : List ℕ) (stay stay' at i : ℕ) → IsPut indexes after stay stay' at i false → stay ≤ at → at < length indexes → i ≡ get_or indexes at 0 → left after stay' (at + 1) ≡ left indexes stay at
kept_left indexes after stay stay' at i w le l is = rw ((w.put refl).0, (w.put refl).1) (left_stays indexes stay at i le l is)

gone_left : (indexes after : List ℕ) (stay stay' at i : ℕ) → IsPut indexes after stay stay' at i true → left after stay' (at + 1) ≡ take stay indexes ++ drop (at + 1) indexes
gone_left indexes after stay stay' at i w = rw ((w.out refl).0, (w.out refl).1) refl

kept_rising : (high : ℕ) (indexes after : List ℕ) (stay stay' at i : ℕ) (goes : Bool) → IsPut indexes after stay stay' at i goes → stay ≤ at → at < length indexes → i ≡ get_or indexes at 0 → AreRising 0 high (left indexes stay at) → AreRising 0 high (left after stay' (at + 1))
kept_rising high indexes after stay stay' at i true w le l is r = rw (gone_left indexes after stay stay' at i w) (rising_drop 0 high (get_or indexes at 0) (take stay indexes) (drop (at + 1) indexes) (rw (left_goes indexes stay at l) at r))
kept_rising high indexes after stay stay' at i false w le l is r = rw (kept_left indexes after stay stay' at i w le l is) r

-- a list that is changed, where another is meant
changed_other : (lists : List Held) (i k : ℕ) (h d : Held) → k ≢ i → are_home (get_or lists k d).rows ≡ true → are_home (get_or (set lists i h) k d).rows ≡ true
changed_other lists i k h d ne home = rw (get_or-set_other lists i k h d ne) home

kept_others : (indexes after : List ℕ) (lists : List Held) (h h' : Held) (stay stay' at i : ℕ) (goes : Bool) → IsPut indexes after stay stay' at i goes → stay ≤ at → at < length indexes → i ≡ get_or indexes at 0 → i < length lists → h ≡ get_or lists i h → (are_home h.rows ≡ true → are_home h'.rows ≡ true) → (goes ≡ true → are_home h'.rows ≡ true) → AreHomeBut (left indexes stay at) lists → AreHomeBut (left after stay' (at + 1)) (set lists i h')
kept_others indexes after lists h h' stay stay' at i true w le l is within value home gone o = λ k d kl n.
    elim (eqb_tells k i) [
      | inl e ↦ rw (e.1, get_or-set_same lists i h' d within) (gone refl)
      | inr ne ↦
          let inside : k < length lists = omega (arith, length-set lists i h', kl) in
          let before : is_named (left indexes stay at) k ≡ false = rw (left_goes indexes stay at l, ← is) (named_drop i k (take stay indexes) (drop (at + 1) indexes) ne.1 (rw (gone_left indexes after stay stay' at i w) at n)) in
          changed_other lists i k h' d ne.1 (o k d inside before)
    ]
kept_others indexes after lists h h' stay stay' at i false w le l is within value home gone o = λ k d kl n.
    let inside : k < length lists = omega (arith, length-set lists i h', kl) in
    let before : is_named (left indexes stay at) k ≡ false = rw (kept_left indexes after stay stay' at i w le l is) at n in
    elim (eqb_tells k i) [
      | inl e ↦ rw (e.1, get_or-set_same lists i h' d within) (home (rw (value ∙ get_or_default lists i h d within) (subst (λ (j : ℕ). are_home (get_or lists j d).rows ≡ true) e.1 (o k d inside before))))
      | inr ne ↦ changed_other lists i k h' d ne.1 (o k d inside before)
    ]

-- one list more
pub swept_more : (f : Held → Held) → ((h : Held) → f (f h) ≡ f h) → ((h : Held) → are_home h.rows ≡ true → are_home (f h).rows ≡ true) → (init lists : List Held) (indexes after : List ℕ) (h h' : Held) (stay stay' at i : ℕ) (goes : Bool)
    → IsSwept f init lists indexes at stay → IsPut indexes after stay stay' at i goes → at < length indexes → i ≡ get_or indexes at 0 → i < length init → h ≡ get_or lists i h → h' ≡ f h → (goes ≡ true → are_home h'.rows ≡ true) → IsSwept f init (set lists i h') after (at + 1) stay'
swept_more f twice home init lists indexes after h h' stay stay' at i goes s w l is within value changed gone =
    let inside : i < length lists = omega (arith, s.number, within) in
    record {
      number = length-set lists i h' ∙ s.number;
      same = λ k d kl. elim (eqb_tells k i) [
        | inl e ↦ rw (e.1, get_or-set_same lists i h' d inside) (ap f changed ∙ twice h ∙ ap f (value ∙ get_or_default lists i h d inside) ∙ s.same i d within)
        | inr ne ↦ rw (get_or-set_other lists i k h' d ne.1) (s.same k d kl)
      ];
      done = λ k d kl n. elim (eqb_tells k i) [
        | inl e ↦ rw (e.1, get_or-set_same lists i h' d inside) (ap f changed ∙ twice h ∙ sym changed)
        | inr ne ↦ rw (get_or-set_other lists i k h' d ne.1) (s.done k d kl (rest k ne.1 (rw (kept_rest indexes after stay stay' at i goes w s.few) at n)))
      ];
      few = kept_few indexes after stay stay' at i goes w s.few;
      rising = kept_rising (length init) indexes after stay stay' at i goes w s.few l is s.rising;
      others = kept_others indexes after lists h h' stay stay' at i goes w s.few l is inside value (λ e. rw changed (home h e)) gone s.others;
    }
  where
    rest : (k : ℕ) → k ≢ i → is_named (drop (at + 1) indexes) k ≡ false → is_named (drop at indexes) k ≡ false
    rest k ne n = rw (drop_more indexes at 0 l, ← is) (named_drop i k [] (drop (at + 1) indexes) ne n)

-- all of them
pub swept_all : (f : Held → Held) (init lists : List Held) (indexes : List ℕ) (at stay : ℕ) → IsSwept f init lists indexes at stay → length indexes ≤ at → lists ≡ map f init
swept_all f init lists indexes at stay s le =
    same_lists lists (map f init) (s.number ∙ sym (length-map init f)) (λ k d kl.
    let inside : k < length init = omega (arith, s.number, kl) in
    sym (s.done k d inside (rw (drop_all at indexes le) refl)) ∙ s.same k d inside ∙ sym (get_or-map f init k d d inside))

pub swept_left : (f : Held → Held) (init lists : List Held) (indexes : List ℕ) (at stay : ℕ) → IsSwept f init lists indexes at stay → length indexes ≤ at → left indexes stay at ≡ take stay indexes
swept_left f init lists indexes at stay s le = rw (drop_all at indexes le, append-nil (take stay indexes)) refl

-- each index is that of a list
pub swept_within : (f : Held → Held) (init lists : List Held) (indexes : List ℕ) (at stay i : ℕ) → IsSwept f init lists indexes at stay → at < length indexes → i ≡ get_or indexes at 0 → i < length init
swept_within f init lists indexes at stay i s l is =
    let before : length (take stay indexes) ≡ stay = length-take-le stay indexes (omega (arith, s.few, l)) in
    let more : stay < length (left indexes stay at) = rw (left_goes indexes stay at l, length-append (take stay indexes) (get_or indexes at 0 ∷ drop (at + 1) indexes)) (omega (arith, before)) in
    let here : get_or (left indexes stay at) stay 0 ≡ get_or indexes at 0 = rw (left_goes indexes stay at l) (get_or_at (take stay indexes) (get_or indexes at 0) (drop (at + 1) indexes) 0 stay before) in
    let below : get_or (left indexes stay at) stay 0 < length init = rising_below 0 (length init) (left indexes stay at) s.rising stay 0 more in
    rw (is, ← here) below

-- as many indexes as before
pub put_length : (indexes after : List ℕ) (stay stay' at i : ℕ) (goes : Bool) → IsPut indexes after stay stay' at i goes → length after ≡ length indexes
put_length indexes after stay stay' at i true w = ap length (w.out refl).0
put_length indexes after stay stay' at i false w = ap length (w.put refl).0 ∙ length-set indexes stay i

-- the index of a list comes behind all others, where a row of the list is out
pub added_rising : (indexes after : List ℕ) (i : ℕ) (h : Held) → AreRising 0 i indexes → (are_home h.rows ≡ true → after ≡ indexes) → (are_home h.rows ≡ false → after ≡ indexes ++ i ∷ []) → AreRising 0 (i + 1) after
added_rising indexes after i h r home out = go (are_home h.rows) refl
  where
    go : (b : Bool) → are_home h.rows ≡ b → AreRising 0 (i + 1) after
    go true e = rw (home e) (rising_wider 0 i 0 (i + 1) indexes (omega arith) (omega arith) r)
    go false e = rw (out e) (rising_wider 0 (suc i) 0 (i + 1) (indexes ++ i ∷ []) (omega arith) (omega arith) (rising_push 0 i i indexes r (omega arith)))

pub added_others : (lists : List Held) (indexes after : List ℕ) (i : ℕ) (h : Held) → i < length lists → h ≡ get_or lists i h → ((k : ℕ) (d : Held) → k < i → is_named indexes k ≡ false → are_home (get_or lists k d).rows ≡ true) → (are_home h.rows ≡ true → after ≡ indexes) → (are_home h.rows ≡ false → after ≡ indexes ++ i ∷ [])
    → (k : ℕ) (d : Held) → k < i + 1 → is_named after k ≡ false → are_home (get_or lists k d).rows ≡ true
added_others lists indexes after i h l is o home out k d lt n = go (are_home h.rows) refl
  where
    neither : (a b : Bool) → (a || b) ≡ false → (a ≡ false) × (b ≡ false)
    neither true b e = absurd (cc)
    neither false b e = (refl, e)

    go : (b : Bool) → are_home h.rows ≡ b → are_home (get_or lists k d).rows ≡ true
    go true e = elim (eqb_tells k i) [
      | inl same ↦ rw same.1 (subst (λ (x : Held). are_home x.rows ≡ true) (get_or_read lists i h l is d) e)
      | inr ne ↦ o k d (omega (arith, lt, ne.1)) (rw (home e) at n)
    ]
    go false e =
        let both = neither (is_named indexes k) (i == k) (sym (named_push i k indexes) ∙ (rw (out e) at n)) in
        elim (eqb_tells k i) [
          | inl same ↦ let is : (i == k) ≡ true = grind (arith, nat_tests, same.1) in absurd (cc (is, both.1))
          | inr ne ↦ o k d (omega (arith, lt, ne.1)) both.0
        ]

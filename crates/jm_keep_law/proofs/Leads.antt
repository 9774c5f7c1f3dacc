-- Which changes lead from what is stored of one state to what is stored of another.
use Rattle.std.proofs.Common.{◌≡◌, ℕ, Bool, true, false, cond, List, ◌++◌, map, refl, sym, subst, ◌∙◌, ap, Option, Some, None, arith}
use Rattle.std.specs.Prelude.{fold, ◌==◌, ◌&&◌, IfSome, IsSome, option_map}
use Rattle.std.specs.List.{list_any}
use Rattle.std.proofs.lemmas.List.Sums.{fold-append}
use Rattle.std.proofs.lemmas.Bool.Decides.{nat_tests}
use Rattle.jm_dest.specs.declared.key.Key.{Key}
use Rattle.jm_dest.specs.Keys.{key_eq}
use Rattle.jm_header.specs.declared.content.Content.{Content}
use Rattle.jm_header.specs.Headers.{is_delayed}
use Rattle.jm_format.specs.Format as format
use Rattle.jm_machine.specs.declared.state.Definition.{Definition}
use Rattle.jm_machine.specs.Machine.{State}
use Rattle.jm_machine.specs.Rows.{fresh}
use Rattle.jm_machine.proofs.Keys.{key_same}
use Rattle.jm_keep.specs.declared.change.RowChange.{RowChange}
use Rattle.jm_keep.specs.declared.change.RowChange.TheVariants.{DropHeld, DropMessage, DropStation, PutStation, PutMessage, PutHeld, SetCount, DropDelay}
use Rattle.jm_keep.specs.Stored.{changed, changed_all, definition_after, count_after, message_after, due_after, is_at}
use Rattle.jm_keep.specs.Persisted.{StoredRow, stored_row, shown, count_of, due_time, IsKeptOf, IsRecord, IsDue, IsPersisted}
use Rattle.jm_keep.specs.Leads.{is_one_of, is_among, drops, Loses, put_delay, puts, Gains, StoresTheSame, Counts, CountLeads, StationLeads, NothingLeads, DropsLead, PutsLead, ChangesChain}
use Rattle.jm_keep_law.proofs.Folds.{definitions_of, counts_of, messages_of, dues_of, definition_held, message_held, count_held, due_held, definition_delayed, count_delayed, message_delayed, due_delayed, definition_gone, count_gone, message_gone, due_gone, definition_due, count_due, message_due, due_come, due_elsewhere, definition_put, message_put, due_put, count_put, count_elsewhere}

-- ---- one list of changes after another

pub chain : ChangesChain
chain a b c xs ys f g s h = subst (λ t. IsPersisted c t) (sym (fold-append changed s xs ys)) (g (changed_all s xs) (f s h))

-- ---- rows go

-- what drops make of a part of what is stored: first the rows, then the delivery times, then the messages
in_turn : (A : Type 0) (f : A → RowChange → A) (a : A) (rows : List (Key × ℕ)) (delays places : List ℕ) →
    fold f a (drops rows delays places) ≡ fold f (fold f (fold f a (map (λ x. DropHeld x.0 x.1) rows)) (map (λ p. DropDelay p) delays)) (map (λ p. DropMessage p) places)
in_turn A f a rows delays places =
    fold-append f a (map (λ x. DropHeld x.0 x.1) rows ++ map (λ p. DropDelay p) delays) (map (λ p. DropMessage p) places)
    ∙ ap (λ b. fold f b (map (λ p. DropMessage p) places)) (fold-append f a (map (λ x. DropHeld x.0 x.1) rows) (map (λ p. DropDelay p) delays))

definition_dropped : (k : Key) (d : Option Definition) (rows : List (Key × ℕ)) (delays places : List ℕ) → fold (definition_after k) d (drops rows delays places) ≡ d
definition_dropped k d rows delays places = in_turn (Option Definition) (definition_after k) d rows delays places ∙ definition_gone k _ places ∙ definition_delayed k _ delays ∙ definition_held k d rows

count_dropped : (k : Key) (p : ℕ) (n : Option ℕ) (rows : List (Key × ℕ)) (delays places : List ℕ) → fold (count_after k p) n (drops rows delays places) ≡ cond (is_one_of rows k p) None n
count_dropped k p n rows delays places = in_turn (Option ℕ) (count_after k p) n rows delays places ∙ count_gone k p _ places ∙ count_delayed k p _ delays ∙ count_held k p n rows

message_dropped : (p : ℕ) (b : Option (List ℕ)) (rows : List (Key × ℕ)) (delays places : List ℕ) → fold (message_after p) b (drops rows delays places) ≡ cond (is_among places p) None b
message_dropped p b rows delays places =
    in_turn (Option (List ℕ)) (message_after p) b rows delays places
    ∙ message_gone p _ places
    ∙ ap (λ e. cond (is_among places p) None e) (message_delayed p _ delays ∙ message_held p b rows)

due_dropped : (p : ℕ) (d : Option ℕ) (rows : List (Key × ℕ)) (delays places : List ℕ) → fold (due_after p) d (drops rows delays places) ≡ cond (is_among delays p) None d
due_dropped p d rows delays places =
    in_turn (Option ℕ) (due_after p) d rows delays places
    ∙ due_gone p _ places
    ∙ due_delayed p _ delays
    ∙ ap (λ e. cond (is_among delays p) None e) (due_held p d rows)

-- the count that is left of a row
count_left : (old new : State) (rows : List (Key × ℕ)) (delays places : List ℕ) → Loses old new rows delays places → (k : Key) (p : ℕ) → cond (is_one_of rows k p) None (count_of (stored_row old k p)) ≡ count_of (stored_row new k p)
count_left old new rows delays places l k p = go (is_one_of rows k p) refl
  where
    go : (b : Bool) → is_one_of rows k p ≡ b → cond b None (count_of (stored_row old k p)) ≡ count_of (stored_row new k p)
    go true e = sym (ap count_of (l.gone k p e))
    go false e = sym (ap count_of (l.kept k p e))

-- a row that is left was there
was : (old new : State) (rows : List (Key × ℕ)) (delays places : List ℕ) → Loses old new rows delays places → (P : StoredRow → Type 0) (k : Key) (p : ℕ) → IfSome (stored_row old k p) P → IfSome (stored_row new k p) P
was old new rows delays places l P k p h = go (is_one_of rows k p) refl
  where
    go : (b : Bool) → is_one_of rows k p ≡ b → IfSome (stored_row new k p) P
    go true e = subst (λ o. IfSome o P) (sym (l.gone k p e)) tt
    go false e = subst (λ o. IfSome o P) (sym (l.kept k p e)) h

nowhere : (o : Option StoredRow) → IsSome o → o ≡ None → ⊥
nowhere None h e = cc
nowhere (Some r) h e = cc

-- where no stored row is left there was none, unless the message goes
was_free : (old new : State) (rows : List (Key × ℕ)) (delays places : List ℕ) → Loses old new rows delays places → (p : ℕ) → is_among places p ≡ false → ((key : Key) → stored_row new key p ≡ None) → (key : Key) → stored_row old key p ≡ None
was_free old new rows delays places l p a f key = go (is_one_of rows key p) refl
  where
    go : (b : Bool) → is_one_of rows key p ≡ b → stored_row old key p ≡ None
    go true e = let other = l.left key p a e in absurd (nowhere (stored_row new other.0 p) other.1 (f other.0))
    go false e = sym (l.kept key p e) ∙ f key

-- of a message that stays the same is kept
kept_left : (A : Type 0) (f : Content → Option A) (old new : State) (rows : List (Key × ℕ)) (delays places : List ℕ) → Loses old new rows delays places → (p : ℕ) (kept : Option A) → is_among places p ≡ false → IsKeptOf A f old p kept → IsKeptOf A f new p kept
kept_left A f old new rows delays places l p kept e h = record {
  held = λ key. was old new rows delays places l (λ r. kept ≡ f r.message) key p (h.held key);
  free = λ none. h.free (was_free old new rows delays places l p e none);
}

-- of one that goes nothing is kept
none_left : (A : Type 0) (f : Content → Option A) (old new : State) (rows : List (Key × ℕ)) (delays places : List ℕ) → Loses old new rows delays places → (p : ℕ) (kept : Option A) → is_among places p ≡ true → kept ≡ None → IsKeptOf A f new p kept
none_left A f old new rows delays places l p kept e n = record {
  held = λ key. subst (λ o. IfSome o (λ r. kept ≡ f r.message)) (sym (l.last key p e)) tt;
  free = λ none. n;
}

record_left : (old new : State) (rows : List (Key × ℕ)) (delays places : List ℕ) → Loses old new rows delays places → (p : ℕ) (b : Option (List ℕ)) → IsRecord old p b → IsRecord new p (cond (is_among places p) None b)
record_left old new rows delays places l p b h = go (is_among places p) refl
  where
    go : (c : Bool) → is_among places p ≡ c → IsRecord new p (cond c None b)
    go true e = none_left (List ℕ) (λ m. Some (format.record m)) old new rows delays places l p None e refl
    go false e = kept_left (List ℕ) (λ m. Some (format.record m)) old new rows delays places l p b e h

-- no delivery time is left of a message that goes
due_none_left : (old new : State) (rows : List (Key × ℕ)) (delays places : List ℕ) → Loses old new rows delays places → (p : ℕ) (d : Option ℕ) → is_among places p ≡ true → IsDue old p d → cond (is_among delays p) None d ≡ None
due_none_left old new rows delays places l p d e h = let shown = l.delays_are.delayed p e in go (is_among delays p) shown.0 shown.1 shown.2 shown.3
  where
    go : (b : Bool) (key : Key) (r : StoredRow) → stored_row old key p ≡ Some r → b ≡ is_delayed r.message → cond b None d ≡ None
    go true key r s f = refl
    go false key r s f = subst (λ o. IfSome o (λ x. d ≡ due_time x.message)) s (h.held key) ∙ ap (λ b. cond b (Some r.message.delivery_time) None) (sym f)

due_left : (old new : State) (rows : List (Key × ℕ)) (delays places : List ℕ) → Loses old new rows delays places → (p : ℕ) (d : Option ℕ) → IsDue old p d → IsDue new p (cond (is_among delays p) None d)
due_left old new rows delays places l p d h = go (is_among places p) refl
  where
    among : (c : Bool) → is_among delays p ≡ c → is_among places p ≡ false → IsDue new p (cond c None d)
    among true f e = absurd (let both : true ≡ false = sym (l.delays_are.among p f) ∙ e in cc)
    among false f e = kept_left ℕ due_time old new rows delays places l p d e h

    go : (c : Bool) → is_among places p ≡ c → IsDue new p (cond (is_among delays p) None d)
    go true e = none_left ℕ due_time old new rows delays places l p _ e (due_none_left old new rows delays places l p d e h)
    go false e = among (is_among delays p) refl e

pub drops_lead : DropsLead
drops_lead old new rows delays places l s h = record {
  definitions = λ k. definitions_of s (drops rows delays places) k ∙ definition_dropped k _ rows delays places ∙ h.definitions k ∙ sym (l.definitions k);
  counts = λ k p. counts_of s (drops rows delays places) k p ∙ count_dropped k p _ rows delays places ∙ ap (λ n. cond (is_one_of rows k p) None n) (h.counts k p) ∙ count_left old new rows delays places l k p;
  messages = λ p. subst (IsRecord new p) (sym (messages_of s (drops rows delays places) p ∙ message_dropped p _ rows delays places)) (record_left old new rows delays places l p _ (h.messages p));
  dues = λ p. subst (IsDue new p) (sym (dues_of s (drops rows delays places) p ∙ due_dropped p _ rows delays places)) (due_left old new rows delays places l p _ (h.dues p));
}

-- ---- a message comes

count_come : (old new : State) (keys : List Key) (place : ℕ) (m : Content) → Gains old new keys place m → (k : Key) (p : ℕ) → fold (count_after k p) (count_of (stored_row old k p)) (map (λ key. PutHeld key place) keys) ≡ count_of (stored_row new k p)
count_come old new keys place m g k p = go (place == p) refl
  where
    at : place ≡ p → fold (count_after k p) (count_of (stored_row old k p)) (map (λ key. PutHeld key place) keys) ≡ count_of (stored_row new k p)
    at e = subst (λ q. fold (count_after k q) (count_of (stored_row old k q)) (map (λ key. PutHeld key place) keys) ≡ count_of (stored_row new k q)) e (count_put k place _ place keys (grind (arith, nat_tests)) ∙ here (list_any (λ x. key_eq x k) keys) refl)
      where
        here : (b : Bool) → list_any (λ x. key_eq x k) keys ≡ b → cond b (Some 0) (count_of (stored_row old k place)) ≡ count_of (stored_row new k place)
        here true e = sym (ap count_of (g.come k e))
        here false e = ap count_of (g.new_place k) ∙ sym (ap count_of (g.absent k e))

    go : (b : Bool) → (place == p) ≡ b → fold (count_after k p) (count_of (stored_row old k p)) (map (λ key. PutHeld key place) keys) ≡ count_of (stored_row new k p)
    go true e = at (grind (arith, nat_tests))
    go false e = count_elsewhere k p _ place keys e ∙ sym (ap count_of (g.others k p e))

-- of a message that comes is kept what it shows
kept_come : (A : Type 0) (f : Content → Option A) (old new : State) (keys : List Key) (place : ℕ) (m : Content) → Gains old new keys place m → IsKeptOf A f new place (f m)
kept_come A f old new keys place m g = record {
  held = λ key. one key (list_any (λ k. key_eq k key) keys) refl;
  free = λ none. absurd (let bad : Some (shown (fresh m)) ≡ None = sym (g.come g.some_key g.is_there) ∙ none g.some_key in cc);
}
  where
    one : (key : Key) (c : Bool) → list_any (λ k. key_eq k key) keys ≡ c → IfSome (stored_row new key place) (λ r. f m ≡ f r.message)
    one key true e = subst (λ o. IfSome o (λ r. f m ≡ f r.message)) (sym (g.come key e)) refl
    one key false e = subst (λ o. IfSome o (λ r. f m ≡ f r.message)) (sym (g.absent key e)) tt

-- of others the same
kept_elsewhere : (A : Type 0) (f : Content → Option A) (old new : State) (keys : List Key) (place : ℕ) (m : Content) → Gains old new keys place m → (p : ℕ) (kept : Option A) → (place == p) ≡ false → IsKeptOf A f old p kept → IsKeptOf A f new p kept
kept_elsewhere A f old new keys place m g p kept e h = record {
  held = λ key. subst (λ o. IfSome o (λ r. kept ≡ f r.message)) (sym (g.others key p e)) (h.held key);
  free = λ none. h.free (λ key. sym (g.others key p e) ∙ none key);
}

record_come : (old new : State) (keys : List Key) (place : ℕ) (m : Content) → Gains old new keys place m → (p : ℕ) (b : Option (List ℕ)) → IsRecord old p b → IsRecord new p (cond (place == p) (Some (format.record m)) b)
record_come old new keys place m g p b h = go (place == p) refl
  where
    here : place ≡ p → IsRecord new p (Some (format.record m))
    here e = subst (λ q. IsRecord new q (Some (format.record m))) e (kept_come (List ℕ) (λ m. Some (format.record m)) old new keys place m g)

    go : (c : Bool) → (place == p) ≡ c → IsRecord new p (cond c (Some (format.record m)) b)
    go true e = here (grind (arith, nat_tests))
    go false e = kept_elsewhere (List ℕ) (λ m. Some (format.record m)) old new keys place m g p b e h

due_comes : (old new : State) (keys : List Key) (place : ℕ) (m : Content) → Gains old new keys place m → (p : ℕ) (d : Option ℕ) → IsDue old p d → IsDue new p (fold (due_after p) d (put_delay place (due_time m)))
due_comes old new keys place m g p d h = go (place == p) refl
  where
    here : place ≡ p → (place == p) ≡ true → IsDue new p (fold (due_after p) d (put_delay place (due_time m)))
    here e t =
        let none : d ≡ None = h.free (λ key. subst (λ q. stored_row old key q ≡ None) e (g.new_place key)) in
        subst (IsDue new p) (sym (ap (λ x. fold (due_after p) x (put_delay place (due_time m))) none ∙ due_come p place (due_time m) t))
        (subst (λ q. IsDue new q (due_time m)) e (kept_come ℕ due_time old new keys place m g))

    go : (c : Bool) → (place == p) ≡ c → IsDue new p (fold (due_after p) d (put_delay place (due_time m)))
    go true e = here (grind (arith, nat_tests)) e
    go false e = subst (IsDue new p) (sym (due_elsewhere p d place (due_time m) e)) (kept_elsewhere ℕ due_time old new keys place m g p d e h)

-- what puts make of a part of what is stored: the message, its delivery time, and then the rows
put_in_turn : (A : Type 0) (f : A → RowChange → A) (a : A) (keys : List Key) (place : ℕ) (m : Content) →
    fold f a (puts keys place m) ≡ fold f (fold f (f a (PutMessage place (format.record m))) (put_delay place (due_time m))) (map (λ key. PutHeld key place) keys)
put_in_turn A f a keys place m = fold-append f _ (put_delay place (due_time m)) (map (λ key. PutHeld key place) keys)

pub puts_lead : PutsLead
puts_lead old new keys place m g s h = record {
  definitions = λ k.
      definitions_of s (puts keys place m) k
      ∙ put_in_turn (Option Definition) (definition_after k) _ keys place m
      ∙ definition_put k _ place keys
      ∙ definition_due k _ place (due_time m)
      ∙ h.definitions k
      ∙ sym (g.definitions k);
  counts = λ k p.
      counts_of s (puts keys place m) k p
      ∙ put_in_turn (Option ℕ) (count_after k p) _ keys place m
      ∙ ap (λ n. fold (count_after k p) n (map (λ key. PutHeld key place) keys)) (count_due k p _ place (due_time m) ∙ h.counts k p)
      ∙ count_come old new keys place m g k p;
  messages = λ p. subst (IsRecord new p)
      (sym (messages_of s (puts keys place m) p ∙ put_in_turn (Option (List ℕ)) (message_after p) _ keys place m ∙ message_put p _ place keys ∙ message_due p _ place (due_time m)))
      (record_come old new keys place m g p _ (h.messages p));
  dues = λ p. subst (IsDue new p)
      (sym (dues_of s (puts keys place m) p ∙ put_in_turn (Option ℕ) (due_after p) _ keys place m ∙ due_put p _ place keys))
      (due_comes old new keys place m g p _ (h.dues p));
}

-- ---- nothing is changed

kept_same : (A : Type 0) (f : Content → Option A) (old new : State) → StoresTheSame old new → (p : ℕ) (kept : Option A) → IsKeptOf A f old p kept → IsKeptOf A f new p kept
kept_same A f old new e p kept h = record {
  held = λ key. subst (λ o. IfSome o (λ r. kept ≡ f r.message)) (sym (e.rows key p)) (h.held key);
  free = λ none. h.free (λ key. sym (e.rows key p) ∙ none key);
}

pub nothing_leads : NothingLeads
nothing_leads old new e s h = record {
  definitions = λ k. h.definitions k ∙ sym (e.definitions k);
  counts = λ k p. h.counts k p ∙ sym (ap count_of (e.rows k p));
  messages = λ p. kept_same (List ℕ) (λ m. Some (format.record m)) old new e p (s.message p) (h.messages p);
  dues = λ p. kept_same ℕ due_time old new e p (s.due p) (h.dues p);
}

-- ---- a count

count_set : (old new : State) (k : Key) (place count : ℕ) → Counts old new k place count → (key : Key) (p : ℕ) → count_after key p (count_of (stored_row old key p)) (SetCount k place count) ≡ count_of (stored_row new key p)
count_set old new k place count c key p = go (is_at k place key p) refl
  where
    mapped : (o : Option StoredRow) → option_map (λ _. count) (count_of o) ≡ count_of (option_map (λ r. record { count = count; message = r.message }) o)
    mapped None = refl
    mapped (Some r) = refl

    same_place : is_at k place key p ≡ true → place ≡ p
    same_place e = second (key_eq k key) (place == p) e refl
      where
        second : (a b : Bool) → (a && b) ≡ true → (place == p) ≡ b → place ≡ p
        second true true e f = grind (arith, nat_tests)
        second true false e f = cc
        second false true e f = cc
        second false false e f = cc

    same_key : is_at k place key p ≡ true → k ≡ key
    same_key e = first (key_eq k key) (place == p) e refl
      where
        first : (a b : Bool) → (a && b) ≡ true → key_eq k key ≡ a → k ≡ key
        first true b e f = key_same k key f
        first false true e f = cc
        first false false e f = cc

    go : (b : Bool) → is_at k place key p ≡ b → cond b (option_map (λ _. count) (count_of (stored_row old key p))) (count_of (stored_row old key p)) ≡ count_of (stored_row new key p)
    go true e = subst (λ q. option_map (λ _. count) (count_of (stored_row old key q)) ≡ count_of (stored_row new key q)) (same_place e)
        (subst (λ t. option_map (λ _. count) (count_of (stored_row old t place)) ≡ count_of (stored_row new t place)) (same_key e) (mapped (stored_row old k place) ∙ sym (ap count_of c.own)))
    go false e = sym (ap count_of (c.others key p e))

-- messages are the same where rows differ in their counts alone
same_messages : (A : Type 0) (f : Content → Option A) (old new : State) → ((key : Key) (p : ℕ) → option_map (λ (r : StoredRow). r.message) (stored_row new key p) ≡ option_map (λ (r : StoredRow). r.message) (stored_row old key p)) → (p : ℕ) (kept : Option A) → IsKeptOf A f old p kept → IsKeptOf A f new p kept
same_messages A f old new e p kept h = record {
  held = λ key. held_of (stored_row new key p) (stored_row old key p) (e key p) (h.held key);
  free = λ none. h.free (λ key. free_of (stored_row old key p) (sym (e key p) ∙ ap (option_map (λ (r : StoredRow). r.message)) (none key)));
}
  where
    held_of : (x y : Option StoredRow) → option_map (λ (r : StoredRow). r.message) x ≡ option_map (λ (r : StoredRow). r.message) y → IfSome y (λ r. kept ≡ f r.message) → IfSome x (λ r. kept ≡ f r.message)
    held_of None y e h = tt
    held_of (Some x) None e h = cc
    held_of (Some x) (Some y) e h = subst (λ m. kept ≡ f m) (sym (the e)) h
      where
        the : Some x.message ≡ Some y.message → x.message ≡ y.message
        the e = cc

    free_of : (y : Option StoredRow) → option_map (λ (r : StoredRow). r.message) y ≡ None → y ≡ None
    free_of None e = refl
    free_of (Some y) e = cc

messages_kept : (old new : State) (k : Key) (place count : ℕ) → Counts old new k place count → (key : Key) (p : ℕ) → option_map (λ (r : StoredRow). r.message) (stored_row new key p) ≡ option_map (λ (r : StoredRow). r.message) (stored_row old key p)
messages_kept old new k place count c key p = go (is_at k place key p) refl
  where
    mapped : (o : Option StoredRow) → option_map (λ (r : StoredRow). r.message) (option_map (λ r. record { count = count; message = r.message }) o) ≡ option_map (λ (r : StoredRow). r.message) o
    mapped None = refl
    mapped (Some r) = refl

    both : (a b : Bool) → (a && b) ≡ true → key_eq k key ≡ a → (place == p) ≡ b → option_map (λ (r : StoredRow). r.message) (stored_row new key p) ≡ option_map (λ (r : StoredRow). r.message) (stored_row old key p)
    both true true e f g = at (grind (arith, nat_tests))
      where
        at : place ≡ p → option_map (λ (r : StoredRow). r.message) (stored_row new key p) ≡ option_map (λ (r : StoredRow). r.message) (stored_row old key p)
        at h = subst (λ q. option_map (λ (r : StoredRow). r.message) (stored_row new key q) ≡ option_map (λ (r : StoredRow). r.message) (stored_row old key q)) h
            (subst (λ t. option_map (λ (r : StoredRow). r.message) (stored_row new t place) ≡ option_map (λ (r : StoredRow). r.message) (stored_row old t place)) (key_same k key f) (ap (option_map (λ (r : StoredRow). r.message)) c.own ∙ mapped (stored_row old k place)))
    both true false e f g = cc
    both false true e f g = cc
    both false false e f g = cc

    go : (b : Bool) → is_at k place key p ≡ b → option_map (λ (r : StoredRow). r.message) (stored_row new key p) ≡ option_map (λ (r : StoredRow). r.message) (stored_row old key p)
    go true e = both (key_eq k key) (place == p) e refl refl
    go false e = ap (option_map (λ (r : StoredRow). r.message)) (c.others key p e)

pub count_leads : CountLeads
count_leads old new k place count c s h = record {
  definitions = λ key. h.definitions key ∙ sym (c.definitions key);
  counts = λ key p. ap (λ n. count_after key p n (SetCount k place count)) (h.counts key p) ∙ count_set old new k place count c key p;
  messages = λ p. same_messages (List ℕ) (λ m. Some (format.record m)) old new (messages_kept old new k place count c) p (s.message p) (h.messages p);
  dues = λ p. same_messages ℕ due_time old new (messages_kept old new k place count c) p (s.due p) (h.dues p);
}

-- ---- a subscription

pub station_leads : StationLeads
station_leads old new key definition = (
  λ d s h. record {
    definitions = λ k. ap (λ e. definition_after k e (DropStation key)) (h.definitions k) ∙ sym (d.definitions k);
    counts = λ k p. h.counts k p ∙ sym (ap count_of (d.rows k p));
    messages = λ p. same_messages (List ℕ) (λ m. Some (format.record m)) old new (λ k q. ap (option_map (λ (r : StoredRow). r.message)) (d.rows k q)) p (s.message p) (h.messages p);
    dues = λ p. same_messages ℕ due_time old new (λ k q. ap (option_map (λ (r : StoredRow). r.message)) (d.rows k q)) p (s.due p) (h.dues p);
  },
  λ d s h. record {
    definitions = λ k. ap (λ e. definition_after k e (PutStation key definition)) (h.definitions k) ∙ sym (d.definitions k);
    counts = λ k p. h.counts k p ∙ sym (ap count_of (d.rows k p));
    messages = λ p. same_messages (List ℕ) (λ m. Some (format.record m)) old new (λ k q. ap (option_map (λ (r : StoredRow). r.message)) (d.rows k q)) p (s.message p) (h.messages p);
    dues = λ p. same_messages ℕ due_time old new (λ k q. ap (option_map (λ (r : StoredRow). r.message)) (d.rows k q)) p (s.due p) (h.dues p);
  },
)

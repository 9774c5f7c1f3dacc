-- What lists of changes make of each part of what is stored.
use Rattle.std.proofs.Common.{◌≡◌, ℕ, Bool, true, false, cond, List, [], ◌∷◌, map, refl, ap, Option, Some, None}
use Rattle.std.specs.Prelude.{fold, ◌==◌, ◌&&◌, ◌||◌}
use Rattle.std.specs.List.{list_any}
use Rattle.jm_dest.specs.declared.key.Key.{Key}
use Rattle.jm_dest.specs.Keys.{key_eq}
use Rattle.jm_machine.specs.declared.state.Definition.{Definition}
use Rattle.jm_keep.specs.declared.change.RowChange.{RowChange}
use Rattle.jm_keep.specs.declared.change.RowChange.TheVariants.{DropHeld, DropMessage, PutHeld, DropDelay}
use Rattle.jm_keep.specs.Stored.{Stored, changed, changed_all, definition_after, count_after, message_after, due_after, is_at}
use Rattle.jm_keep.specs.Leads.{is_one_of, is_among, put_delay}

pub definitions_of : (s : Stored) (cs : List RowChange) (k : Key) → (changed_all s cs).definition k ≡ fold (definition_after k) (s.definition k) cs
definitions_of s [] k = refl
definitions_of s (c ∷ cs) k = definitions_of (changed s c) cs k

pub counts_of : (s : Stored) (cs : List RowChange) (k : Key) (p : ℕ) → (changed_all s cs).count k p ≡ fold (count_after k p) (s.count k p) cs
counts_of s [] k p = refl
counts_of s (c ∷ cs) k p = counts_of (changed s c) cs k p

pub messages_of : (s : Stored) (cs : List RowChange) (p : ℕ) → (changed_all s cs).message p ≡ fold (message_after p) (s.message p) cs
messages_of s [] p = refl
messages_of s (c ∷ cs) p = messages_of (changed s c) cs p

pub dues_of : (s : Stored) (cs : List RowChange) (p : ℕ) → (changed_all s cs).due p ≡ fold (due_after p) (s.due p) cs
dues_of s [] p = refl
dues_of s (c ∷ cs) p = dues_of (changed s c) cs p

-- ---- rows that go

pub definition_held : (k : Key) (d : Option Definition) (rows : List (Key × ℕ)) → fold (definition_after k) d (map (λ x. DropHeld x.0 x.1) rows) ≡ d
definition_held k d [] = refl
definition_held k d (x ∷ rows) = definition_held k d rows

pub message_held : (p : ℕ) (b : Option (List ℕ)) (rows : List (Key × ℕ)) → fold (message_after p) b (map (λ x. DropHeld x.0 x.1) rows) ≡ b
message_held p b [] = refl
message_held p b (x ∷ rows) = message_held p b rows

pub due_held : (p : ℕ) (d : Option ℕ) (rows : List (Key × ℕ)) → fold (due_after p) d (map (λ x. DropHeld x.0 x.1) rows) ≡ d
due_held p d [] = refl
due_held p d (x ∷ rows) = due_held p d rows

count_none : (k : Key) (p : ℕ) (rows : List (Key × ℕ)) → fold (count_after k p) None (map (λ x. DropHeld x.0 x.1) rows) ≡ None
count_none k p [] = refl
count_none k p (x ∷ rows) = go (is_at x.0 x.1 k p) (count_none k p rows)
  where
    go : (b : Bool) → fold (count_after k p) None (map (λ x. DropHeld x.0 x.1) rows) ≡ None → fold (count_after k p) (cond b None None) (map (λ x. DropHeld x.0 x.1) rows) ≡ None
    go true r = r
    go false r = r

pub count_held : (k : Key) (p : ℕ) (n : Option ℕ) (rows : List (Key × ℕ)) → fold (count_after k p) n (map (λ x. DropHeld x.0 x.1) rows) ≡ cond (is_one_of rows k p) None n
count_held k p n [] = refl
count_held k p n (x ∷ rows) = go (is_at x.0 x.1 k p) (count_held k p n rows)
  where
    go : (b : Bool) → fold (count_after k p) n (map (λ x. DropHeld x.0 x.1) rows) ≡ cond (is_one_of rows k p) None n → fold (count_after k p) (cond b None n) (map (λ x. DropHeld x.0 x.1) rows) ≡ cond (b || is_one_of rows k p) None n
    go true r = count_none k p rows
    go false r = r

-- ---- delivery times that go

pub definition_delayed : (k : Key) (d : Option Definition) (delays : List ℕ) → fold (definition_after k) d (map (λ p. DropDelay p) delays) ≡ d
definition_delayed k d [] = refl
definition_delayed k d (x ∷ delays) = definition_delayed k d delays

pub count_delayed : (k : Key) (p : ℕ) (n : Option ℕ) (delays : List ℕ) → fold (count_after k p) n (map (λ p. DropDelay p) delays) ≡ n
count_delayed k p n [] = refl
count_delayed k p n (x ∷ delays) = count_delayed k p n delays

pub message_delayed : (p : ℕ) (b : Option (List ℕ)) (delays : List ℕ) → fold (message_after p) b (map (λ p. DropDelay p) delays) ≡ b
message_delayed p b [] = refl
message_delayed p b (x ∷ delays) = message_delayed p b delays

due_none : (p : ℕ) (delays : List ℕ) → fold (due_after p) None (map (λ p. DropDelay p) delays) ≡ None
due_none p [] = refl
due_none p (x ∷ delays) = go (x == p) (due_none p delays)
  where
    go : (b : Bool) → fold (due_after p) None (map (λ p. DropDelay p) delays) ≡ None → fold (due_after p) (cond b None None) (map (λ p. DropDelay p) delays) ≡ None
    go true r = r
    go false r = r

pub due_delayed : (p : ℕ) (d : Option ℕ) (delays : List ℕ) → fold (due_after p) d (map (λ p. DropDelay p) delays) ≡ cond (is_among delays p) None d
due_delayed p d [] = refl
due_delayed p d (x ∷ delays) = go (x == p) (due_delayed p d delays)
  where
    go : (c : Bool) → fold (due_after p) d (map (λ p. DropDelay p) delays) ≡ cond (is_among delays p) None d → fold (due_after p) (cond c None d) (map (λ p. DropDelay p) delays) ≡ cond (c || is_among delays p) None d
    go true r = due_none p delays
    go false r = r

-- ---- messages that go

pub definition_gone : (k : Key) (d : Option Definition) (places : List ℕ) → fold (definition_after k) d (map (λ p. DropMessage p) places) ≡ d
definition_gone k d [] = refl
definition_gone k d (x ∷ places) = definition_gone k d places

pub count_gone : (k : Key) (p : ℕ) (n : Option ℕ) (places : List ℕ) → fold (count_after k p) n (map (λ p. DropMessage p) places) ≡ n
count_gone k p n [] = refl
count_gone k p n (x ∷ places) = count_gone k p n places

pub due_gone : (p : ℕ) (d : Option ℕ) (places : List ℕ) → fold (due_after p) d (map (λ p. DropMessage p) places) ≡ d
due_gone p d [] = refl
due_gone p d (x ∷ places) = due_gone p d places

message_none : (p : ℕ) (places : List ℕ) → fold (message_after p) None (map (λ p. DropMessage p) places) ≡ None
message_none p [] = refl
message_none p (x ∷ places) = go (x == p) (message_none p places)
  where
    go : (b : Bool) → fold (message_after p) None (map (λ p. DropMessage p) places) ≡ None → fold (message_after p) (cond b None None) (map (λ p. DropMessage p) places) ≡ None
    go true r = r
    go false r = r

pub message_gone : (p : ℕ) (b : Option (List ℕ)) (places : List ℕ) → fold (message_after p) b (map (λ p. DropMessage p) places) ≡ cond (is_among places p) None b
message_gone p b [] = refl
message_gone p b (x ∷ places) = go (x == p) (message_gone p b places)
  where
    go : (c : Bool) → fold (message_after p) b (map (λ p. DropMessage p) places) ≡ cond (is_among places p) None b → fold (message_after p) (cond c None b) (map (λ p. DropMessage p) places) ≡ cond (c || is_among places p) None b
    go true r = message_none p places
    go false r = r

-- ---- a delivery time comes, where there is one

pub definition_due : (k : Key) (d : Option Definition) (place : ℕ) (due : Option ℕ) → fold (definition_after k) d (put_delay place due) ≡ d
definition_due k d place None = refl
definition_due k d place (Some due) = refl

pub count_due : (k : Key) (p : ℕ) (n : Option ℕ) (place : ℕ) (due : Option ℕ) → fold (count_after k p) n (put_delay place due) ≡ n
count_due k p n place None = refl
count_due k p n place (Some due) = refl

pub message_due : (p : ℕ) (b : Option (List ℕ)) (place : ℕ) (due : Option ℕ) → fold (message_after p) b (put_delay place due) ≡ b
message_due p b place None = refl
message_due p b place (Some due) = refl

-- at its place, where none was
pub due_come : (p place : ℕ) (due : Option ℕ) → (place == p) ≡ true → fold (due_after p) None (put_delay place due) ≡ due
due_come p place None e = refl
due_come p place (Some due) e = ap (λ b. cond b (Some due) None) e

-- at another place nothing comes
pub due_elsewhere : (p : ℕ) (d : Option ℕ) (place : ℕ) (due : Option ℕ) → (place == p) ≡ false → fold (due_after p) d (put_delay place due) ≡ d
due_elsewhere p d place None e = refl
due_elsewhere p d place (Some due) e = ap (λ b. cond b (Some due) d) e

-- ---- rows that come

pub definition_put : (k : Key) (d : Option Definition) (place : ℕ) (keys : List Key) → fold (definition_after k) d (map (λ key. PutHeld key place) keys) ≡ d
definition_put k d place [] = refl
definition_put k d place (x ∷ keys) = definition_put k d place keys

pub message_put : (p : ℕ) (b : Option (List ℕ)) (place : ℕ) (keys : List Key) → fold (message_after p) b (map (λ key. PutHeld key place) keys) ≡ b
message_put p b place [] = refl
message_put p b place (x ∷ keys) = message_put p b place keys

pub due_put : (p : ℕ) (d : Option ℕ) (place : ℕ) (keys : List Key) → fold (due_after p) d (map (λ key. PutHeld key place) keys) ≡ d
due_put p d place [] = refl
due_put p d place (x ∷ keys) = due_put p d place keys

count_zero : (k : Key) (p : ℕ) (place : ℕ) (keys : List Key) → fold (count_after k p) (Some 0) (map (λ key. PutHeld key place) keys) ≡ Some 0
count_zero k p place [] = refl
count_zero k p place (x ∷ keys) = go (is_at x place k p) (count_zero k p place keys)
  where
    go : (b : Bool) → fold (count_after k p) (Some 0) (map (λ key. PutHeld key place) keys) ≡ Some 0 → fold (count_after k p) (cond b (Some 0) (Some 0)) (map (λ key. PutHeld key place) keys) ≡ Some 0
    go true r = r
    go false r = r

-- at another place nothing comes
pub count_elsewhere : (k : Key) (p : ℕ) (n : Option ℕ) (place : ℕ) (keys : List Key) → (place == p) ≡ false → fold (count_after k p) n (map (λ key. PutHeld key place) keys) ≡ n
count_elsewhere k p n place [] e = refl
count_elsewhere k p n place (x ∷ keys) e = go (key_eq x k) (place == p) e (count_elsewhere k p n place keys e)
  where
    go : (a b : Bool) → b ≡ false → fold (count_after k p) n (map (λ key. PutHeld key place) keys) ≡ n → fold (count_after k p) (cond (a && b) (Some 0) n) (map (λ key. PutHeld key place) keys) ≡ n
    go true true h r = cc
    go false true h r = cc
    go true false h r = r
    go false false h r = r

-- at the place a row comes under each key
pub count_put : (k : Key) (p : ℕ) (n : Option ℕ) (place : ℕ) (keys : List Key) → (place == p) ≡ true → fold (count_after k p) n (map (λ key. PutHeld key place) keys) ≡ cond (list_any (λ x. key_eq x k) keys) (Some 0) n
count_put k p n place [] e = refl
count_put k p n place (x ∷ keys) e = go (key_eq x k) (place == p) e (count_put k p n place keys e)
  where
    go : (a b : Bool) → b ≡ true → fold (count_after k p) n (map (λ key. PutHeld key place) keys) ≡ cond (list_any (λ x. key_eq x k) keys) (Some 0) n → fold (count_after k p) (cond (a && b) (Some 0) n) (map (λ key. PutHeld key place) keys) ≡ cond (a || list_any (λ x. key_eq x k) keys) (Some 0) n
    go true true h r = count_zero k p place keys
    go false true h r = r
    go true false h r = cc
    go false false h r = cc

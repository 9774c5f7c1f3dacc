-- A request that is about a key where something holds is about it exactly where that holds.
use Rattle.std.proofs.Common.{◌≡◌, Bool, true, false, refl}
use Rattle.std.specs.Prelude.{not}
use Rattle.jm_dest.specs.declared.session.SessionId.{SessionId}
use Rattle.jm_machine.specs.Owns.{is_own}
use Rattle.jm_machine.specs.Lone.{Scope, About, this_key_if, is_this_key, is_other_key}
use Rattle.jm_machine.specs.Lone.About.{ThisKey, OtherKey, WholeSession}

-- it holds where the request is not about another
pub holds : (b : Bool) → not (is_other_key (this_key_if b)) ≡ true → b ≡ true
holds true h = refl
holds false h = h

-- it holds where the request is about the key
pub is_so : (b : Bool) → is_this_key (this_key_if b) ≡ true → b ≡ true
is_so true h = refl
is_so false h = h

-- a request that is about the key is not about another
pub no_other : (a : About) → is_this_key a ≡ true → not (is_other_key a) ≡ true
no_other ThisKey h = refl
no_other OtherKey h = h
no_other WholeSession h = refl

-- a request is about nothing of the key's: it is about another, or about a whole session that is none of its own
abbrev pub Elsewhere : Scope → SessionId → About → Type 0
Elsewhere S s ThisKey = ⊥
Elsewhere S s OtherKey = Unit {0}
Elsewhere S s WholeSession = is_own S.sessions s ≡ false

-- it does not hold where the request is about nothing of the key's
pub fails : (S : Scope) (s : SessionId) (b : Bool) → Elsewhere S s (this_key_if b) → b ≡ false
fails S s true h = absurd h
fails S s false h = refl

-- and where it does not hold, the request is so
pub elsewhere_where : (S : Scope) (s : SessionId) (b : Bool) → b ≡ false → Elsewhere S s (this_key_if b)
elsewhere_where S s true h = cc
elsewhere_where S s false h = tt

-- so is one that is about another key
pub elsewhere_unless : (S : Scope) (s : SessionId) (a : About) → not (is_other_key a) ≡ false → Elsewhere S s a
elsewhere_unless S s ThisKey h = cc
elsewhere_unless S s OtherKey h = tt
elsewhere_unless S s WholeSession h = cc

-- and one that is so is not about the key
pub elsewhere_told : (S : Scope) (s : SessionId) (a : About) → Elsewhere S s a → is_this_key a ≡ false
elsewhere_told S s ThisKey h = absurd h
elsewhere_told S s OtherKey h = refl
elsewhere_told S s WholeSession h = refl

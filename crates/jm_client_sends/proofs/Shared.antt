-- That threads may share a provider. One lemma a type, since a search for all of them at once runs out of steps.
use mathlib.Core.List.{List, [], ◌∷◌}
use Prim.Native.Nat.{ℕ}
use denote.RattleType.{RattleType}
use denote.Ref.{NamedLft, ShrRef}
use denote.Struct.Tuple.{TupleAt}
use denote.Param.Send.{IsSend, IsSync, sendable}
use Rattle.std.proofs.Crossing.{crosses}
use Rattle.jm_keep.specs.contracts.keep.NoKeep as NoKeep
use Rattle.jm_keep.specs.declared.keep.Keep as Keep
use Rattle.jm_sends.proofs.Sent.{Core_send}
use Rattle.jm_client.specs.declared.backend.Backend as Backend
use Rattle.jm_client.specs.contracts.plain.Plain as Plain
use Rattle.jm_client.specs.contracts.shared.Shared as Shared
use Rattle.jm_client.specs.contracts.provider.Provider as Provider

-- what lies under the lock may cross threads, where the backend may
pub Shared_send : (B : RattleType) (g : Backend.Ghosts B.Denot) → IsSend B → IsSend (Shared.the_row B g)
Shared_send B g s = search (sendable, crosses) depth 60 fits 20000

-- threads may share a provider, where they may share the runtime, and where the backend may cross
pub Provider_sync : (a : NamedLft) (R B : RattleType) (g : Backend.Ghosts B.Denot) → IsSync R → IsSend B → IsSync (Provider.the_row a R B g)
Provider_sync a R B g r s = search (sendable, crosses, Shared_send) depth 60 fits 20000

-- a core with its keeper may cross, where the keeper may
pub Plain_send : (K : RattleType) (g : Keep.Ghosts K.Denot) → IsSend K → IsSend (Plain.the_row K g)
Plain_send K g s = search (sendable, crosses, Core_send) depth 60 fits 20000

-- one that keeps nothing may
pub NoKeep_send : IsSend NoKeep.the_row
NoKeep_send = search (sendable, crosses) depth 60 fits 20000

-- so threads may share a provider over these. (Callers name the backend's ghosts, as a search for them takes long.)
pub Plain_sync : (a : NamedLft) (R K : RattleType) (k : Keep.Ghosts K.Denot) → IsSync R → IsSend K → (g : Backend.Ghosts (Plain.the_row K k).Denot) →
    IsSync (Provider.the_row a R (Plain.the_row K k) g)
Plain_sync a R K k r s g = Provider_sync a R (Plain.the_row K k) g r (Plain_send K k s)

-- a closure to which one value is lent may be handed over, where threads may share that
pub Lent_send : (ν : List ℕ) (a : NamedLft) (T : RattleType) → IsSync T → IsSend (TupleAt ν (ShrRef a.mir a.lft T ∷ []))
Lent_send ν a T s = search sendable depth 60

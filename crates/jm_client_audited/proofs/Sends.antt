-- That threads may share an audited provider. One lemma a type, since a search for all of them at once runs out of steps.
use denote.RattleType.{RattleType}
use denote.Ref.{NamedLft}
use denote.Param.Send.{IsSend, IsSync, sendable}
use Rattle.std.proofs.Crossing.{crosses}
use Rattle.std.specs.declared.sync.ledger.Ledger.{Ghosts}
use Rattle.jm_keep.specs.declared.keep.Keep as Keep
use Rattle.jm_broker_sends.proofs.Sent.{Pass_send, Traced_send, Who_field}
use Rattle.jm_client.specs.declared.backend.Backend as Backend
use Rattle.jm_client.specs.contracts.provider.Provider as Provider
use Rattle.jm_client_sends.proofs.Shared.{Provider_sync}
use Rattle.jm_client_audited.specs.contracts.audited.Audited as Audited

-- what lies under the lock may cross threads, where the keeper may
pub Audited_send : (K L : RattleType) (k : Keep.Ghosts K.Denot) (g : Ghosts L.Denot) → IsSend K → IsSend (Audited.the_row K L k g)
Audited_send K L k g s = search (sendable, crosses, Traced_send, Pass_send, Who_field) depth 60 fits 20000

-- threads may share a provider over it, where they may share the runtime
pub Audited_sync : (a : NamedLft) (R K L : RattleType) (k : Keep.Ghosts K.Denot) (l : Ghosts L.Denot) → IsSync R → IsSend K →
    (g : Backend.Ghosts (Audited.the_row K L k l).Denot) → IsSync (Provider.the_row a R (Audited.the_row K L k l) g)
Audited_sync a R K L k l r s g = Provider_sync a R (Audited.the_row K L k l) g r (Audited_send K L k l s)

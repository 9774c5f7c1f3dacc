-- What a scope is seen as.
use Rattle.jm_machine.specs.Lone.{Scope as Belonging}
use Rattle.jm_scope.specs.declared.scope.Scope.{Scope}
use Rattle.jm_scope.specs.Numbers.{is_seen}
use Rattle.jm_scope.specs.Parts.{client_seen, belonging}

-- what belongs to its key, as the definitions have it
unfoldable pub scope_seen : Scope → Belonging
scope_seen scope = belonging scope.key scope.sessions.items (client_seen scope.clients) (is_seen scope.numbers)

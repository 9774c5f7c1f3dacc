-- When two keys are the same.
use Rattle.std.specs.Prelude.{Bool, false, ◌&&◌, ◌==◌}
use Rattle.jm_dest.specs.declared.key.Key.{Key}
use Rattle.jm_dest.specs.declared.key.Key.TheVariants.{Queue, Own, SharedOwn, Durable}
use Rattle.jm_dest.specs.Names.{text_eq, client_eq, session_eq}

-- two keys are the same
abbrev pub key_eq : Key → Key → Bool
key_eq (Queue a) (Queue b) = text_eq a b
key_eq (Own s c) (Own t d) = session_eq s t && (c == d)
key_eq (SharedOwn k n) (SharedOwn l m) = client_eq k l && text_eq n m
key_eq (Durable k n) (Durable l m) = client_eq k l && text_eq n m
key_eq _ _ = false

-- What one kind of fault says of another.
use Rattle.std.proofs.Common.{◌∙◌, sym, ℕ, List, Option, Result, Ok, Err, MatchResult}
use Rattle.jm_scenario.specs.declared.scenario.Scenario.{Scenario as Spelled}
use Rattle.jm_play.specs.Play.{GivesScenario, RefusesScenario, RefusesSpelled, SpellsScenario}
use Rattle.jm_play.specs.Source.{GivesAll, IsFaultOfReading}
use Rattle.jm_play.specs.declared.fault.Fault.{Fault}
use Rattle.jm_play.specs.declared.fault.Fault.TheVariants.{File, Scenario, Selector, Key, Database, Memory}
use Rattle.jm_play.specs.declared.source.Source.{Source}

-- a fault of reading a source is one for which it gives no calls
pub reading_refuses : {R : Type 0} (remaining : R → Option (List ℕ)) (old new : Source R) (fault : Fault)
    → IsFaultOfReading remaining old new fault → RefusesScenario remaining old new fault
reading_refuses remaining old new File h = h
reading_refuses remaining old new Memory h = h
reading_refuses remaining old new (Scenario other) h = absurd h
reading_refuses remaining old new (Key other) h = absurd h
reading_refuses remaining old new (Database other) h = absurd h
reading_refuses remaining old new (Selector cause at) h = absurd h

-- what the bytes spell that a source gave to its end, or why they spell none, is what the source gives, or why it gives none
pub gives_or_refuses : {R : Type 0} (remaining : R → Option (List ℕ)) (old new : Source R) (bytes : List ℕ) (told : Result Spelled Fault)
    → GivesAll remaining old new bytes → MatchResult told (SpellsScenario bytes) (RefusesSpelled bytes)
    → MatchResult told (GivesScenario remaining old new) (RefusesScenario remaining old new)
gives_or_refuses remaining old new bytes (Ok spelled) all h = (bytes, all, h)
gives_or_refuses remaining old new bytes (Err (Scenario other)) all h = (bytes, all, h)
gives_or_refuses remaining old new bytes (Err Memory) (known, short, before, after) h = after ∙ sym before
gives_or_refuses remaining old new bytes (Err File) all h = absurd h
gives_or_refuses remaining old new bytes (Err (Key other)) all h = absurd h
gives_or_refuses remaining old new bytes (Err (Database other)) all h = absurd h
gives_or_refuses remaining old new bytes (Err (Selector cause at)) all h = absurd h

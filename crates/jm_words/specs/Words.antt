-- What the words of the command line ask for (ours).
use Rattle.std.specs.Prelude.{◌≡◌, ◌==◌, ◌≤◌, ◌&&◌, ◌||◌, ℕ, not, Bool, true, false, List, [], ◌∷◌, Option, Some, None, IfSome, option_and_then, unwrap_or, if◌then◌else◌, slice_get, codes}
use Rattle.std.specs.Option.{option_map_or}
use Rattle.std.specs.Str.{bytes_eq}
use Rattle.std.specs.Str.Parse.{digits_value, without_leading_plus}
use Rattle.clap.specs.Words.{App, Kinds, IsAmong, Row, Rule, Shape, Text, app_of, fault_of, first_of, kind_of, new_app, new_rule, subcommand_of, with_rule, with_subcommand}
use Rattle.clap.specs.Simple.{on_top}
use Rattle.clap.specs.ValueTests.{is_unsigned_in}
use Rattle.clap.specs.declared.builder.action.ArgAction.TheVariants.{SetTrue}
use Rattle.clap.specs.declared.builder.value_parser.ValueParser.TheVariants.{Unsigned}
use Rattle.clap.specs.declared.error.ErrorKind.TheVariants as kinds
use Rattle.clap.specs.declared.builder.Command.{Command}
use Rattle.clap.specs.declared.builder.Command.TheViews.{out-Command}
use Rattle.jm_words.specs.declared.words.Words.{Words}
use Rattle.jm_words.specs.declared.words.Words.TheVariants.{Input, Run, Select, Lone}
use Rattle.jm_words.specs.declared.words.WordsFault.{WordsFault}
use Rattle.jm_words.specs.declared.words.WordsFault.TheVariants.{Refused, Memory}

-- an argument that has to be given, by its place
abbrev pub argument : Text → Rule
argument id = record (new_rule id) { required = true }

-- the option `--db FILE`, whose value is any text
abbrev pub db_option : Rule
db_option = record (new_rule (codes "db")) { long = Some (codes "db"); value_names = 1 }

-- the flag `--threads`
abbrev pub threads_flag : Rule
threads_flag = record (new_rule (codes "threads")) { long = Some (codes "threads"); action = Some SetTrue }

-- the option `--held N`, whose value is a number from 1 to 1,000,000
abbrev pub held_option : Rule
held_option = record (new_rule (codes "held")) { long = Some (codes "held"); value_names = 1; parser = Some (Unsigned 1 1000000) }

-- the command `run FILE [--db FILE] [--threads] [--held N]`
abbrev pub run_command : App
run_command = with_rule (with_rule (with_rule (with_rule (new_app (codes "run")) (argument (codes "FILE"))) db_option) threads_flag) held_option

-- the command `select SELECTOR FILE`
abbrev pub select_command : App
select_command = with_rule (with_rule (new_app (codes "select")) (argument (codes "SELECTOR"))) (argument (codes "FILE"))

-- the command `lone FILE KEY`
abbrev pub lone_command : App
lone_command = with_rule (with_rule (new_app (codes "lone")) (argument (codes "FILE"))) (argument (codes "KEY"))

-- a command line that has a version
abbrev pub versioned : Shape → Shape
versioned shape = record shape { has_version = true }

-- the command line with the first two of these commands, and a version
abbrev pub with_run_and_select : App
with_run_and_select = with_subcommand (with_subcommand (on_top versioned (new_app (codes "jmsrun"))) run_command.top) select_command.top

-- the program's command line: the same, with the third command too
abbrev pub program : App
program = with_subcommand with_run_and_select lone_command.top

-- the command is that one, and none of its arguments belongs to the commands below it
abbrev pub IsCommand : App → Command → Type 0
IsCommand app command = (app_of command ≡ app) × ((out-Command command).has_globals ≡ false)

-- the word begins with `-`, and is neither `--` nor a flag for help
abbrev pub is_dashed : Text → Bool
is_dashed word = option_map_or (λ byte. byte == 45) (slice_get word 0) false
    && not (bytes_eq word (codes "-h") || bytes_eq word (codes "--help") || bytes_eq word (codes "--"))

-- the words ask for `select` with a selector that looks like an option
abbrev pub has_dashed_selector : List Text → Bool
has_dashed_selector (name ∷ command ∷ selector ∷ words) = bytes_eq command (codes "select") && is_dashed selector
has_dashed_selector _ = false

-- the words with `--` before the third one
abbrev pub with_mark : List Text → List Text
with_mark (name ∷ command ∷ words) = name ∷ command ∷ codes "--" ∷ words
with_mark words = words

-- the words as they are read: before a selector that looks like an option stands `--`, which ends the options
abbrev pub marked : List Text → List Text
marked words = if has_dashed_selector words then with_mark words else words

-- the first value of an argument, which clap gives where the argument has to be given
abbrev pub value : Text → List Row → Text
value id rows = unwrap_or (first_of id rows) []

-- the file of the store that is given, if one is
abbrev pub db : List Row → Option Text
db rows = first_of (codes "db") rows

-- the flag `--threads` is given: its value is `true` then
abbrev pub threads : List Row → Bool
threads rows = option_map_or (λ text. bytes_eq text (codes "true")) (first_of (codes "threads") rows) false

-- the limit that a text spells in decimal digits, where it is from 1 to 1,000,000
abbrev pub limit_of : Text → Option ℕ
limit_of text = if is_unsigned_in 1 1000000 text then Some (digits_value 10 (without_leading_plus text)) else None

-- the limit of held rows that is given, if one is
abbrev pub held : List Row → Option ℕ
held rows = option_and_then limit_of (first_of (codes "held") rows)

-- what a command asks for, by its name and its matches
abbrev pub asked : Text → List Row → Words
asked name rows =
    if bytes_eq name (codes "run") then Run (value (codes "FILE") rows) (db rows) (threads rows) (held rows) else
    (if bytes_eq name (codes "select") then Select (value (codes "SELECTOR") rows) (value (codes "FILE") rows) else
    (if bytes_eq name (codes "lone") then Lone (value (codes "FILE") rows) (value (codes "KEY") rows) else Input))

-- what is asked for: without a command, the scenario on standard input
abbrev pub words_of : Option (Text × List Row) → Words
words_of None = Input
words_of (Some found) = asked found.0 found.1

-- what the words ask for: clap's matches of them
abbrev pub read : List Text → Words
read words = words_of (subcommand_of program (marked words))

-- the kinds of fault that clap finds in the words; none where it takes them
abbrev pub faults : List Text → Kinds
faults words = fault_of program (marked words)

-- a limit of held rows is from 1 to 1,000,000
abbrev pub IsLimit : ℕ → Type 0
IsLimit limit = (1 ≤ limit) × (limit ≤ 1000000)

-- where words give a limit of held rows, it is one
abbrev pub HasLimit : Words → Type 0
HasLimit (Run file db threads held) = IfSome held IsLimit
HasLimit _ = Unit {0}

-- the fault is one that clap finds, or a want of memory
abbrev pub IsFaultOf : List Text → WordsFault → Type 0
IsFaultOf words (Refused error) = IsAmong (kind_of error) (faults words)
IsFaultOf words Memory = Unit {0}

-- the fault of a value that is not allowed, or a want of memory
abbrev pub IsInvalidValue : WordsFault → Type 0
IsInvalidValue (Refused error) = kind_of error ≡ kinds.InvalidValue
IsInvalidValue Memory = Unit {0}

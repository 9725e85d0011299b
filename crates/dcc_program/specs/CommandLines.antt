-- The command lines of the program, as they are declared to `clap`, and as `clap` reads them.
use Rattle.std.specs.Prelude.{◌≡◌, ◌⊎◌, ⊤, ℕ, true, List, [], codes, Option, Some, None, Result, Ok, Err}
use Rattle.clap.specs.Words.{App, IsAmong, Row, Rule, Text, fault_of, first_of, new_app, new_rule, subcommand_of, with_rule, with_subcommand}
use Rattle.clap.specs.declared.builder.ArgAction.TheVariants.{Set, SetTrue}
use Rattle.clap.specs.declared.error.ErrorKind.{ErrorKind}
use Rattle.clap.specs.declared.error.ErrorKind.TheVariants as kind
use Rattle.dcc_act.specs.declared.sub.Sub.{Sub}
use Rattle.dcc_words.specs.Words.{◌>>=◌, any_u64, moment, sub}
use Rattle.dcc_operator.specs.declared.commands.TopUpAsk.{TopUpAsk}
use Rattle.dcc_operator.specs.declared.page.Page.{Page}
use Rattle.dcc_operator.specs.declared.page.Page.TheVariants as pages
use Rattle.dcc_program.specs.declared.command_line.Place.{Place}
use Rattle.dcc_program.specs.declared.command_line.Task.{Task}
use Rattle.dcc_program.specs.declared.command_line.Task.TheVariants.{Replay, TopUp, Show, Decode, Help, Version}
use Rattle.dcc_program.specs.declared.failure.Failure.{Failure}
use Rattle.dcc_program.specs.declared.failure.Failure.TheVariants.{Usage, Memory, Io, Plan, Store, Script, Close}

-- an argument that has to be there, by its place
abbrev pub argument : Text → Rule
argument name = record (new_rule name) { required = true; action = Some Set }

-- commands, each with its arguments
abbrev pub replay_command : App
replay_command = with_rule (new_app (codes "replay")) (argument (codes "PLAN"))

-- a command with the three arguments by which a subscriber's store is found
abbrev pub store_command : Text → App
store_command name = with_rule (with_rule (with_rule (new_app name) (argument (codes "PLAN"))) (argument (codes "DIR"))) (argument (codes "SUB"))

abbrev pub topup_command : App
topup_command = with_rule (with_rule (with_rule (store_command (codes "topup")) (argument (codes "TICKET"))) (argument (codes "AMOUNT"))) (argument (codes "MOMENT"))

abbrev pub ledger_command : App
ledger_command = store_command (codes "ledger")

abbrev pub balance_command : App
balance_command = store_command (codes "balance")

-- an option that takes a value
abbrev pub option : Text → Rule
option name = record (new_rule name) { long = Some name; action = Some Set }

-- an option that takes no value
abbrev pub flag : Text → Rule
flag name = record (new_rule name) { long = Some name; action = Some SetTrue }

-- a server's plan, its folder, and the address at which it listens
abbrev pub listening_command : App
listening_command = with_rule (with_rule (with_rule (new_app (codes "serve")) (argument (codes "PLAN"))) (argument (codes "DIR"))) (option (codes "listen"))

abbrev pub rounds_command : App
rounds_command = with_rule (with_rule (with_rule (with_rule listening_command (option (codes "gates"))) (option (codes "rounds"))) (option (codes "every"))) (option (codes "silent"))

abbrev pub serve_command : App
serve_command =
    with_rule (with_rule (with_rule (with_rule rounds_command (flag (codes "stay"))) (option (codes "sweep"))) (option (codes "operator"))) (flag (codes "accept-loss"))

abbrev pub decode_command : App
decode_command = new_app (codes "decode")

abbrev pub help_command : App
help_command = new_app (codes "help")

-- the program: it has a version, one of its commands has to be there, and `help` is a command of its own
abbrev pub with_version : App → App
with_version app = record app { top = record app.top { has_version = true } }

abbrev pub needing_command : App → App
needing_command app = record app { top = record app.top { subcommand_required = true } }

abbrev pub without_help_command : App → App
without_help_command app = record app { top = record app.top { disable_help_subcommand = true } }

unfoldable pub dcc_command : App
dcc_command = with_subcommand (with_subcommand (with_subcommand (with_subcommand (with_subcommand (with_subcommand (with_subcommand
    (without_help_command (needing_command (with_version (new_app (codes "dcc"))))) replay_command.top) topup_command.top) ledger_command.top)
    balance_command.top) serve_command.top) decode_command.top) help_command.top

-- the words, of which the first is the program's name, have no fault and name this command, with these arguments
pub record IsCommand (name : Text) (found : List Row) (words : List Text) : Type 0 where
  pub accepted : fault_of dcc_command words ≡ []
  pub named : subcommand_of dcc_command words ≡ Some (name, found)

-- the command by which a page is asked for
abbrev pub page_name : Page → Text
page_name pages.Ledger = codes "ledger"
page_name pages.Balance = codes "balance"

-- the command by which a task is asked for; the version has none
abbrev pub name_of : Task → Text
name_of (Replay path) = codes "replay"
name_of (TopUp place ask) = codes "topup"
name_of (Show page place sub) = page_name page
name_of Decode = codes "decode"
name_of Help = codes "help"
name_of Version = []

-- PLAN and DIR are those of a place
pub record IsPlace (found : List Row) (place : Place) : Type 0 where
  pub plan_is : first_of (codes "PLAN") found ≡ Some place.plan.now
  pub folder_is : first_of (codes "DIR") found ≡ Some place.folder.now

-- the values of the other arguments, which have the form of a script's words
abbrev pub sub_in : List Row → Option Sub
sub_in found = first_of (codes "SUB") found >>= sub

abbrev pub number_in : Text → List Row → Option ℕ
number_in name found = first_of name found >>= any_u64

abbrev pub moment_in : List Row → Option ℕ
moment_in found = first_of (codes "MOMENT") found >>= moment

-- SUB, TICKET, AMOUNT and MOMENT are those of a top-up
pub record IsAsk (found : List Row) (ask : TopUpAsk) : Type 0 where
  pub sub_is : sub_in found ≡ Some ask.sub
  pub ticket_is : number_in (codes "TICKET") found ≡ Some ask.ticket
  pub amount_is : number_in (codes "AMOUNT") found ≡ Some ask.amount
  pub moment_is : moment_in found ≡ Some ask.moment

-- the arguments have the values of a task
abbrev pub AsksWith : List Row → Task → Type 0
AsksWith found (Replay path) = first_of (codes "PLAN") found ≡ Some path.now
AsksWith found (TopUp place ask) = IsPlace found place × IsAsk found ask
AsksWith found (Show page place of) = IsPlace found place × (sub_in found ≡ Some of)
AsksWith found Decode = ⊤
AsksWith found Help = ⊤
AsksWith found Version = ⊥

-- the task that a command with these arguments asks for, or that there is no such task
abbrev pub IsTaskOf : Text → List Row → Option Task → Type 0
IsTaskOf name found (Some task) = (name ≡ name_of task) × AsksWith found task
IsTaskOf name found None = (task : Task) → name ≡ name_of task → AsksWith found task → ⊥

-- the words name a task's command, with the values of the task
abbrev pub IsAsked : List Text → Task → Type 0
IsAsked words task = (found : List Row) × IsCommand (name_of task) found words × AsksWith found task

-- the task that is asked for if the words have a fault of this kind: an option for help or for the version is such a fault
abbrev pub wish_of : ErrorKind → Result Task Failure
wish_of kind.DisplayHelp = Ok Help
wish_of kind.DisplayVersion = Ok Version
wish_of kind.OutOfMemory = Err Memory
wish_of _ = Err Usage

-- the words ask for a task
abbrev pub Asks : List Text → Task → Type 0
Asks words Help = IsAmong kind.DisplayHelp (fault_of dcc_command words) ⊎ IsAsked words Help
Asks words Version = IsAmong kind.DisplayVersion (fault_of dcc_command words)
Asks words task = IsAsked words task

-- the words ask for a task that needs a plan
abbrev pub IsUnderPlan : Task → Type 0
IsUnderPlan (Replay path) = ⊤
IsUnderPlan (TopUp place ask) = ⊤
IsUnderPlan (Show page place of) = ⊤
IsUnderPlan Decode = ⊥
IsUnderPlan Help = ⊥
IsUnderPlan Version = ⊥

-- the words ask for a task that reads a script
abbrev pub IsOverScript : Task → Type 0
IsOverScript (Replay path) = ⊤
IsOverScript (TopUp place ask) = ⊥
IsOverScript (Show page place of) = ⊥
IsOverScript Decode = ⊥
IsOverScript Help = ⊥
IsOverScript Version = ⊥

-- the words ask for a task over a store
abbrev pub IsOverStore : Task → Type 0
IsOverStore (Replay path) = ⊥
IsOverStore (TopUp place ask) = ⊤
IsOverStore (Show page place of) = ⊤
IsOverStore Decode = ⊥
IsOverStore Help = ⊥
IsOverStore Version = ⊥

-- the words have a fault that asks for nothing; or they have no fault, and name no command with the values of a task
abbrev pub IsNoUse : List Text → Type 0
IsNoUse words = ((other : ErrorKind) × IsAmong other (fault_of dcc_command words) × (wish_of other ≡ Err Usage))
    ⊎ ((fault_of dcc_command words ≡ []) × ((task : Task) → IsAsked words task → ⊥))

-- the words ask for nothing, or memory was short
abbrev pub IsTaskFailure : List Text → Failure → Type 0
IsTaskFailure words Usage = IsNoUse words
IsTaskFailure words Memory = ⊤
IsTaskFailure words Io = ⊥
IsTaskFailure words (Plan number) = ⊥
IsTaskFailure words (Store number) = ⊥
IsTaskFailure words (Script line) = ⊥
IsTaskFailure words (Close number) = ⊥

-- What the reader of command lines gives, in the words of a use.
use Rattle.std.proofs.Common.{◌⊎◌, ◌≡◌, ◌∙◌, true, false, List, [], Option, Some, None, codes, refl, sym, ap, ap₂, subst, inl, inr, option_map, Result, IfOk, IfErr, IfSome, slice_index, nat_eq, eq-eqb}
use Rattle.clap.specs.Words.{App, Row, Text, HasKind, IsAmong, fault_of, first_of, found_of, is_simple, is_simple_and_free, kind_of}
use Rattle.clap.specs.Words.{app_of, matches_of, rows_of, subcommand_name_of, subcommand_of, subcommand_rows, subcommand_rows_of}
use Rattle.clap.specs.declared.Error.{Error}
use Rattle.clap.specs.declared.ArgMatches.{ArgMatches}
use Rattle.clap.specs.declared.error.ErrorKind.{ErrorKind}
use Rattle.clap.specs.declared.error.ErrorKind.TheVariants.{OutOfMemory, DisplayHelp, DisplayVersion}
use Rattle.clap.specs.declared.parser.matches.ArgMatches.TheViews.{out-ArgMatches, out-SubCommand}
use Rattle.std.specs.Box.{box_value}
use Rattle.clap.proofs.OnLiterals.{clap_on_literals}
use Rattle.std.specs.Borrow.{Bor}
use Rattle.std.proofs.lemmas.Bool.{and_parts, not-true}
use Rattle.clap.specs.declared.builder.command.Command.{Command}
use Rattle.clap.specs.declared.builder.command.Command.TheViews.{out-Command}
use Rattle.dcc_program.specs.CommandLines.{dcc_command, wish_of, name_of, page_name, Asks, AsksWith, IsTaskOf, IsPlace, IsAsk, sub_in, IsAsked, IsNoUse, IsTaskFailure}
use Rattle.dcc_program.specs.declared.command_line.Task.TheVariants.{Replay, TopUp, Show, Decode, Help, Version}
use Rattle.dcc_program.specs.declared.failure.Failure.{Failure}
use Rattle.dcc_act.specs.declared.sub.Sub.{Sub}
use Rattle.dcc_operator.specs.declared.commands.TopUpAsk.{TopUpAsk}
use Rattle.dcc_operator.specs.declared.page.Page.{Page}
use Rattle.dcc_operator.specs.declared.page.Page.TheVariants as pages
use Rattle.dcc_program.specs.declared.command_line.Place.{Place}
use Rattle.dcc_program.specs.declared.command_line.Task.{Task}

is_simple_command : is_simple dcc_command ≡ true
unfolding dcc_command clap_on_literals
is_simple_command = refl

is_free_command : is_simple_and_free dcc_command ≡ true
unfolding dcc_command clap_on_literals
is_free_command = refl

-- the task that is asked for if the reader refuses the words by a fault of this kind
wished_by : (words : List Text) (kind : ErrorKind) → (kind ≡ OutOfMemory) ⊎ IsAmong kind (fault_of dcc_command words)
    → IfOk (wish_of kind) (Asks words) × IfErr (wish_of kind) (IsTaskFailure words)
wished_by words DisplayHelp (inl memory) = cc
wished_by words DisplayHelp (inr among) = (inl among, tt)
wished_by words DisplayVersion (inl memory) = cc
wished_by words DisplayVersion (inr among) = (among, tt)
wished_by words OutOfMemory given = (tt, tt)
wished_by words kind (inl memory) = cc
wished_by words kind (inr among) = (tt, inl (kind, among, refl))

-- an error of the reader
pub wished : (words : List Text) (app : App) (error : Error) (r : Result Task Failure) → app ≡ dcc_command
    → (is_simple_and_free app ≡ true → HasKind (fault_of app words) error) → r ≡ wish_of (kind_of error)
    → IfOk r (Asks words) × IfErr r (IsTaskFailure words)
wished words app error r is kinds says =
    let kind : HasKind (fault_of dcc_command words) error =
    subst (λ (a : App). HasKind (fault_of a words) error) is (kinds (ap is_simple_and_free is ∙ is_free_command)) in
    rw says (wished_by words (kind_of error) kind)

-- a command that is read plainly has no argument for its subcommands
pub plain_local : (c : Command) (app : App) → app_of c ≡ app → app.top.is_plain ≡ true → (out-Command c).has_globals ≡ false
plain_local c app is plain =
    let mine : (app_of c).top.is_plain ≡ true = ap (λ (a : App). a.top.is_plain) is ∙ plain in
    not-true (out-Command c).has_globals (and_parts _ _ (and_parts _ _ (and_parts _ _ mine).1).1).0

pub accepted_words : (words : List Text) (app : App) → app ≡ dcc_command → (is_simple_and_free app ≡ true → fault_of app words ≡ [])
    → fault_of dcc_command words ≡ []
accepted_words words app is none = ap (λ (a : App). fault_of a words) (sym is) ∙ none (ap is_simple_and_free is ∙ is_free_command)

-- the command that a parse entered, with what it found
entered_rows : (words : List Text) (app : App) (m : ArgMatches) → app ≡ dcc_command
    → (is_simple app ≡ true → (rows_of (found_of m) ≡ matches_of app words) × (subcommand_rows_of m ≡ subcommand_of app words))
    → subcommand_rows_of m ≡ subcommand_of dcc_command words
entered_rows words app m is matches = (matches (ap is_simple is ∙ is_simple_command)).1 ∙ ap (λ (a : App). subcommand_of a words) is

name_of_rows : (m : ArgMatches) → subcommand_name_of m ≡ option_map (λ p. p.0) (subcommand_rows_of m)
name_of_rows m = elim (out-ArgMatches m).subcommand as
    (λ o. option_map (λ b. (out-SubCommand (box_value b)).name.now) o ≡ option_map (λ p. p.0) (subcommand_rows o))
    [ None ↦ refl | Some found ↦ refl ]

pair_of : {A B : Type 0} (o : Option (A × B)) (a : A) (b : B) → option_map (λ p. p.0) o ≡ Some a → option_map (λ p. p.1) o ≡ Some b → o ≡ Some (a, b)
pair_of None a b first second = cc
pair_of (Some p) a b first second =
    let one : p.0 ≡ a = cc in
    let two : p.1 ≡ b = cc in
    ap₂ (λ x y. Some (x, y)) one two

-- the command that was entered, with what was found of its arguments
pub named_rows : (m : ArgMatches) (r : Option (Bor Text × Bor ArgMatches)) (name : Bor Text) (found : Bor ArgMatches)
    → option_map (λ p. p.0.now) r ≡ subcommand_name_of m → option_map (λ p. rows_of (found_of p.1.now)) r ≡ option_map (λ p. p.1) (subcommand_rows_of m)
    → r ≡ Some (name, found) → subcommand_rows_of m ≡ Some (name.now, rows_of (found_of found.now))
named_rows m r name found named rows whole =
    let name_is : subcommand_name_of m ≡ Some name.now = rw whole at (sym named) in
    let rows_are : option_map (λ p. p.1) (subcommand_rows_of m) ≡ Some (rows_of (found_of found.now)) = rw whole at (sym rows) in
    pair_of (subcommand_rows_of m) name.now (rows_of (found_of found.now)) (sym (name_of_rows m) ∙ name_is) rows_are

no_pair : {A B : Type 0} (o : Option (A × B)) → option_map (λ p. p.0) o ≡ None → o ≡ None
no_pair None none = refl
no_pair (Some p) none = cc

-- or that none was entered
pub unnamed_rows : (m : ArgMatches) (r : Option (Bor Text × Bor ArgMatches)) → option_map (λ p. p.0.now) r ≡ subcommand_name_of m → r ≡ None
    → subcommand_rows_of m ≡ None
unnamed_rows m r named none =
    let nothing : subcommand_name_of m ≡ None = rw none at (sym named) in
    no_pair (subcommand_rows_of m) (sym (name_of_rows m) ∙ nothing)

first_same : {A B : Type 0} (a c : A) (b d : B) → ◌≡◌ {A = Option (A × B)} (Some (a, b)) (Some (c, d)) → (a ≡ c) × (b ≡ d)
first_same {A} {B} a c b d same =
    let pair : ◌≡◌ {A = A × B} (a, b) (c, d) = cc in
    (ap (λ (p : A × B). p.0) pair, ap (λ (p : A × B). p.1) pair)

asked : (words : List Text) (task : Task) → IsAsked words task → Asks words task
asked words (Replay path) given = given
asked words (TopUp place ask) given = given
asked words (Show page place of) given = given
asked words Decode given = given
asked words Help given = inr given
asked words Version given = absurd given.2

-- the task that an entered command asks for with the arguments that were found
pub task_of_rows : (rows : Option (Text × List Row)) (name : Text) (found : List Row) (o : Option Task) → rows ≡ Some (name, found) → IsTaskOf name found o
    → IfSome o (λ task. (f : List Row) × (rows ≡ Some (name_of task, f)) × AsksWith f task)
task_of_rows rows name found None entered given = tt
task_of_rows rows name found (Some task) entered given = (found, entered ∙ ap (λ (t : Text). Some (t, found)) given.0, given.1)

-- or that it asks for nothing
pub no_task_of_rows : (rows : Option (Text × List Row)) (name : Text) (found : List Row) (o : Option Task) → rows ≡ Some (name, found) → IsTaskOf name found o
    → o ≡ None → (task : Task) (f : List Row) → rows ≡ Some (name_of task, f) → AsksWith f task → ⊥
no_task_of_rows rows name found o entered given is task f asked with_them =
    let none : IsTaskOf name found None = subst (λ (t : Option Task). IsTaskOf name found t) is given in
    let same = first_same _ _ _ _ (sym entered ∙ asked) in
    none task same.0 (subst (λ (all : List Row). AsksWith all task) (sym same.1) with_them)

-- what the words ask for if they have no fault
pub task_asked : (words : List Text) (app : App) (m : ArgMatches) (task : Task) → app ≡ dcc_command → (is_simple_and_free app ≡ true → fault_of app words ≡ [])
    → (is_simple app ≡ true → (rows_of (found_of m) ≡ matches_of app words) × (subcommand_rows_of m ≡ subcommand_of app words))
    → ((f : List Row) × (subcommand_rows_of m ≡ Some (name_of task, f)) × AsksWith f task) → Asks words task
task_asked words app m task is free matches it =
    asked words task (it.0, record { accepted = accepted_words words app is free; named = sym (entered_rows words app m is matches) ∙ it.1 }, it.2)

pub nothing_asked : (words : List Text) (app : App) (m : ArgMatches) → app ≡ dcc_command → (is_simple_and_free app ≡ true → fault_of app words ≡ [])
    → (is_simple app ≡ true → (rows_of (found_of m) ≡ matches_of app words) × (subcommand_rows_of m ≡ subcommand_of app words))
    → ((task : Task) (f : List Row) → subcommand_rows_of m ≡ Some (name_of task, f) → AsksWith f task → ⊥) → IsNoUse words
nothing_asked words app m is free matches none = inr (
  accepted_words words app is free,
  λ task asks. none task asks.0 (entered_rows words app m is matches ∙ asks.1.named) asks.2,
)

-- texts whose first octets differ are not the same
apart : (a b : Text) → nat_eq (slice_index a 0) (slice_index b 0) ≡ false → a ≡ b → ⊥
apart a b differ same =
    let alike : nat_eq (slice_index a 0) (slice_index b 0) ≡ nat_eq (slice_index b 0) (slice_index b 0) = ap (λ (t : Text). nat_eq (slice_index t 0) (slice_index b 0)) same in
    let true_is : nat_eq (slice_index b 0) (slice_index b 0) ≡ true = eq-eqb (slice_index b 0) (slice_index b 0) refl in
    cc

-- if a command's arguments don't say what it needs, there is no task of its name
pub no_replay : (found : List Row) → first_of (codes "PLAN") found ≡ None → IsTaskOf (codes "replay") found None
no_replay found none (Replay path) named given = cc
no_replay found none (TopUp place ask) named given = absurd (apart (codes "replay") (codes "topup") refl named)
no_replay found none (Show pages.Ledger place of) named given = absurd (apart (codes "replay") (codes "ledger") refl named)
no_replay found none (Show pages.Balance place of) named given = absurd (apart (codes "replay") (codes "balance") refl named)
no_replay found none Decode named given = absurd (apart (codes "replay") (codes "decode") refl named)
no_replay found none Help named given = absurd (apart (codes "replay") (codes "help") refl named)
no_replay found none Version named given = given

pub no_top_up : (found : List Row) → ((place : Place) (ask : TopUpAsk) → IsPlace found place → IsAsk found ask → ⊥) → IsTaskOf (codes "topup") found None
no_top_up found none (Replay path) named given = absurd (apart (codes "topup") (codes "replay") refl named)
no_top_up found none (TopUp place ask) named given = none place ask given.0 given.1
no_top_up found none (Show pages.Ledger place of) named given = absurd (apart (codes "topup") (codes "ledger") refl named)
no_top_up found none (Show pages.Balance place of) named given = absurd (apart (codes "topup") (codes "balance") refl named)
no_top_up found none Decode named given = absurd (apart (codes "topup") (codes "decode") refl named)
no_top_up found none Help named given = absurd (apart (codes "topup") (codes "help") refl named)
no_top_up found none Version named given = given

pub no_page : (page : Page) (found : List Row) → ((place : Place) (of : Sub) → IsPlace found place → sub_in found ≡ Some of → ⊥) → IsTaskOf (page_name page) found None
no_page pages.Ledger found none (Replay path) named given = absurd (apart (codes "ledger") (codes "replay") refl named)
no_page pages.Ledger found none (TopUp place ask) named given = absurd (apart (codes "ledger") (codes "topup") refl named)
no_page pages.Ledger found none (Show other place of) named given = none place of given.0 given.1
no_page pages.Ledger found none Decode named given = absurd (apart (codes "ledger") (codes "decode") refl named)
no_page pages.Ledger found none Help named given = absurd (apart (codes "ledger") (codes "help") refl named)
no_page pages.Ledger found none Version named given = given
no_page pages.Balance found none (Replay path) named given = absurd (apart (codes "balance") (codes "replay") refl named)
no_page pages.Balance found none (TopUp place ask) named given = absurd (apart (codes "balance") (codes "topup") refl named)
no_page pages.Balance found none (Show other place of) named given = none place of given.0 given.1
no_page pages.Balance found none Decode named given = absurd (apart (codes "balance") (codes "decode") refl named)
no_page pages.Balance found none Help named given = absurd (apart (codes "balance") (codes "help") refl named)
no_page pages.Balance found none Version named given = given

pub none_or_some : {A : Type 0} (o : Option A) (a : A) → o ≡ None → o ≡ Some a → ⊥
none_or_some o a none some = cc

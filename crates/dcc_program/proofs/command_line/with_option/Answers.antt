use Rattle.std.proofs.Common.{ap, ◌≡◌, ◌∙◌, false, Some}
use Rattle.std.proofs.lemmas.Result.{IfOk-weaker}
use Rattle.std.specs.Borrow.{Bor}
use Rattle.clap.specs.Words.{Rule, Text, app_of, rule_of, new_rule, with_rule}
use Rattle.clap.specs.declared.builder.ArgAction.TheVariants.{Set}
use Rattle.clap.specs.declared.builder.arg.Arg.{Arg}
use Rattle.dcc_program.specs.CommandLines.{option}
use Rattle.dcc_program.proofs.command_line.with_option.Goals as goal

-- the rule of an option that is made so, over variables
ruled : (name : Bor Text) (new named acted : Arg) → rule_of new ≡ new_rule name.now → named ≡ record new { long = Some name }
    → acted ≡ record named { action = Some Set } → rule_of acted ≡ option name.now
ruled name new named acted is first then =
    ap rule_of then ∙ ap (λ (r : Rule). record r { action = Some Set }) (ap rule_of first ∙ ap (λ (r : Rule). record r { long = Some name.now }) is)

-- it is none for subcommands
own : (name : Bor Text) (new named acted : Arg) → new.global ≡ false → named ≡ record new { long = Some name } → acted ≡ record named { action = Some Set }
    → acted.global ≡ false
own name new named acted is first then = ap (λ (a : Arg). a.global) then ∙ ap (λ (a : Arg). a.global) first ∙ is

pub returns : goal.returns
returns c =
    let new = c.new.result in
    let named = c.long.result in
    let acted = c.action-option.result in
    IfOk-weaker c.arg.result _ _
    (λ command added. added.shape (own c.args.name new named acted c.new.ensures.optional.1 c.long.ensures c.action-option.ensures)
    ∙ ap (with_rule (app_of c.args.command)) (ruled c.args.name new named acted c.new.ensures.rule c.long.ensures c.action-option.ensures)) c.arg.ensures

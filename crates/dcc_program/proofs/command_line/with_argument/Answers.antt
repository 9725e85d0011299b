use Rattle.std.proofs.Common.{ap, ◌≡◌, ◌∙◌, true, false, Some}
use Rattle.std.proofs.lemmas.Result.{IfOk-weaker}
use Rattle.clap.specs.Words.{Rule, Text, app_of, rule_of, new_rule, with_rule}
use Rattle.clap.specs.declared.builder.ArgAction.TheVariants.{Set}
use Rattle.clap.specs.declared.builder.arg.Arg.{Arg}
use Rattle.dcc_program.specs.CommandLines.{argument}
use Rattle.dcc_program.proofs.command_line.with_argument.Goals as goal

-- the rule of an argument that is made so, over variables
ruled : (name : Text) (new required acted : Arg) → rule_of new ≡ new_rule name → required ≡ record new { required = true }
    → acted ≡ record required { action = Some Set } → rule_of acted ≡ argument name
ruled name new required acted is first then =
    ap rule_of then ∙ ap (λ (r : Rule). record r { action = Some Set }) (ap rule_of first ∙ ap (λ (r : Rule). record r { required = true }) is)

-- it is none for subcommands
own : (new required acted : Arg) → new.global ≡ false → required ≡ record new { required = true } → acted ≡ record required { action = Some Set }
    → acted.global ≡ false
own new required acted is first then = ap (λ (a : Arg). a.global) then ∙ ap (λ (a : Arg). a.global) first ∙ is

pub returns : goal.returns
returns c =
    let new = c.new.result in
    let required = c.required.result in
    let acted = c.action-argument.result in
    IfOk-weaker c.arg.result _ _
    (λ command added. added.shape (own new required acted c.new.ensures.optional.1 c.required.ensures c.action-argument.ensures)
    ∙ ap (with_rule (app_of c.args.command)) (ruled c.args.name.now new required acted c.new.ensures.rule c.required.ensures c.action-argument.ensures)) c.arg.ensures

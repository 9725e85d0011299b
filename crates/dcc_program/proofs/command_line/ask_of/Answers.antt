use Rattle.std.proofs.Common.{◌∙◌, sym}
use Rattle.dcc_program.proofs.CommandLineLemmas.{none_or_some}
use Rattle.dcc_program.proofs.command_line.ask_of.Goals as goal

pub returns-in_err-sub_of-clause-some : goal.returns-in_err-sub_of-clause-some
returns-in_err-sub_of-clause-some c = rw c.from_residual.ensures tt

pub returns-in_err-sub_of-clause-none : goal.returns-in_err-sub_of-clause-none
returns-in_err-sub_of-clause-none c = λ none ask is. none_or_some _ _ (sym c.sub_of.ensures ∙ c.in_err-sub_of.was) is.sub_is

pub returns-in_err-number_of-clause-some : goal.returns-in_err-number_of-clause-some
returns-in_err-number_of-clause-some c = rw c.from_residual-in_err-number_of.ensures tt

pub returns-in_err-number_of-clause-none : goal.returns-in_err-number_of-clause-none
returns-in_err-number_of-clause-none c = λ none ask is. none_or_some _ _ (sym c.number_of.ensures ∙ c.in_err-number_of.was) is.ticket_is

pub returns-in_err-number_of-2-clause-some : goal.returns-in_err-number_of-2-clause-some
returns-in_err-number_of-2-clause-some c = rw c.from_residual-in_err-number_of-2.ensures tt

pub returns-in_err-number_of-2-clause-none : goal.returns-in_err-number_of-2-clause-none
returns-in_err-number_of-2-clause-none c = λ none ask is. none_or_some _ _ (sym c.number_of-2.ensures ∙ c.in_err-number_of-2.was) is.amount_is

pub returns-in_err-moment_of-clause-some : goal.returns-in_err-moment_of-clause-some
returns-in_err-moment_of-clause-some c = rw c.from_residual-in_err-moment_of.ensures tt

pub returns-in_err-moment_of-clause-none : goal.returns-in_err-moment_of-clause-none
returns-in_err-moment_of-clause-none c = λ none ask is. none_or_some _ _ (sym c.moment_of.ensures ∙ c.in_err-moment_of.was) is.moment_is

pub returns-clause-some : goal.returns-clause-some
returns-clause-some c = record {
  sub_is = sym c.sub_of.ensures ∙ c.in_ok-sub_of.was;
  ticket_is = sym c.number_of.ensures ∙ c.in_ok-number_of.was;
  amount_is = sym c.number_of-2.ensures ∙ c.in_ok-number_of-2.was;
  moment_is = sym c.moment_of.ensures ∙ c.in_ok-moment_of.was;
}

pub returns-clause-none : goal.returns-clause-none
returns-clause-none c = λ none. cc

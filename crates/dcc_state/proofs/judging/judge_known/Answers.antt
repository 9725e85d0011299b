use Rattle.std.proofs.Common.{List, ap, sym, ◌∙◌}
use Rattle.std.specs.Option.{option_copied}
use Rattle.dcc_session.specs.declared.held.Held.{Held}
use Rattle.dcc_state.specs.inner.Judged.{change_with}
use Rattle.dcc_state.proofs.Backs.{backed_at}
use Rattle.dcc_state.proofs.judging.judge_known.Goals as goal

pub returns-clause-backed : goal.returns-clause-backed
returns-clause-backed c =
    backed_at c.args.terms.now c.args.facts.now (option_copied c.args.first) c.args.sessions.now c.args.act.now c.in_ok-outcome.outcome c.in_ok-change_of.field-0 c.keys_are_apart.ensures c.requires.within.funds_low c.requires.within.funds_high
    (sym c.is_made.ensures ∙ c.if-not-is_made.false) c.in_ok-outcome.ensures (c.in_ok-change_of.ensures ∙ ap (λ (own : List Held). change_with c.args.terms.now own c.args.act.now.moment c.args.act.now.kind c.in_ok-outcome.outcome) c.own_of-own.ensures.value)

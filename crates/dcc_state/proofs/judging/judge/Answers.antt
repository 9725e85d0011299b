use Rattle.std.specs.Option.{option_copied}
use Rattle.std.proofs.lemmas.Result.{IfOk-weaker}
use Rattle.dcc_state.proofs.Judged.{knows, outcome_at, new_at, place_at, entries_at, sessions_at, funds_at, overrun_at, both}
use Rattle.std.proofs.Common.{reverse, arith}
use Rattle.dcc_model.specs.Outcomes.{history}
use Rattle.dcc_state.proofs.Decided.{looks_are, looks_reach}
use Rattle.dcc_state.proofs.judging.judge.Goals as goal

pub returns-clause-outcome : goal.returns-clause-outcome
returns-clause-outcome c =
    λ xs known.
    let laws = c.sessions_open_once.ensures in
    let have = knows laws.found laws.live laws.once c.args.terms.now xs c.args.act.now c.args.facts.now (option_copied c.args.first) c.args.sessions.now known in
    IfOk-weaker c.judge_known.result _ _ (λ judgement is. outcome_at c.args.terms.now xs c.args.act.now c.args.facts.now (option_copied c.args.first) c.args.sessions.now known have judgement.outcome is) c.judge_known.ensures.outcome

pub returns-clause-is_new : goal.returns-clause-is_new
returns-clause-is_new c =
    λ xs known.
    let laws = c.sessions_open_once.ensures in
    let have = knows laws.found laws.live laws.once c.args.terms.now xs c.args.act.now c.args.facts.now (option_copied c.args.first) c.args.sessions.now known in
    IfOk-weaker c.judge_known.result _ _ (λ judgement is. new_at c.args.terms.now xs c.args.act.now c.args.facts.now (option_copied c.args.first) c.args.sessions.now known have judgement.is_new is) c.judge_known.ensures.is_new

pub returns-clause-place : goal.returns-clause-place
returns-clause-place c =
    λ xs known.
    let laws = c.sessions_open_once.ensures in
    let have = knows laws.found laws.live laws.once c.args.terms.now xs c.args.act.now c.args.facts.now (option_copied c.args.first) c.args.sessions.now known in
    let found = c.judge_known.ensures in
    IfOk-weaker c.judge_known.result _ _ (λ judgement is. place_at c.args.terms.now xs c.args.act.now c.args.facts.now (option_copied c.args.first) c.args.sessions.now known judgement.is_new (new_at c.args.terms.now xs c.args.act.now c.args.facts.now (option_copied c.args.first) c.args.sessions.now known have judgement.is_new is.0) judgement.place is.1)
    (both c.judge_known.result _ _ found.is_new found.place)

pub returns-clause-entries : goal.returns-clause-entries
returns-clause-entries c =
    λ xs known.
    let laws = c.sessions_open_once.ensures in
    let have = knows laws.found laws.live laws.once c.args.terms.now xs c.args.act.now c.args.facts.now (option_copied c.args.first) c.args.sessions.now known in
    let found = c.judge_known.ensures in
    IfOk-weaker c.judge_known.result _ _
    (λ judgement is.
    entries_at c.args.terms.now xs c.args.act.now c.args.facts.now (option_copied c.args.first) c.args.sessions.now known have judgement.is_new (new_at c.args.terms.now xs c.args.act.now c.args.facts.now (option_copied c.args.first) c.args.sessions.now known have judgement.is_new is.0) judgement.outcome (outcome_at c.args.terms.now xs c.args.act.now c.args.facts.now (option_copied c.args.first) c.args.sessions.now known have judgement.outcome is.1.0) judgement.entries.items is.1.1)
    (both c.judge_known.result _ _ found.is_new (both c.judge_known.result _ _ found.outcome found.entries))

pub returns-clause-sessions : goal.returns-clause-sessions
returns-clause-sessions c =
    λ xs known.
    let laws = c.sessions_open_once.ensures in
    let have = knows laws.found laws.live laws.once c.args.terms.now xs c.args.act.now c.args.facts.now (option_copied c.args.first) c.args.sessions.now known in
    let found = c.judge_known.ensures in
    IfOk-weaker c.judge_known.result _ _
    (λ judgement is.
    sessions_at c.acts_come_to_their_own.ensures.decided c.args.terms.now xs c.args.act.now c.args.facts.now c.args.sessions.now have judgement.is_new (new_at c.args.terms.now xs c.args.act.now c.args.facts.now (option_copied c.args.first) c.args.sessions.now known have judgement.is_new is.0) judgement.outcome (outcome_at c.args.terms.now xs c.args.act.now c.args.facts.now (option_copied c.args.first) c.args.sessions.now known have judgement.outcome is.1.0) judgement.change is.1.1)
    (both c.judge_known.result _ _ found.is_new (both c.judge_known.result _ _ found.outcome found.change))

pub returns-clause-funds : goal.returns-clause-funds
returns-clause-funds c =
    λ xs known.
    let laws = c.sessions_open_once.ensures in
    let have = knows laws.found laws.live laws.once c.args.terms.now xs c.args.act.now c.args.facts.now (option_copied c.args.first) c.args.sessions.now known in
    let found = c.judge_known.ensures in
    IfOk-weaker c.judge_known.result _ _
    (λ judgement is.
    funds_at c.args.terms.now xs c.args.act.now c.args.facts.now c.args.sessions.now have judgement.is_new (new_at c.args.terms.now xs c.args.act.now c.args.facts.now (option_copied c.args.first) c.args.sessions.now known have judgement.is_new is.0) judgement.outcome (outcome_at c.args.terms.now xs c.args.act.now c.args.facts.now (option_copied c.args.first) c.args.sessions.now known have judgement.outcome is.1.0) judgement.change is.1.1)
    (both c.judge_known.result _ _ found.is_new (both c.judge_known.result _ _ found.outcome found.change))

pub returns-clause-overrun : goal.returns-clause-overrun
returns-clause-overrun c =
    λ xs known.
    let laws = c.sessions_open_once.ensures in
    let have = knows laws.found laws.live laws.once c.args.terms.now xs c.args.act.now c.args.facts.now (option_copied c.args.first) c.args.sessions.now known in
    let found = c.judge_known.ensures in
    IfOk-weaker c.judge_known.result _ _
    (λ judgement is.
    overrun_at c.args.terms.now xs c.args.act.now c.args.facts.now c.args.sessions.now have judgement.is_new (new_at c.args.terms.now xs c.args.act.now c.args.facts.now (option_copied c.args.first) c.args.sessions.now known have judgement.is_new is.0) judgement.outcome (outcome_at c.args.terms.now xs c.args.act.now c.args.facts.now (option_copied c.args.first) c.args.sessions.now known have judgement.outcome is.1.0) judgement.change is.1.1)
    (both c.judge_known.result _ _ found.is_new (both c.judge_known.result _ _ found.outcome found.change))

pub returns-clause-looks : goal.returns-clause-looks
returns-clause-looks c =
    λ xs known.
    let laws = c.sessions_open_once.ensures in
    let have = knows laws.found laws.live laws.once c.args.terms.now xs c.args.act.now c.args.facts.now (option_copied c.args.first) c.args.sessions.now known in
    let most = looks_are c.args.terms.now (history c.args.terms.now (reverse xs)) c.args.facts.now.standing c.args.sessions.now have c.args.act.now.moment c.args.act.now.kind in
    let found = c.judge_known.ensures.looks in
    omega arith

pub returns-clause-counted : goal.returns-clause-counted
returns-clause-counted c =
    λ xs known.
    let laws = c.sessions_open_once.ensures in
    let have = knows laws.found laws.live laws.once c.args.terms.now xs c.args.act.now c.args.facts.now (option_copied c.args.first) c.args.sessions.now known in
    let least = looks_reach c.args.terms.now (history c.args.terms.now (reverse xs)) c.args.facts.now.standing c.args.sessions.now have c.args.act.now.kind in
    let found = c.judge_known.ensures.looks in
    omega arith

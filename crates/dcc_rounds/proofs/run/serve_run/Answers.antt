use Rattle.std.proofs.Common.{rules, ◌≡◌, ◌+◌, ◌<◌, refl, sym, ap, ◌∙◌, arith}
use Rattle.std.proofs.lemmas.Result.{err_from_is_err_and}
use Rattle.dcc_dispatch.specs.Settings.{Setting}
use Rattle.dcc_rounds.specs.Served.{EndsRound, EndsRounds, IsGoodRound, IsRound, is_any_stopped}
use Rattle.dcc_rounds.specs.declared.fault.ServeFault.{ServeFault}
use Rattle.dcc_rounds.proofs.Ends.{ends_behind, ends_stopped, of_unnumbered}
use Rattle.dcc_rounds.proofs.Tellings.{ends_before, ends_behind_line, ends_in_line, last_of, none_served, one_served, one_told, told_of}
use Rattle.dcc_rounds.proofs.run.serve_run.Goals as goal

pub returns-in_err-counts-clause-part : goal.returns-in_err-counts-clause-part
returns-in_err-counts-clause-part g c =
    let few : c.loop-round.round < c.args.rounds.now.rounds = search rules in
    let p = err_from_is_err_and c.from_residual.result c.from_residual.ensures.1 in
    rw (p.1, p.2)
    (ends_before (EndsRound g.I.Read.remaining g.O.Write.contents g.C.Clock.tells g.L.Listener.is_closed g.L.Listener.attends c.args.service.now.clock.now (record { plan = c.args.service.now.plan.now; identity = c.args.service.now.identity.now })
    c.args.rounds.now c.loop-round.shards.items) (λ number it. it) c.in_err-counts.field-0.0 _ _ c.loop-round.round c.args.rounds.now.rounds c.in_err-counts.ensures.ends few
    (told_of _ _ _ _ _ _ (last_of c.loop-round.invariant)))

pub returns-in-Err-clause-part : goal.returns-in-Err-clause-part
returns-in-Err-clause-part g c =
    let few : c.loop-round.round < c.args.rounds.now.rounds = search rules in
    let next : c.saturating_add.result ≡ c.loop-round.round + 1 = search rules in
    let fault = c.in-Err.ensures in
    ends_in_line c.in-Err.fault _ _ _ c.loop-round.round c.args.rounds.now.rounds c.saturating_add.result c.in_ok-counts.counts fault.fault fault.silent fault.part
    next few (told_of _ _ _ _ _ _ (last_of c.loop-round.invariant))

pub returns-then-tell_stopped-clause-part : goal.returns-then-tell_stopped-clause-part
returns-then-tell_stopped-clause-part g c =
    let few : c.loop-round.round < c.args.rounds.now.rounds = search rules in
    let next : c.saturating_add.result ≡ c.loop-round.round + 1 = search rules in (
      refl,
      (
        c.loop-round.round + 1,
        omega arith,
        omega (arith, few),
        one_told _ _ _ c.loop-round.round c.saturating_add.result c.in_ok-counts.counts (told_of _ _ _ _ _ _ (last_of c.loop-round.invariant)) next c.in-Ok.ensures.whole,
      ),
    )

pub returns-then-has_failed-clause-part : goal.returns-then-has_failed-clause-part
returns-then-has_failed-clause-part g c =
    let few : c.loop-round.round < c.args.rounds.now.rounds = search rules in
    let next : c.saturating_add.result ≡ c.loop-round.round + 1 = search rules in
    ends_behind_line _ _ _ c.loop-round.round c.args.rounds.now.rounds c.saturating_add.result c.in_ok-counts.counts c.in-Ok.ensures.whole
    next few (told_of _ _ _ _ _ _ (last_of c.loop-round.invariant))

pub returns-then-has_failed-clause-cause : goal.returns-then-has_failed-clause-cause
returns-then-has_failed-clause-cause g c = tt

pub returns-in_err-counts-clause-cause : goal.returns-in_err-counts-clause-cause
returns-in_err-counts-clause-cause g c =
    let setting : Setting = record { plan = c.args.service.now.plan.now; identity = c.args.service.now.identity.now } in
    let clock = c.args.service.now.clock.now in
    let rounds = c.args.rounds.now in
    let good = IsGoodRound g.I.Read.remaining g.O.Write.contents g.C.Clock.tells g.L.Listener.is_closed g.L.Listener.attends clock setting g.R.Records.is_stopped g.R.Records.may_leave rounds in
    let round = IsRound {I = g.row.I.Denot} {O = g.row.O.Denot} g.I.Read.remaining g.O.Write.contents g.C.Clock.tells g.L.Listener.is_closed g.L.Listener.attends clock setting g.R.Records.is_stopped g.R.Records.may_leave rounds in
    let ends = EndsRound g.I.Read.remaining g.O.Write.contents g.C.Clock.tells g.L.Listener.is_closed g.L.Listener.attends clock setting {R = g.row.R.Denot} rounds in
    let few : c.loop-round.round < c.args.rounds.now.rounds = search rules in
    let p = err_from_is_err_and c.from_residual.result c.from_residual.ensures.1 in
    rw (p.1, p.2)
    (ends_behind good round ends (is_any_stopped g.R.Records.is_stopped) (λ last number it. it) c.in_err-counts.field-0.0 c.loop-round.round c.args.rounds.now.rounds
    c.args.shards.items c.loop-round.shards.items (g.P.Write.contents c.args.output.now) (g.P.Write.contents c.loop-round.output) few (last_of c.loop-round.invariant)
    c.in_err-counts.ensures.ends)

pub returns-in-Err-clause-cause : goal.returns-in-Err-clause-cause
returns-in-Err-clause-cause g c =
    let setting : Setting = record { plan = c.args.service.now.plan.now; identity = c.args.service.now.identity.now } in
    let clock = c.args.service.now.clock.now in
    let rounds = c.args.rounds.now in
    let good = IsGoodRound g.I.Read.remaining g.O.Write.contents g.C.Clock.tells g.L.Listener.is_closed g.L.Listener.attends clock setting g.R.Records.is_stopped g.R.Records.may_leave rounds in
    let round = IsRound {I = g.row.I.Denot} {O = g.row.O.Denot} g.I.Read.remaining g.O.Write.contents g.C.Clock.tells g.L.Listener.is_closed g.L.Listener.attends clock setting g.R.Records.is_stopped g.R.Records.may_leave rounds in
    let ends = EndsRound g.I.Read.remaining g.O.Write.contents g.C.Clock.tells g.L.Listener.is_closed g.L.Listener.attends clock setting {R = g.row.R.Denot} rounds in
    of_unnumbered (λ (fault : ServeFault). EndsRounds good round ends (is_any_stopped g.R.Records.is_stopped) fault c.args.rounds.now.rounds c.args.shards.items
    (g.P.Write.contents c.args.output.now) (g.P.Write.contents c.write_line.new.output)) tt tt c.in-Err.fault c.in-Err.ensures.fault

pub returns-then-tell_stopped-clause-cause : goal.returns-then-tell_stopped-clause-cause
returns-then-tell_stopped-clause-cause g c =
    let setting : Setting = record { plan = c.args.service.now.plan.now; identity = c.args.service.now.identity.now } in
    let clock = c.args.service.now.clock.now in
    let rounds = c.args.rounds.now in
    let good = IsGoodRound g.I.Read.remaining g.O.Write.contents g.C.Clock.tells g.L.Listener.is_closed g.L.Listener.attends clock setting g.R.Records.is_stopped g.R.Records.may_leave rounds in
    let round = IsRound {I = g.row.I.Denot} {O = g.row.O.Denot} g.I.Read.remaining g.O.Write.contents g.C.Clock.tells g.L.Listener.is_closed g.L.Listener.attends clock setting g.R.Records.is_stopped g.R.Records.may_leave rounds in
    let ends = EndsRound g.I.Read.remaining g.O.Write.contents g.C.Clock.tells g.L.Listener.is_closed g.L.Listener.attends clock setting {R = g.row.R.Denot} rounds in
    let few : c.loop-round.round < c.args.rounds.now.rounds = search rules in
    let next : c.saturating_add.result ≡ c.loop-round.round + 1 = search rules in
    ends_stopped good round ends (is_any_stopped g.R.Records.is_stopped) c.loop-round.round c.args.rounds.now.rounds c.saturating_add.result c.args.shards.items
    c.loop-round.shards.items c.in_ok-counts.next.items c.in_ok-counts.counts (g.P.Write.contents c.args.output.now) (g.P.Write.contents c.loop-round.output)
    (g.P.Write.contents c.write_line.new.output) few (last_of c.loop-round.invariant) c.in_ok-counts.ensures.round
    (sym (c.if-tell_stopped.ensures ∙ ap (is_any_stopped g.R.Records.is_stopped) c.as_slice.ensures.value)) next c.in-Ok.ensures.whole

pub loop-round-init : goal.loop-round-init
loop-round-init g c = (c.requires.shards, c.requires.some, c.requires.most, none_served _ _ _)

pub loop-round-preserved : goal.loop-round-preserved
loop-round-preserved g c =
    let next : c.saturating_add.result ≡ c.loop-round.round + 1 = search rules in (
      c.in_ok-counts.ensures.shards,
      c.in_ok-counts.ensures.some,
      c.in_ok-counts.ensures.most,
      one_served _ c.loop-round.round c.saturating_add.result _ _ _ c.in_ok-counts.counts _ _ _ (last_of c.loop-round.invariant) (c.in_ok-counts.ensures.round, sym (c.if-tell_stopped.ensures ∙ ap (is_any_stopped g.R.Records.is_stopped) c.as_slice.ensures.value)) next
          c.in-Ok.ensures.whole,
    )

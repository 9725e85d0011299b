use Rattle.std.proofs.Common.{◌≤◌, length}
use Rattle.dcc_running.specs.Books.{AreShards}
use Rattle.dcc_rounds.specs.Served.{AreServed, IsGoodRound}
use Rattle.dcc_rounds.proofs.run.serve_run.Given as goal

abbrev pub invariant-loop-round : goal.invariant-loop-round
invariant-loop-round g l =
    AreShards l.service.plan.now.terms l.service.identity.now l.shards.items × (1 ≤ length l.shards.items) × (length l.shards.items ≤ 8)
    × AreServed (IsGoodRound g.I.Read.remaining g.O.Write.contents g.C.Clock.tells g.L.Listener.is_closed g.L.Listener.attends l.service.clock.now
    (record { plan = l.service.plan.now; identity = l.service.identity.now }) g.R.Records.is_stopped g.R.Records.may_leave l.rounds) l.round l.fn.shards.items l.shards.items
    (g.P.Write.contents l.fn.output) (g.P.Write.contents l.output)

use Rattle.std.proofs.Common.{◌≡◌}
use Rattle.dcc_rounds.specs.Timing.{TimesAsks}
use Rattle.dcc_rounds.specs.inner.Watching.{AreMarked}
use Rattle.dcc_rounds.proofs.timer.SweepTimer.ask_on_time.Given as goal

abbrev pub invariant-loop : goal.invariant-loop
invariant-loop g l = TimesAsks g.C.Clock.tells l.fn.self l.fn.clock l.self l.clock × (l.self.stays ≡ l.fn.self.stays) × AreMarked g.N.Notices.has_told 0 l.told

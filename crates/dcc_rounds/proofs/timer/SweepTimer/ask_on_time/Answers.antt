use Rattle.std.proofs.Common.{[], ◌∷◌, ◌++◌, None, Some, refl, ◌∙◌}
use Rattle.std.proofs.lemmas.Fn.{FoldsTo-push}
use Rattle.dcc_rounds.specs.Lanes.{all_put}
use Rattle.dcc_rounds.specs.Timing.{AsksAll}
use Rattle.dcc_rounds.proofs.Watching.{none_marked}
use Rattle.dcc_rounds.proofs.timer.SweepTimer.ask_on_time.Goals as goal

pub loop-preserved-in-Sweep : goal.loop-preserved-in-Sweep
loop-preserved-in-Sweep g c =
    let was = c.loop.invariant in (
      (
        was.0.0 ++ Some c.moment.result ∷ [],
        FoldsTo-push (AsksAll g.C.Clock.tells) (all_put c.args.self.now.workers.items, c.args.clock.now) was.0.0 (all_put c.loop.self.workers.items, c.loop.clock)
            (Some c.moment.result) (all_put c.ask_all_to_sweep.new.workers.items, c.moment.new.self) was.0.1 (c.moment.ensures, c.ask_all_to_sweep.ensures.put),
        c.ask_all_to_sweep.ensures.lanes ∙ was.0.2,
      ),
      was.1,
      c.tell_stopped.ensures.told,
    )

pub loop-preserved : goal.loop-preserved
loop-preserved g c =
    let was = c.loop.invariant in (
      (
        was.0.0 ++ None ∷ [],
        FoldsTo-push (AsksAll g.C.Clock.tells) (all_put c.args.self.now.workers.items, c.args.clock.now) was.0.0 (all_put c.loop.self.workers.items, c.loop.clock)
            None (all_put c.ask_all_to_audit.new.workers.items, c.loop.clock) was.0.1 (refl, c.ask_all_to_audit.ensures.put),
        c.ask_all_to_audit.ensures.lanes ∙ was.0.2,
      ),
      was.1,
      c.tell_stopped.ensures.told,
    )

pub loop-init : goal.loop-init
loop-init g c = (([], refl, refl), refl, none_marked g.N.Notices.has_told 0)

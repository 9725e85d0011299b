use Rattle.std.proofs.Common.{◌≡◌, true≢false, [], refl, sym, ap, ◌∙◌}
use Rattle.dcc_rounds.specs.Lanes.{all_put, lanes_of, put_all}
use Rattle.dcc_rounds.specs.declared.timer.SweepTimer.{SweepTimer}
use Rattle.dcc_rounds.specs.declared.work.Work.TheVariants as work
use Rattle.dcc_rounds.proofs.Timings.{times_of}
use Rattle.dcc_rounds.proofs.timer.SweepTimer.run.Goals as goal
use Rattle.dcc_rounds.proofs.timer.SweepTimer.run.Goals.{else-self, then-self}

pub returns-clause-timed : goal.returns-clause-timed
returns-clause-timed g c =
    let old = c.args.self.now in
    let new : SweepTimer = record { stays = c.if-self.self.stays; workers = c.leave_all.new.workers } in
    let clock = c.args.shared.now.clock.now in
    elim c.if-self.branch [
      | then-self w ↦ (let mid = w.ask_on_time.new.self in
          let asks = w.ask_on_time.ensures.asked in
          times_of g.C.Clock.tells g.L.Listener.is_closed clock w.ask_on_time.new.clock old mid new asks.0 asks.1 asks.2
          (λ out. absurd (true≢false (sym w.if-self.true ∙ out))) (λ on. w.ask_on_time.ensures.closed)
          (c.leave_all.ensures.put ∙ ap (λ (t : SweepTimer). put_all work.Over (all_put t.workers.items)) w.self-is)
          (c.leave_all.ensures.lanes ∙ ap (λ (t : SweepTimer). lanes_of t.workers.items) w.self-is))
      | else-self w ↦ times_of g.C.Clock.tells g.L.Listener.is_closed clock clock old old new [] refl refl (λ out. refl)
          (λ on. absurd (true≢false (sym on ∙ w.if-self.false)))
          (c.leave_all.ensures.put ∙ ap (λ (t : SweepTimer). put_all work.Over (all_put t.workers.items)) w.self-is)
          (c.leave_all.ensures.lanes ∙ ap (λ (t : SweepTimer). lanes_of t.workers.items) w.self-is)
    ]

pub returns-clause-watched : goal.returns-clause-watched
returns-clause-watched g c on = elim c.if-self.branch [
  | then-self w ↦ w.ask_on_time.ensures.watched
  | else-self w ↦ absurd (true≢false (sym on ∙ w.if-self.false))
]

use Rattle.std.proofs.Common.{ℕ, refl, sym, subst, arith}
use Rattle.dcc_rounds.specs.Tasks.{Runs}
use Rattle.dcc_rounds.specs.declared.tasks.Task.{Task}
use Rattle.dcc_rounds.specs.declared.tasks.Task.TheVariants as task
use Rattle.dcc_rounds.proofs.tasks.Task.run.Goals as goal

pub returns-then-worker-shared : goal.returns-then-worker-shared
returns-then-worker-shared g c =
    let shared = c.args.shared.now in
    subst
    (λ (old : Task g.row.I.Denot g.row.O.Denot). Runs g.I.Read.remaining g.O.Write.contents g.C.Clock.tells g.L.Listener.is_closed g.L.Listener.attends shared.clock.now
    (record { plan = shared.plan.now; identity = shared.identity.now }) g.J.Naming.opening shared.count old (task.Work c.run.new.self))
    (sym c.in-Work.is) (c.run.new.self, refl, λ there. c.run.ensures, λ past. absurd (omega (arith, past, c.if-worker-shared.true)))

pub returns-else-worker-shared : goal.returns-else-worker-shared
returns-else-worker-shared g c =
    let shared = c.args.shared.now in
    subst
    (λ (old : Task g.row.I.Denot g.row.O.Denot). Runs g.I.Read.remaining g.O.Write.contents g.C.Clock.tells g.L.Listener.is_closed g.L.Listener.attends shared.clock.now
    (record { plan = shared.plan.now; identity = shared.identity.now }) g.J.Naming.opening shared.count old (task.Work c.in-Work.worker))
    (sym c.in-Work.is) (c.in-Work.worker, refl, λ there. absurd (omega (arith, there, c.if-worker-shared.false)), λ past. refl)

pub returns-in-Time : goal.returns-in-Time
returns-in-Time g c =
    let shared = c.args.shared.now in
    subst
    (λ (old : Task g.row.I.Denot g.row.O.Denot). Runs g.I.Read.remaining g.O.Write.contents g.C.Clock.tells g.L.Listener.is_closed g.L.Listener.attends shared.clock.now
    (record { plan = shared.plan.now; identity = shared.identity.now }) g.J.Naming.opening shared.count old (task.Time c.run-in-Time.new.self))
    (sym c.in-Time.is) (c.run-in-Time.new.self, refl, c.run-in-Time.ensures.timed)

pub returns-in-Place : goal.returns-in-Place
returns-in-Place g c =
    let shared = c.args.shared.now in
    subst
    (λ (old : Task g.row.I.Denot g.row.O.Denot). Runs g.I.Read.remaining g.O.Write.contents g.C.Clock.tells g.L.Listener.is_closed g.L.Listener.attends shared.clock.now
    (record { plan = shared.plan.now; identity = shared.identity.now }) g.J.Naming.opening shared.count old (task.Place c.run-in-Place.new.self))
    (sym c.in-Place.is) (c.run-in-Place.new.self, refl, c.run-in-Place.ensures)

pub returns-in-Attend : goal.returns-in-Attend
returns-in-Attend g c =
    let shared = c.args.shared.now in
    subst
    (λ (old : Task g.row.I.Denot g.row.O.Denot). Runs g.I.Read.remaining g.O.Write.contents g.C.Clock.tells g.L.Listener.is_closed g.L.Listener.attends shared.clock.now
    (record { plan = shared.plan.now; identity = shared.identity.now }) g.J.Naming.opening shared.count old (task.Attend c.run-in-Attend.new.self))
    (sym c.in-Attend.is) (c.run-in-Attend.new.self, refl, c.run-in-Attend.ensures)

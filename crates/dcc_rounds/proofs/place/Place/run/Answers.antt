use Rattle.std.proofs.Common.{◌≡◌, [], ◌∷◌, ◌++◌, refl}
use Rattle.dcc_lane.specs.Ends.{put_of}
use Rattle.dcc_rounds.specs.Handing.{IsSameReader, reading_of}
use Rattle.dcc_rounds.specs.Visiting.{Leaves}
use Rattle.dcc_rounds.specs.declared.reader.Reader.{Reader}
use Rattle.dcc_rounds.proofs.Placing.{serves_all, so_far_none, visit_more}
use Rattle.dcc_rounds.proofs.place.Place.run.Goals as goal

pub loop-init : goal.loop-init
loop-init g c = ([], so_far_none _ _ _ _ _ _ _ c.args.self.now)

pub loop-preserved : goal.loop-preserved
loop-preserved g c =
    let was = c.loop.invariant in
    let e = c.in-Some-next.ensures in
    let v = c.visit.ensures.visit in (
      was.0 ++ v.0 ∷ [],
      visit_more _ _ _ _ _ _ _ c.args.self.now was.0 c.loop.self c.next-in-loop.new.self c.in-Some-next.connection v.0 c.visit.new.self was.1 e.reader e.from e.answers
          e.stays e.taken e.first e.once v.1 v.2 c.visit.ensures.first c.visit.ensures.stays,
    )

pub returns-in_default : goal.returns-in_default
returns-in_default g c =
    let was = c.loop.invariant in
    let e = c.in_default.ensures in
    let mid = c.next-in-loop.new.self in
    let left : Reader = record mid.reader { workers = c.leave_all.new.workers } in
    let leaves : Leaves mid.reader left = (
      (λ i. record { asked = c.leave_all.ensures.put i; replied = put_of mid.reader.writer; requests = mid.reader.requests; sweeps = mid.reader.sweeps }),
      record { gate = refl; workers = c.leave_all.ensures.lanes; writer = refl },
    ) in
    serves_all _ _ _ _ _ _ _ c.args.self.now was.0 c.loop.self mid _ was.1 e.reader e.from e.answers e.first (λ none on. e.closed none on) leaves refl refl

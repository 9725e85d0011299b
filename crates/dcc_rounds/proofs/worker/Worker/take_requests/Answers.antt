use Rattle.std.proofs.Common.{◌≡◌, ◌∙◌, List, [], ◌∷◌, ◌++◌, refl, sym, ap}
use Rattle.dcc_connect.specs.Writing.{items_of}
use Rattle.dcc_lane.specs.Ends.{taken_of}
use Rattle.dcc_rounds.specs.Lanes.{all_put}
use Rattle.dcc_rounds.specs.declared.work.Request.{Request}
use Rattle.dcc_rounds.specs.declared.work.Work.TheVariants as work
use Rattle.dcc_rounds.specs.inner.Batches.{works_of}
use Rattle.dcc_rounds.proofs.Doings.{taken_one}
use Rattle.dcc_rounds.proofs.worker.Worker.take_requests.Goals as goal

pub returns-in_default : goal.returns-in_default
returns-in_default g c = record {
  taken = record {
    requests = [];
    taken = taken_one c.args.self.now.from c.next.new.from c.in_ok-work.work c.in_ok-work.work c.in_ok-work.ensures.taken refl;
    answered = refl;
    counter = refl;
    same = c.next.ensures.same;
    lanes = refl;
    shard = refl;
  };
  empty = c.requires;
}

pub returns-in_default-reserve-clause-taken : goal.returns-in_default-reserve-clause-taken
returns-in_default-reserve-clause-taken g c = record {
  requests = c.in-Request.request ∷ [];
  taken = taken_one c.args.self.now.from c.next.new.from c.in_ok-work.work (work.Request c.in-Request.request) c.in_ok-work.ensures.taken c.in-Request.is;
  answered = ((c.answer.new.seat, all_put c.answer.new.writers.items), c.answer.ensures.answered, refl);
  counter = refl;
  same = c.next.ensures.same;
  lanes = c.answer.ensures.lanes;
  shard = refl;
}

pub returns-then-is_long-clause-taken : goal.returns-then-is_long-clause-taken
returns-then-is_long-clause-taken g c =
    let old = c.args.self.now.from in
    let request = c.in-Request.request in
    let first = taken_one old c.next.new.from c.in_ok-work.work (work.Request request) c.in_ok-work.ensures.taken c.in-Request.is in
    let one : c.push_reserved.new.self.items ≡ request ∷ [] = c.push_reserved.ensures.items ∙ ap (λ (rs : List Request). rs ++ request ∷ []) (c.reserve.ensures.items ∙ c.requires) in
    let all = c.gather-behind.ensures.taken (items_of (taken_of old)) (first ∙ ap (λ (rs : List Request). items_of (taken_of old) ++ works_of rs) (sym one)) in
    record {
      requests = c.gather-behind.new.batch.items;
      taken = ap items_of c.ring.ensures.taken ∙ all;
      answered = c.answer_batch.ensures.answered;
      counter = refl;
      same = (c.ring.ensures.same.0 ∙ c.gather-behind.ensures.same.0 ∙ c.next.ensures.same.0, c.ring.ensures.same.1 ∙ c.gather-behind.ensures.same.1 ∙ c.next.ensures.same.1);
      lanes = c.answer_batch.ensures.lanes;
      shard = refl;
    }

pub returns-else-is_long-clause-taken : goal.returns-else-is_long-clause-taken
returns-else-is_long-clause-taken g c =
    let old = c.args.self.now.from in
    let request = c.in-Request.request in
    let first = taken_one old c.next.new.from c.in_ok-work.work (work.Request request) c.in_ok-work.ensures.taken c.in-Request.is in
    let one : c.push_reserved.new.self.items ≡ request ∷ [] = c.push_reserved.ensures.items ∙ ap (λ (rs : List Request). rs ++ request ∷ []) (c.reserve.ensures.items ∙ c.requires) in
    let all = c.gather-behind.ensures.taken (items_of (taken_of old)) (first ∙ ap (λ (rs : List Request). items_of (taken_of old) ++ works_of rs) (sym one)) in
    record {
      requests = c.gather-behind.new.batch.items;
      taken = all;
      answered = c.answer_batch.ensures.answered;
      counter = refl;
      same = (c.gather-behind.ensures.same.0 ∙ c.next.ensures.same.0, c.gather-behind.ensures.same.1 ∙ c.next.ensures.same.1);
      lanes = c.answer_batch.ensures.lanes;
      shard = refl;
    }

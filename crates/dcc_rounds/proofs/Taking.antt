-- A batch is steps of a worker, one after another.
use Rattle.std.proofs.Common.{◌≡◌, ℕ, List, [], ◌∷◌, ◌++◌, Option, Some, None, map, length, refl, sym, ap, subst, ◌∙◌, append-nil, arith}
use Rattle.std.specs.List.{FoldsTo}
use Rattle.std.specs.Prelude.{count_by}
use Rattle.dcc_connect.specs.Writing.{items_of}
use Rattle.dcc_connect.specs.declared.writing.Item.{Item}
use Rattle.dcc_lane.specs.Ends.{IsSameReceiver, taken_of}
use Rattle.dcc_lane.specs.declared.receiver.Receiver.{Receiver}
use Rattle.dcc_receipts.specs.declared.receipt.Receipt.{Receipt}
use Rattle.dcc_store.specs.Books.{Held}
use Rattle.dcc_rounds.specs.Lanes.{all_put, lanes_of}
use Rattle.dcc_rounds.specs.Working.{CountsFor, DoesCounted, DoesItem, Doing, Goes, IsCounted, doing_of, is_over, works_in}
use Rattle.dcc_rounds.specs.declared.counter.CallCounter.{CallCounter}
use Rattle.dcc_rounds.specs.declared.rest.Rest.{Rest}
use Rattle.dcc_rounds.specs.declared.work.Request.{Request}
use Rattle.dcc_rounds.specs.declared.work.Work.{Work}
use Rattle.dcc_rounds.specs.declared.work.Work.TheVariants as work
use Rattle.dcc_rounds.specs.declared.worker.Worker.{Worker}
use Rattle.dcc_rounds.specs.inner.Batches.{AnswersEach, AnswersTaken, Told, works_of}
use Rattle.dcc_rounds.proofs.Doings.{folds_both, left_counted}

abbrev pub steps_of : List Request → List (Option Work)
steps_of requests = map (λ (request : Request). Some (work.Request request)) requests

works_of_steps : (requests : List Request) (others : List (Option Work)) → works_in (steps_of requests ++ others) ≡ works_of requests ++ works_in others
works_of_steps [] others = refl
works_of_steps (request ∷ requests) others = ap (λ works. work.Request request ∷ works) (works_of_steps requests others)

none_over : (requests : List Request) (works : List Work) → count_by is_over (works_of requests ++ works) ≡ count_by is_over works
none_over [] works = refl
none_over (request ∷ requests) works = let rest = none_over requests works in omega (arith, rest)

-- these requests are steps, and the sweep stays
batch_done : (opening : Held) (shard : ℕ) (requests : List Request) (old : Doing) (new : Told) → old.counter.left ≡ length old.left → AnswersEach requests (old.told, old.put) new
    → FoldsTo (DoesCounted opening shard) old (steps_of requests) (record old { told = new.0; put = new.1 })
batch_done opening shard [] old new counted h = ap (λ (both : Told). record old { told = both.0; put = both.1 }) h
batch_done opening shard (request ∷ requests) old new counted h =
    let mid = record old { told = h.0.0; put = h.0.1 } in
    (mid, ((h.1, (refl, refl)), ((refl, refl, refl), refl), counted), batch_done opening shard requests mid new counted h.2)

answered_steps : (opening : Held) (w v : Worker) (rest : Rest) (behind : Option Work) (h : AnswersTaken w v behind) → IsCounted w.counter rest
    → FoldsTo (DoesCounted opening w.shard) (doing_of w rest) (steps_of h.requests) (doing_of v rest)
answered_steps opening w v rest behind h counted =
    let end = λ (counter : CallCounter). record (doing_of w rest) { told = v.seat; put = all_put v.writers.items; counter = counter } in
    subst (λ (counter : CallCounter). FoldsTo (DoesCounted opening w.shard) (doing_of w rest) (steps_of h.requests) (end counter)) (sym h.counter)
    (batch_done opening w.shard h.requests (doing_of w rest) (v.seat, all_put v.writers.items) (left_counted w.counter rest counted) h.answered)

-- requests were taken and answered, and no item behind them was taken
pub taken_goes : (opening : Held) (w v : Worker) (rest : Rest) → AnswersTaken w v None → IsCounted w.counter rest → Goes opening w v rest rest 0
taken_goes opening w v rest h counted =
    let steps = steps_of h.requests in
    let works : works_in steps ≡ works_of h.requests ++ [] = ap works_in (sym (append-nil steps)) ∙ works_of_steps h.requests [] in
    record {
      steps = steps;
      taken = h.taken ∙ ap (λ works. items_of (taken_of w.from) ++ works) (sym works);
      done = answered_steps opening w v rest None h counted;
      ended_are = ap (count_by is_over) works ∙ none_over h.requests [];
      same = h.same;
      lanes = h.lanes;
      shard = h.shard;
    }

-- the same, and the item behind them is done
pub taken_then : (opening : Held) (w v u : Worker) (rest last : Rest) (one : Work) (n : ℕ) → AnswersTaken w v (Some one) → IsCounted w.counter rest
    → DoesItem (doing_of v rest) one (doing_of u last) → CountsFor v.shard v.counter (Some one) u.counter → IsCounted u.counter last → count_by is_over (one ∷ []) ≡ n
    → u.from ≡ v.from → lanes_of u.writers.items ≡ lanes_of v.writers.items → u.shard ≡ v.shard → Goes opening w u rest last n
taken_then opening w v u rest last one n h counted does counts left overs from lanes shard =
    let steps = steps_of h.requests in
    let works = works_of_steps h.requests (Some one ∷ []) in
    let here : CountsFor w.shard v.counter (Some one) u.counter = subst (λ (k : ℕ). CountsFor k v.counter (Some one) u.counter) h.shard counts in
    record {
      steps = steps ++ Some one ∷ [];
      taken = ap (λ (r : Receiver Work). items_of (taken_of r)) from ∙ h.taken ∙ ap (λ works. items_of (taken_of w.from) ++ works) (sym works);
      done = folds_both (DoesCounted opening w.shard) (doing_of w rest) steps (doing_of v rest) (Some one ∷ []) (doing_of u last) (answered_steps opening w v rest (Some one) h counted)
          (doing_of u last, (does, here, left_counted u.counter last left), refl);
      ended_are = ap (count_by is_over) works ∙ none_over h.requests (one ∷ []) ∙ overs;
      same = subst (λ (r : Receiver Work). IsSameReceiver w.from r) (sym from) h.same;
      lanes = lanes ∙ h.lanes;
      shard = shard ∙ h.shard;
    }

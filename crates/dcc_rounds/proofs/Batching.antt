-- Batches of requests: which may stand together, and what their answers leave.
use Rattle.std.proofs.Common.{◌≡◌, ◌≢◌, ℕ, ◌<◌, suc, ◌==◌, Bool, true, false, not, ◌&&◌, ◌||◌, List, [], ◌∷◌, ◌++◌, Option, Some, None, map, length, get_or, reverse, refl, sym, ap, subst, ◌∙◌, append_assoc, append-nil, inl, inr, arith}
use Rattle.std.proofs.lemmas.Bool.{and_from, and_parts, cases_Bool, eq-eqb, false≢true, not-true, true≢false}
use Rattle.std.proofs.lemmas.List.Folds.{list_all-append, list_any-append}
use Rattle.std.specs.List.{FoldsTo, list_all, list_any}
use Rattle.dcc_act.specs.Subs.{SameAreEqual, same_sub}
use Rattle.dcc_act.specs.declared.sub.Sub.{Sub}
use Rattle.dcc_connect.specs.Writing.{items_of}
use Rattle.dcc_connect.specs.declared.writing.Item.{Item}
use Rattle.dcc_lane.specs.Ends.{taken_of}
use Rattle.dcc_lane.specs.declared.receiver.Receiver.{Receiver}
use Rattle.dcc_receipts.specs.declared.receipt.Receipt.{Receipt}
use Rattle.dcc_running.specs.Batches.{AreAnswersTo, all_receipts_of, are_of_one_shard, sub_of_job}
use Rattle.dcc_running.specs.Calls.{receipts_of}
use Rattle.dcc_running.specs.declared.job.Job.{Job}
use Rattle.dcc_shard.specs.Routes.{shard_of}
use Rattle.dcc_shard.specs.Shards.{are_apart, is_among}
use Rattle.dcc_shard.specs.declared.answers.RequestAnswer.{RequestAnswer}
use Rattle.dcc_rounds.specs.Working.{Answers, octets_in, put_answer, works_in}
use Rattle.dcc_rounds.specs.declared.work.Request.{Request}
use Rattle.dcc_rounds.specs.declared.work.Work.{Work}
use Rattle.dcc_rounds.specs.inner.Batches.{AnswersEach, AreAnswered, IsGathered, Told, gate_of, job_of, may_join, put_answers, sub_of_request, works_of}

pub any_sub : (sub : Sub) (requests : List Request) → list_any (λ (request : Request). same_sub request.job.sub sub) requests ≡ is_among sub (map sub_of_request requests)
any_sub sub [] = refl
any_sub sub (request ∷ requests) = ap (λ (rest : Bool). same_sub request.job.sub sub || rest) (any_sub sub requests)

or_false : (a b : Bool) → (a || b) ≡ false → (a ≡ false) × (b ≡ false)
or_false true b h = absurd (true≢false h)
or_false false b h = (refl, h)

flipped : SameAreEqual → (a b : Sub) → same_sub a b ≡ false → same_sub b a ≡ false
flipped law a b h = elim (cases_Bool (same_sub b a)) [ inl t ↦ absurd (false≢true (sym h ∙ (law a b).1 (sym ((law b a).0 t)))) | inr f ↦ f ]

apart_push : SameAreEqual → (subs : List Sub) (sub : Sub) → are_apart subs ≡ true → is_among sub subs ≡ false → are_apart (subs ++ sub ∷ []) ≡ true
apart_push law [] sub apart none = refl
apart_push law (one ∷ subs) sub apart none =
    let both = and_parts (not (is_among one subs)) (are_apart subs) apart in
    let others = or_false (same_sub one sub) (is_among sub subs) none in
    let among : is_among one (subs ++ sub ∷ []) ≡ false =
    list_any-append (λ (other : Sub). same_sub other one) subs (sub ∷ []) ∙ ap (λ b. b || (same_sub sub one || false)) (not-true (is_among one subs) both.0)
    ∙ ap (λ b. b || false) (flipped law one sub others.0) in
    and_from (not (is_among one (subs ++ sub ∷ []))) (are_apart (subs ++ sub ∷ [])) (ap not among) (apart_push law subs sub both.1 others.1)

-- one more subscriber that may join a batch
pub joined : SameAreEqual → (count : ℕ) (subs : List Sub) (sub : Sub) → (are_apart subs ≡ true) × (are_of_one_shard count subs ≡ true) → may_join count subs sub ≡ true
    → (are_apart (subs ++ sub ∷ []) ≡ true) × (are_of_one_shard count (subs ++ sub ∷ []) ≡ true)
joined law count [] sub are may = (refl, refl)
joined law count (first ∷ subs) sub are may =
    let both = and_parts (shard_of sub count == shard_of first count) (not (is_among sub (first ∷ subs))) may in
    let keeps = λ (other : Sub). shard_of other count == shard_of first count in (
      apart_push law (first ∷ subs) sub are.0 (not-true (is_among sub (first ∷ subs)) both.1),
      list_all-append keeps subs (sub ∷ []) ∙ and_from (list_all keeps subs) (list_all keeps (sub ∷ [])) are.1 (and_from (keeps sub) true both.0 refl),
    )

pub subs_of_requests : (requests : List Request) → map sub_of_job (map job_of requests) ≡ map sub_of_request requests
subs_of_requests [] = refl
subs_of_requests (request ∷ requests) = ap (λ subs. request.job.sub ∷ subs) (subs_of_requests requests)

pub works_pushed : (requests : List Request) (request : Request) → works_of (requests ++ request ∷ []) ≡ works_of requests ++ works_of (request ∷ [])
works_pushed [] request = refl
works_pushed (one ∷ requests) request = ap (λ works. works_of (one ∷ []) ++ works) (works_pushed requests request)

-- one item more was taken, and is among the requests or behind them
pub gathered_on : (from mid new : Receiver Work) (requests mids news : List Request) (work : Work) (others : List Work) → IsGathered from requests mid mids []
    → items_of (taken_of new) ≡ items_of (taken_of mid) ++ work ∷ [] → works_of news ++ others ≡ works_of mids ++ work ∷ [] → IsGathered from requests new news others
gathered_on from mid new requests mids news work others was taken added before is =
    taken ∙ ap (λ items. items ++ work ∷ []) (was before is) ∙ append_assoc before (works_of mids ++ []) (work ∷ [])
    ∙ ap (λ works. before ++ (works ++ work ∷ [])) (append-nil (works_of mids)) ∙ ap (λ works. before ++ works) (sym added)

pub gathered_still : (from mid new : Receiver Work) (requests mids : List Request) → IsGathered from requests mid mids [] → taken_of new ≡ taken_of mid
    → IsGathered from requests new mids []
gathered_still from mid new requests mids was same before is = ap items_of same ∙ was before is

pub gathered_none : (from : Receiver Work) (requests : List Request) → IsGathered from requests from requests []
gathered_none from requests before is = is ∙ ap (λ works. before ++ works) (sym (append-nil (works_of requests)))

pub as_many_answers : (jobs : List Job) (answers : List RequestAnswer) → AreAnswersTo jobs answers → length answers ≡ length jobs
as_many_answers [] [] are = refl
as_many_answers [] (answer ∷ answers) are = absurd are
as_many_answers (job ∷ jobs) [] are = absurd are
as_many_answers (job ∷ jobs) (answer ∷ answers) are = ap (λ (n : ℕ). suc n) (as_many_answers jobs answers are.1)

-- the answers to the jobs of requests, put for the requests' gateways, are the answers to these requests, one after another
pub each_answered : (requests : List Request) (answers : List RequestAnswer) (told : List Receipt) (put : List (List Item)) → AreAnswersTo (map job_of requests) answers
    → AnswersEach requests (told, put) (told ++ all_receipts_of (map job_of requests) answers, put_answers (map gate_of requests) answers put)
each_answered [] [] told put are = ap (λ (receipts : List Receipt). let both : Told = (receipts, put) in both) (sym (append-nil told))
each_answered [] (answer ∷ answers) told put are = absurd are
each_answered (request ∷ requests) [] told put are = absurd are
each_answered (request ∷ requests) (answer ∷ answers) told put are =
    let here = receipts_of request.job answer in
    let rest = all_receipts_of (map job_of requests) answers in
    let then = put_answer request.gate (octets_in answer) put in (
      (told ++ here, then),
      (answer, are.0.0, are.0.1, refl, refl),
      subst (λ (receipts : List Receipt). AnswersEach requests (told ++ here, then) (receipts, put_answers (map gate_of requests) answers then)) (append_assoc told here rest)
          (each_answered requests answers (told ++ here) then are.1),
    )

pub answered_all : (requests : List Request) (gates : List ℕ) (jobs : List Job) (old new : Told) → gates ≡ map gate_of requests → jobs ≡ map job_of requests
    → AreAnswered gates jobs old new → AnswersEach requests old new
answered_all requests gates jobs old new gates_are jobs_are are =
    let answers = are.0 in
    let told : old.0 ++ all_receipts_of (map job_of requests) answers ≡ new.0 = ap (λ (js : List Job). old.0 ++ all_receipts_of js answers) (sym jobs_are) ∙ sym are.2 in
    let put : put_answers (map gate_of requests) answers old.1 ≡ new.1 = ap (λ (gs : List ℕ). put_answers gs answers old.1) (sym gates_are) ∙ sym are.3 in
    let both : Path Told (old.0 ++ all_receipts_of (map job_of requests) answers, put_answers (map gate_of requests) answers old.1) new = λ i. (told i, put i) in
    subst (λ (end : Told). AnswersEach requests old end) both
    (each_answered requests answers old.0 old.1 (subst (λ (js : List Job). AreAnswersTo js answers) jobs_are are.1))

-- whether a subscriber of the shard of the first may join
pub may_join_with : (count : ℕ) (batch : List Request) (first : Request) (sub : Sub) (among : Bool) → 0 < length batch → first ≡ get_or batch 0 first
    → shard_of sub count ≡ shard_of first.job.sub count → among ≡ list_any (λ (request : Request). same_sub request.job.sub sub) batch
    → not among ≡ may_join count (map sub_of_request batch) sub
may_join_with count [] first sub among some is same found = absurd (omega (arith, some))
may_join_with count (request ∷ batch) first sub among some is same found =
    let test : (shard_of sub count == shard_of request.job.sub count) ≡ true =
    eq-eqb (shard_of sub count) (shard_of request.job.sub count) (same ∙ ap (λ (one : Request). shard_of one.job.sub count) is) in
    ap not (found ∙ any_sub sub (request ∷ batch)) ∙ sym (ap (λ b. b && not (is_among sub (map sub_of_request (request ∷ batch)))) test)

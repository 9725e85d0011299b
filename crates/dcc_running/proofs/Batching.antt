-- The calls of a batch, their replies, and the receipts of these.
use Rattle.std.proofs.Common.{◌≡◌, ℕ, ◌<◌, zero, suc, true, ◌&&◌, ◌==◌, List, [], ◌∷◌, ◌++◌, map, length, take, get_or, refl, sym, ap, subst, ◌∙◌, append_assoc, append-nil, arith}
use Rattle.std.proofs.lemmas.Bool.{and_parts, eqb-true}
use Rattle.std.specs.List.{AllByRecursion, FoldsTo, list_all}
use Rattle.dcc_act.specs.declared.sub.Sub.{Sub}
use Rattle.dcc_receipts.specs.declared.receipt.Receipt.{Receipt}
use Rattle.dcc_running.specs.Batches.{AreAnswersOf, AreAnswersTo, EndsEach, EndsOne, all_receipts_of, are_of_one_shard, has_request, sub_of_job}
use Rattle.dcc_running.specs.Calls.{receipts_of}
use Rattle.dcc_running.specs.Tallies.{tally_with, tallied}
use Rattle.dcc_running.specs.declared.job.Job.{Job}
use Rattle.dcc_running.specs.declared.tally.Tally.{Tally}
use Rattle.dcc_running.specs.inner.Batches.{AreAnswered, AreEnded, AreKeptAt, all_end_receipts, call_of, end_of, end_receipts, reply_of}
use Rattle.dcc_shard.specs.Batches.{AreReplies, IsReplyBounded, IsReplyToldApart, has_request_act, sub_of}
use Rattle.dcc_shard.specs.Routes.{shard_of}
use Rattle.dcc_shard.specs.Shards.{ShardView}
use Rattle.dcc_shard.specs.declared.answers.RequestAnswer.{RequestAnswer}
use Rattle.dcc_shard.specs.declared.call.Call.{Call}
use Rattle.dcc_shard.specs.declared.call.Reply.{Reply}
use Rattle.dcc_shard.specs.declared.call.Reply.TheVariants as replies

pub subs_of_jobs : (jobs : List Job) → map sub_of (map call_of jobs) ≡ map sub_of_job jobs
subs_of_jobs [] = refl
subs_of_jobs (job ∷ jobs) = ap (λ subs. job.sub ∷ subs) (subs_of_jobs jobs)

pub subs_of_ends : (moment : ℕ) (subs : List Sub) → map sub_of (map (end_of moment) subs) ≡ subs
subs_of_ends moment [] = refl
subs_of_ends moment (sub ∷ subs) = ap (λ more. sub ∷ more) (subs_of_ends moment subs)

pub requests_of_jobs : (jobs : List Job) → list_all has_request_act (map call_of jobs) ≡ list_all has_request jobs
requests_of_jobs [] = refl
requests_of_jobs (job ∷ jobs) = ap (λ all. has_request job && all) (requests_of_jobs jobs)

pub requests_of_ends : (moment : ℕ) (subs : List Sub) → list_all has_request_act (map (end_of moment) subs) ≡ true
requests_of_ends moment [] = refl
requests_of_ends moment (sub ∷ subs) = requests_of_ends moment subs

kept_each : (count : ℕ) (one : Sub) (calls : List Call) → list_all (λ other. shard_of other count == shard_of one count) (map sub_of calls) ≡ true
    → AreKeptAt (record { index = shard_of one count; count = count }) calls
kept_each count one [] all = tt
kept_each count one (call ∷ calls) all =
    let both = and_parts (shard_of (sub_of call) count == shard_of one count) (list_all (λ other. shard_of other count == shard_of one count) (map sub_of calls)) all in
    (sym (eqb-true (shard_of (sub_of call) count) (shard_of one count) both.0), kept_each count one calls both.1)

-- the shard of the first subscriber keeps them all
pub kept_at : (count : ℕ) (one : Sub) (calls : List Call) → are_of_one_shard count (map sub_of calls) ≡ true → get_or (map sub_of calls) 0 one ≡ one
    → AreKeptAt (record { index = shard_of one count; count = count }) calls
kept_at count one [] all first = tt
kept_at count one (call ∷ calls) all first =
    subst (λ (sub : Sub). AreKeptAt (record { index = shard_of sub count; count = count }) (call ∷ calls)) first (refl, kept_each count (sub_of call) calls all)

pub kept_jobs : (count : ℕ) (one : Sub) (jobs : List Job) (calls : List Call) → calls ≡ map call_of jobs → are_of_one_shard count (map sub_of_job jobs) ≡ true
    → get_or (map sub_of_job jobs) 0 one ≡ one → AreKeptAt (record { index = shard_of one count; count = count }) calls
kept_jobs count one jobs calls is all first =
    let subs : map sub_of calls ≡ map sub_of_job jobs = ap (λ (cs : List Call). map sub_of cs) is ∙ subs_of_jobs jobs in
    kept_at count one calls (ap (are_of_one_shard count) subs ∙ all) (ap (λ (xs : List Sub). get_or xs 0 one) subs ∙ first)

pub kept_ends : (count moment : ℕ) (one : Sub) (ends : List Sub) (calls : List Call) → calls ≡ map (end_of moment) ends → are_of_one_shard count ends ≡ true
    → get_or ends 0 one ≡ one → AreKeptAt (record { index = shard_of one count; count = count }) calls
kept_ends count moment one ends calls is all first =
    let subs : map sub_of calls ≡ ends = ap (λ (cs : List Call). map sub_of cs) is ∙ subs_of_ends moment ends in
    kept_at count one calls (ap (are_of_one_shard count) subs ∙ all) (ap (λ (xs : List Sub). get_or xs 0 one) subs ∙ first)

pub all_answered : (shard : ShardView) (jobs : List Job) (rs : List Reply) → AreReplies shard (map call_of jobs) rs → AllByRecursion IsReplyBounded rs
    → AreAnswered jobs rs
all_answered shard [] [] are bounded = tt
all_answered shard [] (r ∷ rs) are bounded = absurd are
all_answered shard (job ∷ jobs) [] are bounded = absurd are
all_answered shard (job ∷ jobs) (replies.Request answer ∷ rs) are bounded = (bounded.0, all_answered shard jobs rs are.1 bounded.1)
all_answered shard (job ∷ jobs) (replies.TopUp answer ∷ rs) are bounded = absurd are.0
all_answered shard (job ∷ jobs) (replies.Expiry answer ∷ rs) are bounded = absurd are.0

pub all_answers : (shard : ShardView) (jobs : List Job) (answers : List RequestAnswer) → AreReplies shard (map call_of jobs) (map reply_of answers)
    → AllByRecursion IsReplyToldApart (map reply_of answers) → AreAnswersOf shard jobs answers
all_answers shard [] [] are apart = tt
all_answers shard [] (answer ∷ answers) are apart = absurd are
all_answers shard (job ∷ jobs) [] are apart = absurd are
all_answers shard (job ∷ jobs) (answer ∷ answers) are apart = ((are.0, apart.0), all_answers shard jobs answers are.1 apart.1)

pub of_some_shard : (shard : ShardView) (jobs : List Job) (answers : List RequestAnswer) → AreAnswersOf shard jobs answers → AreAnswersTo jobs answers
of_some_shard shard [] [] are = tt
of_some_shard shard [] (answer ∷ answers) are = absurd are
of_some_shard shard (job ∷ jobs) [] are = absurd are
of_some_shard shard (job ∷ jobs) (answer ∷ answers) are = (((shard, are.0.0), are.0.1), of_some_shard shard jobs answers are.1)

pub all_ended : (shard : ShardView) (moment : ℕ) (subs : List Sub) (rs : List Reply) → AreReplies shard (map (end_of moment) subs) rs → AreEnded subs rs
all_ended shard moment [] [] are = tt
all_ended shard moment [] (r ∷ rs) are = absurd are
all_ended shard moment (sub ∷ subs) [] are = absurd are
all_ended shard moment (sub ∷ subs) (replies.Request answer ∷ rs) are = absurd are.0
all_ended shard moment (sub ∷ subs) (replies.TopUp answer ∷ rs) are = absurd are.0
all_ended shard moment (sub ∷ subs) (replies.Expiry answer ∷ rs) are = (tt, all_ended shard moment subs rs are.1)

pub as_many_ended : (subs : List Sub) (rs : List Reply) → AreEnded subs rs → length rs ≡ length subs
as_many_ended [] [] are = refl
as_many_ended [] (r ∷ rs) are = absurd are
as_many_ended (sub ∷ subs) [] are = absurd are
as_many_ended (sub ∷ subs) (r ∷ rs) are = ap suc (as_many_ended subs rs are.1)

-- one more expiry's receipt
pub one_more_end : (moment : ℕ) (subs : List Sub) (rs : List Reply) (at : ℕ) (sub : Sub) (r : Reply) → at < length subs → at < length rs
    → sub ≡ get_or subs at sub → r ≡ get_or rs at r
    → all_end_receipts moment (take (suc at) subs) (take (suc at) rs) ≡ all_end_receipts moment (take at subs) (take at rs) ++ end_receipts moment sub r
one_more_end moment [] rs at sub r in_subs in_rs s e = absurd (omega (arith, in_subs))
one_more_end moment (one ∷ subs) [] at sub r in_subs in_rs s e = absurd (omega (arith, in_rs))
one_more_end moment (one ∷ subs) (first ∷ rs) zero sub r in_subs in_rs s e =
    let P = λ (x : Sub). end_receipts moment one first ++ [] ≡ end_receipts moment x r in
    subst P (sym s) (append-nil (end_receipts moment one first) ∙ ap (λ (y : Reply). end_receipts moment one y) (sym e))
one_more_end moment (one ∷ subs) (first ∷ rs) (suc at) sub r in_subs in_rs s e =
    ap (λ receipts. end_receipts moment one first ++ receipts) (one_more_end moment subs rs at sub r (omega (arith, in_subs)) (omega (arith, in_rs)) s e)
    ∙ sym (append_assoc (end_receipts moment one first) (all_end_receipts moment (take at subs) (take at rs)) (end_receipts moment sub r))

-- each subscriber's sessions end, by the replies of some shard
pub ends_each : (shard : ShardView) (moment : ℕ) (subs : List Sub) (rs : List Reply) (old : List Receipt) → AreReplies shard (map (end_of moment) subs) rs
    → EndsEach moment subs old (old ++ all_end_receipts moment subs rs)
ends_each shard moment [] [] old are = sym (append-nil old)
ends_each shard moment [] (r ∷ rs) old are = absurd are
ends_each shard moment (sub ∷ subs) [] old are = absurd are
ends_each shard moment (sub ∷ subs) (replies.Request answer ∷ rs) old are = absurd are.0
ends_each shard moment (sub ∷ subs) (replies.TopUp answer ∷ rs) old are = absurd are.0
ends_each shard moment (sub ∷ subs) (replies.Expiry answer ∷ rs) old are =
    let here = end_receipts moment sub (replies.Expiry answer) in (
      old ++ here,
      (answer, (shard, are.0), refl),
      subst (λ end. EndsEach moment subs (old ++ here) end) (append_assoc old here (all_end_receipts moment subs rs)) (ends_each shard moment subs rs (old ++ here) are.1),
    )

-- the same, and the replies are counted
pub counts_each : (shard : ShardView) (moment : ℕ) (subs : List Sub) (rs : List Reply) (old : List Receipt) (tally : Tally)
    → AreReplies shard (map (end_of moment) subs) rs
    → FoldsTo (EndsOne moment) (old, tally) subs (old ++ all_end_receipts moment subs rs, tallied tally rs)
counts_each shard moment [] [] old tally are = ap (λ receipts. (receipts, tally)) (sym (append-nil old))
counts_each shard moment [] (r ∷ rs) old tally are = absurd are
counts_each shard moment (sub ∷ subs) [] old tally are = absurd are
counts_each shard moment (sub ∷ subs) (replies.Request answer ∷ rs) old tally are = absurd are.0
counts_each shard moment (sub ∷ subs) (replies.TopUp answer ∷ rs) old tally are = absurd are.0
counts_each shard moment (sub ∷ subs) (replies.Expiry answer ∷ rs) old tally are =
    let here = end_receipts moment sub (replies.Expiry answer) in
    let more = tally_with tally answer in (
      (old ++ here, more),
      (answer, (shard, are.0), refl, refl),
      subst (λ end. FoldsTo (EndsOne moment) (old ++ here, more) subs (end, tallied more rs)) (append_assoc old here (all_end_receipts moment subs rs))
          (counts_each shard moment subs rs (old ++ here) more are.1),
    )

-- if expiries are counted, they are made
pub ends_of_counted : (moment : ℕ) (subs : List Sub) (old new : List Receipt × Tally) → FoldsTo (EndsOne moment) old subs new
    → EndsEach moment subs old.0 new.0
ends_of_counted moment [] old new same = ap (λ (state : List Receipt × Tally). state.0) same
ends_of_counted moment (sub ∷ subs) old new folds =
    let step = folds.1 in (folds.0.0, (step.0, step.1, step.2), ends_of_counted moment subs folds.0 new folds.2)

-- one more job's receipts, whatever follows
pub one_more_kept : (was now all : List Receipt) (job : Job) (jobs : List Job) (answer : RequestAnswer) (told : List RequestAnswer) (end : List RequestAnswer → List Receipt)
    → now ≡ was ++ receipts_of job answer
    → ((more : List RequestAnswer) → was ++ all_receipts_of (job ∷ jobs) more ≡ end (told ++ more))
    → (more : List RequestAnswer) → now ++ all_receipts_of jobs more ≡ end ((told ++ answer ∷ []) ++ more)
one_more_kept was now all job jobs answer told end is before more =
    ap (λ receipts. receipts ++ all_receipts_of jobs more) is ∙ append_assoc was (receipts_of job answer) (all_receipts_of jobs more) ∙ before (answer ∷ more)
    ∙ ap end (sym (append_assoc told (answer ∷ []) more))

pub none_kept : (jobs : List Job) → all_receipts_of jobs [] ≡ []
none_kept [] = refl
none_kept (job ∷ jobs) = refl

pub first_sub : (jobs : List Job) (one : Job) → one ≡ get_or jobs 0 one → get_or (map sub_of_job jobs) 0 one.sub ≡ one.sub
first_sub [] one is = refl
first_sub (job ∷ jobs) one is = ap sub_of_job (sym is)

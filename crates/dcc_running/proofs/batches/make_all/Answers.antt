use Rattle.std.proofs.Common.{◌∙◌, List, map, sym, ap, subst}
use Rattle.std.specs.List.{AllByRecursion, list_all}
use Rattle.dcc_running.specs.inner.Batches.{call_of}
use Rattle.dcc_shard.specs.Batches.{AreReplies, IsReplyToldApart, has_request_act, sub_of}
use Rattle.dcc_shard.specs.Shards.{are_apart}
use Rattle.dcc_shard.specs.declared.call.Call.{Call}
use Rattle.dcc_shard.specs.declared.call.Reply.{Reply}
use Rattle.dcc_running.proofs.Batching.{all_answered, all_answers, requests_of_jobs, subs_of_jobs}
use Rattle.dcc_running.proofs.batches.make_all.Goals as goal

pub step_all-requires-clause-apart : goal.step_all-requires-clause-apart
step_all-requires-clause-apart g c =
    ap (λ (calls : List Call). are_apart (map sub_of calls)) c.requires.calls ∙ ap are_apart (subs_of_jobs c.args.jobs.items) ∙ c.requires.apart

pub step_all-requires-clause-requests : goal.step_all-requires-clause-requests
step_all-requires-clause-requests g c =
    ap (λ (calls : List Call). list_all has_request_act calls) c.requires.calls ∙ requests_of_jobs c.args.jobs.items ∙ c.requires.requests

pub keep_all-requires-clause-replies : goal.keep_all-requires-clause-replies
keep_all-requires-clause-replies g c =
    let shard = c.args.shard.now.shard in
    let rs = c.step_all.new.replies.items in
    all_answered shard c.args.jobs.items rs (subst (λ (calls : List Call). AreReplies shard calls rs) c.requires.calls c.step_all.ensures.replies) c.step_all.ensures.bounded

pub returns-clause-answers : goal.returns-clause-answers
returns-clause-answers g c =
    let shard = c.args.shard.now.shard in
    let jobs = c.args.jobs.items in
    let rs = c.step_all.new.replies.items in
    let are = subst (λ (calls : List Call). AreReplies shard calls rs) c.requires.calls c.step_all.ensures.replies in
    let told = sym c.keep_all.ensures.answers in
    all_answers shard jobs c.keep_all.new.answers.items (subst (λ (replies : List Reply). AreReplies shard (map call_of jobs) replies) told are)
    (subst (λ (replies : List Reply). AllByRecursion IsReplyToldApart replies) told c.step_all.ensures.apart)

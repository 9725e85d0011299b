use Rattle.std.proofs.Common.{◌∙◌, List, map, sym, ap, subst}
use Rattle.std.specs.List.{list_all}
use Rattle.dcc_running.specs.inner.Batches.{AreEnded}
use Rattle.dcc_shard.specs.Batches.{AreReplies, has_request_act, sub_of}
use Rattle.dcc_shard.specs.Shards.{are_apart}
use Rattle.dcc_shard.specs.declared.call.Call.{Call}
use Rattle.dcc_shard.specs.declared.call.Reply.{Reply}
use Rattle.dcc_running.proofs.Batching.{all_ended, requests_of_ends, subs_of_ends}
use Rattle.dcc_running.proofs.batches.end_all.Goals as goal

pub step_all-requires-clause-apart : goal.step_all-requires-clause-apart
step_all-requires-clause-apart g c =
    ap (λ (calls : List Call). are_apart (map sub_of calls)) c.requires.calls ∙ ap are_apart (subs_of_ends c.args.moment c.args.subs.now) ∙ c.requires.apart

pub step_all-requires-clause-requests : goal.step_all-requires-clause-requests
step_all-requires-clause-requests g c =
    ap (λ (calls : List Call). list_all has_request_act calls) c.requires.calls ∙ requests_of_ends c.args.moment c.args.subs.now

pub keep_ends-requires-clause-replies : goal.keep_ends-requires-clause-replies
keep_ends-requires-clause-replies g c =
    let shard = c.args.shard.now.shard in
    let rs = c.step_all.new.replies.items in
    subst (λ (replies : List Reply). AreEnded c.args.subs.now replies) (sym c.as_slice.ensures.value)
    (all_ended shard c.args.moment c.args.subs.now rs (subst (λ (calls : List Call). AreReplies shard calls rs) c.requires.calls c.step_all.ensures.replies))

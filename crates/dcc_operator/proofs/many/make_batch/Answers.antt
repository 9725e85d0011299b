use Rattle.std.proofs.Common.{arith, ap, subst, ◌∙◌, map, List, refl}
use Rattle.std.specs.List.{AllZip, list_all}
use Rattle.dcc_shard.specs.Batches.{sub_of, has_request_act, IsReply, held_behind, is_judged_reply}
use Rattle.dcc_shard.specs.Shards.{held, are_apart}
use Rattle.dcc_shard.specs.declared.call.Call.{Call}
use Rattle.dcc_operator.specs.inner.Batches.{answers_in}
use Rattle.dcc_operator.proofs.Batches.{subs_are, none_asks, made_together, ending, as_replies}
use Rattle.dcc_operator.proofs.many.make_batch.Goals as goal

pub step_all-requires-clause-apart : goal.step_all-requires-clause-apart
step_all-requires-clause-apart g c = ap (λ calls. are_apart (map sub_of calls)) c.requires.calls ∙ (ap are_apart (subs_are c.args.asks.now) ∙ c.requires.apart)

pub step_all-requires-clause-requests : goal.step_all-requires-clause-requests
step_all-requires-clause-requests g c = ap (λ calls. list_all has_request_act calls) c.requires.calls ∙ none_asks c.args.asks.now

pub returns-clause-made : goal.returns-clause-made
returns-clause-made g c =
    let e = c.step_all.ensures in
    let old = c.args.shard.now.shard in
    let all = c.step_all.new.replies.items in
    let given = subst (λ (calls : List Call). AllZip (IsReply old) calls all) c.requires.calls e.replies in
    record {
      answers = answers_in all;
      added = c.add_answers.ensures.added;
      made = ending old.terms c.args.asks.now (answers_in all) (held old) _ (held c.step_all.new.self.shard)
          (λ sub. e.batch.acts sub ∙ ap (λ calls. held_behind old.terms calls (map is_judged_reply all) (held old) sub) c.requires.calls)
          (made_together c.same_subscribers_are_equal.ensures old (held old) c.args.asks.now all c.requires.apart (λ sub among. refl) given);
      terms = e.batch.terms;
      identity = e.batch.identity;
    }

pub add_answers-requires : goal.add_answers-requires
add_answers-requires g c =
    let given = subst (λ (calls : List Call). AllZip (IsReply c.args.shard.now.shard) calls c.step_all.new.replies.items) c.requires.calls c.step_all.ensures.replies in
    let many = as_replies c.args.shard.now.shard c.args.asks.now c.step_all.new.replies.items given in
    omega (arith, many, c.requires.room)

use Rattle.std.proofs.Common.{◌≡◌, ◌∙◌, List, get_or, map, ap, sym, subst}
use Rattle.dcc_running.specs.inner.Batches.{AreKeptAt, call_of}
use Rattle.dcc_running.specs.declared.job.Job.{Job}
use Rattle.dcc_shard.specs.Routes.{shard_of}
use Rattle.dcc_shard.specs.declared.call.Call.{Call}
use Rattle.dcc_running.proofs.Batching.{first_sub, kept_jobs, of_some_shard}
use Rattle.dcc_running.proofs.shards.Shards.submit_all.Goals as goal

pub lock_of_all-shard-requires : goal.lock_of_all-shard-requires
lock_of_all-shard-requires g c =
    let one = c.in-Some.first.now in
    let count = c.args.self.now.count in
    let first : one ≡ get_or c.args.jobs.items 0 one = c.in-Some.ensures.item.1 ∙ ap (λ (jobs : List Job). get_or jobs 0 one) c.deref.ensures.value in
    subst (λ (calls : List Call). AreKeptAt (record { index = shard_of one.sub count; count = count }) calls) (sym c.as_slice-2.ensures.value)
    (kept_jobs count one.sub c.args.jobs.items c.in-Ok.calls.items (c.in-Ok.ensures.calls ∙ ap (λ (jobs : List Job). map call_of jobs) c.as_slice.ensures.value) c.requires.shard (first_sub c.args.jobs.items one first))

pub returns-clause-answers : goal.returns-clause-answers
returns-clause-answers g c = of_some_shard c.deref_mut-2.result.now.shard c.args.jobs.items c.make_all.new.answers.items c.make_all.ensures.answers

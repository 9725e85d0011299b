use Rattle.std.proofs.Common.{◌≡◌, false, not, ℕ, List, length, rules, arith, refl, sym, ap, subst, ◌∙◌}
use Rattle.std.specs.List.{AllZip, AllByRecursion}
use Rattle.dcc_shard.specs.Shards.{ShardView, held_in}
use Rattle.dcc_shard.specs.declared.plan.Plan.{Plan}
use Rattle.dcc_shard.specs.inner.Plans.{IsPlan, IsInstead, IsStanding, AreMade, shard_of_books}
use Rattle.dcc_shard.proofs.Making.{planned_apart, idle_behind, made_by_steps, made_instead}
use Rattle.dcc_shard.proofs.Planning.{zip_length}
use Rattle.dcc_shard.proofs.Standing.{same_shard}
use Rattle.dcc_shard.proofs.batch.make_planned.Goals as goal

pub commit_all-requires-clause-standing : goal.commit_all-requires-clause-standing
commit_all-requires-clause-standing g c =
    let new = c.plan_all.new.kept in
    let all = c.plan_all.new.plans.items in
    let shard = shard_of_books c.args.identity.now c.args.kept.now.books in
    let many : c.len.result ≡ length c.args.calls.items = search rules in
    let number : c.len.result ≡ length all = many ∙ zip_length (IsPlan shard) c.args.calls.items all c.plan_all.ensures.plans in
    subst (λ (n : ℕ). AllByRecursion (IsStanding new.books new.openers n) all) number c.plan_all.ensures.standing

pub commit_all-requires-clause-accounts : goal.commit_all-requires-clause-accounts
commit_all-requires-clause-accounts g c =
    let shard = shard_of_books c.args.identity.now c.args.kept.now.books in
    let long = zip_length (IsPlan shard) c.args.calls.items c.plan_all.new.plans.items c.plan_all.ensures.plans in
    let room = c.plan_all.ensures.stays.room in
    let accounts = c.requires.accounts in
    omega (arith, long, room, accounts)

pub commit_all-requires-clause-apart : goal.commit_all-requires-clause-apart
commit_all-requires-clause-apart g c =
    planned_apart (shard_of_books c.args.identity.now c.args.kept.now.books) c.args.calls.items c.plan_all.new.plans.items c.plan_all.ensures.plans c.requires.apart

pub commit_all-requires-clause-room : goal.commit_all-requires-clause-room
commit_all-requires-clause-room g c =
    let shard = shard_of_books c.args.identity.now c.args.kept.now.books in
    let long = zip_length (IsPlan shard) c.args.calls.items c.plan_all.new.plans.items c.plan_all.ensures.plans in
    let room = c.requires.room in
    omega (arith, long, room)

pub refuse_plans-requires-clause-room : goal.refuse_plans-requires-clause-room
refuse_plans-requires-clause-room g c =
    let shard = shard_of_books c.args.identity.now c.args.kept.now.books in
    let long = zip_length (IsPlan shard) c.args.calls.items c.plan_all.new.plans.items c.plan_all.ensures.plans in
    let room = c.requires.room in
    let back = ap length c.in-Err.ensures.back in
    rw c.in-Err.ensures.untouched (omega (arith, long, room, back))

pub returns-in-Ok : goal.returns-in-Ok
returns-in-Ok g c =
    let identity = c.args.identity.now in
    let calls = c.args.calls.items in
    let all = c.plan_all.new.plans.items in
    let replies = c.commit_all.new.replies.items in
    let old = c.args.kept.now in
    let mid = c.plan_all.new.kept in
    let new = c.commit_all.new.self in
    let stays = c.plan_all.ensures.stays in
    let shard : ShardView = shard_of_books identity old.books in
    let mid_shard : ShardView = shard_of_books identity mid.books in
    let same : mid_shard ≡ shard = same_shard identity old mid stays in
    let planned = subst (λ (s : ShardView). AllZip (IsPlan s) calls all) (sym same) c.plan_all.ensures.plans in
    let going : g.R.Records.is_stopped mid.records ≡ false = ap (λ (r : g.row.R.Denot). g.R.Records.is_stopped r) stays.records ∙ c.requires.going in
    let made = made_by_steps mid_shard new.books calls all replies (g.R.Records.may_leave mid.records) (g.R.Records.may_leave new.records) (g.R.Records.is_stopped mid.records) (g.R.Records.is_stopped new.records)
    (g.R.Records.faults mid.records) (g.R.Records.faults new.records) planned c.in-Ok.ensures.replies c.in-Ok.ensures.held c.in-Ok.ensures.terms c.in-Ok.ensures.crash c.in-Ok.ensures.faults going c.in-Ok.ensures.going in
    let P : ShardView → Type 0 = λ s. AreMade s new.books calls replies (g.R.Records.may_leave mid.records) (g.R.Records.may_leave new.records) (g.R.Records.is_stopped mid.records) (g.R.Records.is_stopped new.records)
    (g.R.Records.faults mid.records) (g.R.Records.faults new.records) in
    let Q : g.row.R.Denot → Type 0 = λ r. AreMade shard new.books calls replies (g.R.Records.may_leave r) (g.R.Records.may_leave new.records) (g.R.Records.is_stopped r) (g.R.Records.is_stopped new.records)
    (g.R.Records.faults r) (g.R.Records.faults new.records) in
    subst Q stays.records (subst P same made)

pub returns-in-Err : goal.returns-in-Err
returns-in-Err g c =
    let identity = c.args.identity.now in
    let calls = c.args.calls.items in
    let all = c.plan_all.new.plans.items in
    let replies = c.refuse_plans.new.replies.items in
    let old = c.args.kept.now in
    let mid = c.plan_all.new.kept in
    let new = c.commit_all.new.self in
    let stays = c.plan_all.ensures.stays in
    let shard : ShardView = shard_of_books identity old.books in
    let mid_shard : ShardView = shard_of_books identity mid.books in
    let same : mid_shard ≡ shard = same_shard identity old mid stays in
    let planned = subst (λ (s : ShardView). AllZip (IsPlan s) calls all) (sym same) c.plan_all.ensures.plans in
    let going : g.R.Records.is_stopped mid.records ≡ false = ap (λ (r : g.row.R.Denot). g.R.Records.is_stopped r) stays.records ∙ c.requires.going in
    let stops : not c.is_stopped-going.result ≡ not (g.R.Records.is_stopped new.records) =
    ap not (c.is_stopped-going.ensures ∙ ap (λ (r : g.row.R.Denot). g.R.Records.is_stopped r) c.records.ensures) in
    let instead = subst (λ (ps : List Plan). AllZip (IsInstead identity (not c.is_stopped-going.result)) ps replies) c.in-Err.ensures.back c.refuse_plans.ensures in
    let idle_acts = idle_behind c.same_subscribers_are_equal.ensures c.one_more_act.ensures identity mid.books mid.openers c.len.result (not c.is_stopped-going.result) c.acts_are_kept.ensures.own calls all replies
    planned c.plan_all.ensures.standing instead (held_in mid.books.rows) (λ sub. refl) in
    let made = made_instead mid_shard new.books calls all c.in-Err.plans.items replies (g.R.Records.may_leave mid.records) (g.R.Records.may_leave new.records) (g.R.Records.is_stopped mid.records)
    (g.R.Records.is_stopped new.records) (g.R.Records.faults mid.records) (g.R.Records.faults new.records) (not c.is_stopped-going.result) planned c.in-Err.ensures.back c.refuse_plans.ensures stops idle_acts c.in-Err.ensures.err c.in-Err.ensures.terms
    c.in-Err.ensures.crash c.in-Err.ensures.faults going in
    let P : ShardView → Type 0 = λ s. AreMade s new.books calls replies (g.R.Records.may_leave mid.records) (g.R.Records.may_leave new.records) (g.R.Records.is_stopped mid.records) (g.R.Records.is_stopped new.records)
    (g.R.Records.faults mid.records) (g.R.Records.faults new.records) in
    let Q : g.row.R.Denot → Type 0 = λ r. AreMade shard new.books calls replies (g.R.Records.may_leave r) (g.R.Records.may_leave new.records) (g.R.Records.is_stopped r) (g.R.Records.is_stopped new.records)
    (g.R.Records.faults r) (g.R.Records.faults new.records) in
    subst Q stays.records (subst P same made)

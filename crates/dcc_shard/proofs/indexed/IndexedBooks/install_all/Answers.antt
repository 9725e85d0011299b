use Rattle.std.proofs.Common.{◌≡◌, ℕ, true, List, ◌∷◌, [], ◌++◌, ◌+◌, ◌≤◌, length, rules, arith, sym, ap, subst, ◌∙◌}
use Rattle.std.specs.Prelude.{map}
use Rattle.std.specs.List.{AllByRecursion}
use Rattle.std.specs.Vec.Iter.{into_iter_items}
use Rattle.dcc_shard.specs.Shards.{are_apart}
use Rattle.dcc_shard.specs.declared.plan.Plan.{Plan}
use Rattle.dcc_shard.specs.declared.call.Reply.{Reply}
use Rattle.dcc_shard.specs.Shards.{held_in}
use Rattle.dcc_shard.specs.Stored.{held_then_all}
use Rattle.dcc_shard.specs.inner.Plans.{IsStanding, steps_in, subs_in, reply_in}
use Rattle.dcc_shard.proofs.Planning.{taken}
use Rattle.dcc_shard.proofs.Standing.{standing_next, standing_one, apart_next, held_next}
use Rattle.dcc_shard.proofs.indexed.IndexedBooks.install_all.Goals as goal

pub install_next-requires : goal.install_next-requires
install_next-requires c =
    let steps : into_iter_items c.loop-plan.plan-iterator ≡ c.in-Some.plan ∷ into_iter_items c.next.new.self = c.in-Some.ensures.steps.0 in
    let books = c.loop-plan.self.books in
    let openers = c.loop-plan.self.openers in
    let P : List Plan → Type 0 = λ left. AllByRecursion (IsStanding books openers (length left)) left in
    standing_one books openers (length (c.in-Some.plan ∷ into_iter_items c.next.new.self)) c.in-Some.plan (omega arith) (subst P steps c.loop-plan.invariant.standing).0

pub loop-plan-preserved : goal.loop-plan-preserved
loop-plan-preserved c =
    let plan = c.in-Some.plan in
    let next = into_iter_items c.next.new.self in
    let steps : into_iter_items c.loop-plan.plan-iterator ≡ plan ∷ next = c.in-Some.ensures.steps.0 in
    let it = c.loop-plan.invariant in
    let old = c.loop-plan.self in
    let new = c.install_next.new.self in
    let e = c.install_next.ensures in
    let terms = c.args.self.now.books.terms in
    let P : List Plan → Type 0 = λ left. AllByRecursion (IsStanding old.books old.openers (length left)) left in
    let Q : ℕ → Type 0 = λ n. AllByRecursion (IsStanding old.books old.openers n) next in
    let longer : length (plan ∷ next) ≡ length next + 1 = omega arith in
    let accounts : length next + 1 ≤ old.books.room = (let was = it.accounts in let short = ap length steps in omega (arith, was, short)) in
    let apart : are_apart (subs_in (plan ∷ next)) ≡ true = ap (λ (left : List Plan). are_apart (subs_in left)) (sym steps) ∙ it.apart in
    record {
      standing = standing_next c.same_subscribers_are_equal.ensures old.books new.books old.openers new.openers plan next e.others e.terms e.room e.openers accounts apart
          (subst Q longer (subst P steps it.standing).1);
      accounts = (let less = e.room in omega (arith, less, accounts));
      apart = apart_next plan next apart;
      room = search rules;
      replies = ap (λ (all : List Reply). all ++ map reply_in next) (c.push_reserved.ensures.items ∙ ap (λ (r : Reply). c.loop-plan.replies.items ++ r ∷ []) e.reply)
          ∙ taken c.loop-plan.replies.items (map reply_in (into_iter_items c.loop-plan.plan-iterator)) (map reply_in next) (map reply_in c.args.plans.items) (reply_in plan) it.replies (ap (map reply_in) steps);
      held = λ sub. held_next terms old.books new.books plan next it.terms e.held sub ∙ ap (λ (left : List Plan). held_then_all terms (steps_in left) (held_in old.books.rows) sub) (sym steps) ∙ it.held sub;
      terms = e.terms ∙ it.terms;
    }

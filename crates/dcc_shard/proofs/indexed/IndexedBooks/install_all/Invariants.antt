use Rattle.std.proofs.Common.{◌≡◌, true, ◌+◌, ◌≤◌, ◌++◌, length, vec_capacity}
use Rattle.std.specs.Prelude.{map}
use Rattle.std.specs.Vec.Iter.{into_iter_items}
use Rattle.std.specs.List.{AllByRecursion}
use Rattle.dcc_act.specs.declared.sub.Sub.{Sub}
use Rattle.dcc_shard.specs.Shards.{held_in, are_apart}
use Rattle.dcc_shard.specs.Stored.{held_then_all}
use Rattle.dcc_shard.specs.inner.Plans.{IsStanding, steps_in, subs_in, reply_in}
use Rattle.dcc_shard.proofs.indexed.IndexedBooks.install_all.Given as goal

abbrev pub invariant-loop-plan : goal.invariant-loop-plan
invariant-loop-plan l =
    let left = into_iter_items l.plan-iterator in
    record {
      standing : AllByRecursion (IsStanding l.self.books l.self.openers (length left)) left;
      accounts : length left ≤ l.self.books.room;
      apart : are_apart (subs_in left) ≡ true;
      room : length left + length l.replies.items ≤ vec_capacity l.replies;
      replies : l.replies.items ++ map reply_in left ≡ map reply_in l.fn.plans.items;
      held : (sub : Sub) → held_then_all l.fn.self.books.terms (steps_in left) (held_in l.self.books.rows) sub
          ≡ held_then_all l.fn.self.books.terms (steps_in l.fn.plans.items) (held_in l.fn.self.books.rows) sub;
      terms : l.self.books.terms ≡ l.fn.self.books.terms;
    }

use Rattle.std.proofs.Common.{◌≡◌, ◌<◌, ◌≤◌, ℕ, take, true, length}
use Rattle.dcc_act.specs.declared.sub.Sub.{Sub}
use Rattle.dcc_running.specs.inner.Marked.{IsCovered}
use Rattle.dcc_shard.specs.Shards.{is_among}
use Rattle.dcc_running.specs.Books.{book}
use Rattle.dcc_running.proofs.audit.are_all_covered.Given as goal

abbrev pub invariant-loop-sub : goal.invariant-loop-sub
invariant-loop-sub g l = (sub : Sub) (place : ℕ) → is_among sub (take l.sub-index l.subs) ≡ true → length (g.J.Naming.opening sub) < place
    → place ≤ length (book l.books.parts sub) → IsCovered l.marks l.books.sides sub place

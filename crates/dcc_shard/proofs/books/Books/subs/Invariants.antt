use Rattle.std.proofs.Common.{◌≡◌, ◌≤◌, ◌++◌, length, vec_capacity}
use Rattle.std.specs.Map.{keys_of}
use Rattle.dcc_shard.proofs.books.Books.subs.Given as goal

abbrev pub invariant-loop-sub : goal.invariant-loop-sub
invariant-loop-sub l = record {
  subs : l.subs.items ++ l.sub-iterator ≡ keys_of l.self.rows;
  room : length l.self.rows ≤ vec_capacity l.subs;
}

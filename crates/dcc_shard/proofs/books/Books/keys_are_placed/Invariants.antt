use Rattle.std.proofs.Common.{◌≡◌, ◌==◌}
use Rattle.std.specs.List.{list_all}
use Rattle.std.specs.Map.{keys_of}
use Rattle.dcc_shard.specs.Routes.{shard_of}
use Rattle.dcc_shard.proofs.books.Books.keys_are_placed.Given as goal

abbrev pub invariant-loop-sub : goal.invariant-loop-sub
invariant-loop-sub l = record {
  left : list_all (λ sub. shard_of sub l.count == l.index) l.sub-iterator ≡ list_all (λ sub. shard_of sub l.count == l.index) (keys_of l.self.rows);
}

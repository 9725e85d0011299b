use Rattle.std.proofs.Common.{◌≡◌, ◌≢◌}
use Rattle.dcc_act.specs.declared.sub.Sub.{Sub}
use Rattle.dcc_model.specs.Outcomes.{acts}
use Rattle.dcc_shard.specs.Shards.{held_in}
use Rattle.dcc_shard.proofs.indexed.IndexedBooks.add_page.Given as goal

abbrev pub invariant-loop-act : goal.invariant-loop-act
invariant-loop-act l = record {
  terms : l.self.books.terms ≡ l.fn.self.books.terms;
  own : held_in l.self.books.rows l.fn.sub ≡ acts l.fn.self.books.terms l.yielded;
  others : (other : Sub) → other ≢ l.fn.sub → held_in l.self.books.rows other ≡ held_in l.fn.self.books.rows other;
}

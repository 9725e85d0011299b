use Rattle.std.proofs.Common.{◌≡◌, ◌+◌, length, take, drop}
use Rattle.dcc_act.specs.declared.sub.Sub.{Sub}
use Rattle.dcc_store.specs.Books.{acts_in}
use Rattle.dcc_shard.specs.Shards.{held_in}
use Rattle.dcc_shard.proofs.indexed.IndexedBooks.of_book.Given as goal

abbrev pub invariant-loop : goal.invariant-loop
invariant-loop l = record {
  left : l.pages.items ≡ take (length l.pages.items) l.fn.book;
  count : length l.pages.items + l.counter ≡ length l.fn.book;
  end : l.end ≡ length l.fn.book;
  terms : l.indexed.books.terms ≡ l.terms;
  held : (sub : Sub) → held_in l.indexed.books.rows sub ≡ acts_in (drop (length l.pages.items) l.fn.book) sub;
}

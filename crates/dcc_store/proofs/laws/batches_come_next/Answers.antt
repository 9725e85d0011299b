use Rattle.dcc_store.proofs.Batches.{books_grow, found_next, rest_next}
use Rattle.dcc_store.proofs.laws.batches_come_next.Goals as goal

pub returns : goal.returns
returns c = record {
  book = books_grow c.new_acts_come_next.ensures.book;
  found = found_next c.new_acts_come_next.ensures.found;
  rest = rest_next;
}

use Rattle.std.proofs.Common.{sym, ◌∙◌}
use Rattle.dcc_store.specs.Books.{acts_in}
use Rattle.dcc_shard.specs.Shards.{held_in}
use Rattle.dcc_shard.proofs.Storing.{alike_left}
use Rattle.dcc_shard.proofs.shard.read.Goals as goal

pub returns-clause-there : goal.returns-clause-there
returns-clause-there g c = λ honest.
    let books = c.in_ok-books.books.books in
    let terms_are = sym (c.in_ok-books.ensures.terms ∙ c.terms.ensures ∙ c.in_ok-book.ensures.terms) in
    alike_left c.content_has_one_book.ensures.alike _ books.terms (acts_in c.in_ok-book.book) (held_in books.rows) _ terms_are (λ sub. sym (c.in_ok-books.ensures.held sub)) (c.in_ok-book.ensures.there honest)

use Rattle.std.proofs.Common.{sym, subst, ◌∙◌}
use Rattle.dcc_tariff.specs.Terms.{TermsView}
use Rattle.dcc_store.specs.Books.{no_acts}
use Rattle.dcc_store.specs.Contents.{IsContentOf}
use Rattle.dcc_store.specs.Memory.{content_of, leaves_of}
use Rattle.dcc_shard.specs.Shards.{held}
use Rattle.dcc_shard.proofs.Storing.{empty_left}
use Rattle.dcc_shard.proofs.memory.shard_in_memory.Goals as goal

pub returns-in-Ok-clause-nothing : goal.returns-in-Ok-clause-nothing
returns-in-Ok-clause-nothing c =
    let shard = c.in-Ok.shard in
    let records = c.new-records.result in
    let P : TermsView → Type 0 = λ terms. IsContentOf terms no_acts (content_of records) in
    let empty = subst P (sym (c.in-Ok.ensures.terms ∙ c.new-records.ensures.terms)) c.new-records.ensures.empty in
    empty_left c.content_has_one_book.ensures.one shard.shard.terms (held shard.shard) (content_of records) (leaves_of shard.records) empty c.in-Ok.ensures.same (c.in-Ok.ensures.there tt)

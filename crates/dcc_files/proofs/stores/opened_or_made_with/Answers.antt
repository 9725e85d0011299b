use Rattle.std.proofs.Common.{inl, inr}
use Rattle.dcc_files.proofs.stores.opened_or_made_with.Goals as goal

pub opened_or_made-requires : goal.opened_or_made-requires
opened_or_made-requires g c = c.in-Ok.ensures.sees

pub returns-in-Ok-opened_or_made-clause-terms : goal.returns-in-Ok-opened_or_made-clause-terms
returns-in-Ok-opened_or_made-clause-terms g c = c.in-Ok-opened_or_made.ensures.terms

pub returns-in-Ok-opened_or_made-clause-shard : goal.returns-in-Ok-opened_or_made-clause-shard
returns-in-Ok-opened_or_made-clause-shard g c = c.in-Ok-opened_or_made.ensures.shard

pub returns-in-Err-opened_or_made-clause-refused : goal.returns-in-Err-opened_or_made-clause-refused
returns-in-Err-opened_or_made-clause-refused g c = inr (c.in-Ok.conn, c.in-Err-opened_or_made.ensures.refused)

pub returns-in-Err-clause-refused : goal.returns-in-Err-clause-refused
returns-in-Err-clause-refused g c = inl c.in-Err.ensures.refused

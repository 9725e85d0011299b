use Rattle.std.proofs.Common.{inl, inr}
use Rattle.dcc_files.proofs.stores.opened_with.Goals as goal

pub opened-requires : goal.opened-requires
opened-requires g c = c.in-Ok.ensures.sees

pub returns-in-Ok-opened-clause-terms : goal.returns-in-Ok-opened-clause-terms
returns-in-Ok-opened-clause-terms g c = c.in-Ok-opened.ensures.terms

pub returns-in-Ok-opened-clause-shard : goal.returns-in-Ok-opened-clause-shard
returns-in-Ok-opened-clause-shard g c = c.in-Ok-opened.ensures.shard

pub returns-in-Err-opened-clause-refused : goal.returns-in-Err-opened-clause-refused
returns-in-Err-opened-clause-refused g c = inr (c.in-Ok.conn, c.in-Err-opened.ensures.refused)

pub returns-in-Err-clause-refused : goal.returns-in-Err-clause-refused
returns-in-Err-clause-refused g c = inl c.in-Err.ensures.refused

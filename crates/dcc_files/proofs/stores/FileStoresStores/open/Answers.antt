use Rattle.std.proofs.Common.{inl}
use Rattle.dcc_files.proofs.Refusals.{handed_on}
use Rattle.dcc_files.proofs.stores.FileStoresStores.open.Goals as goal

pub returns-in_err-records-clause-refused : goal.returns-in_err-records-clause-refused
returns-in_err-records-clause-refused c =
    handed_on _ c.from_residual-in_err-records.result c.in_err-records.field-0.0 c.from_residual-in_err-records.ensures.1 (inl c.in_err-records.ensures.refused)

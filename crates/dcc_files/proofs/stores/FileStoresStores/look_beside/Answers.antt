use Rattle.std.proofs.Common.{inl, inr}
use Rattle.dcc_files.proofs.Refusals.{handed_on}
use Rattle.dcc_files.proofs.stores.FileStoresStores.look_beside.Goals as goal

pub returns-in_err-found : goal.returns-in_err-found
returns-in_err-found c = record {
  refused = handed_on _ c.from_residual-in_err-found.result c.in_err-found.field-0.0 c.from_residual-in_err-found.ensures.1 (elim c.in_err-found.ensures.refused [
    | inl own ↦ inr (c.loop-other.other, own)
    | inr found ↦ inr found
  ]);
}

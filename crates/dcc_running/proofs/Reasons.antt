-- The reason for which an audit of a seat fails.
use Rattle.std.proofs.Common.{◌≡◌, List, ◌∷◌, inr}
use Rattle.dcc_store.specs.Books.{Held}
use Rattle.dcc_receipts.specs.declared.fault.CloseFault.{CloseFault}
use Rattle.dcc_receipts.specs.declared.fault.CloseFault.TheVariants.{Memory, ReceiptStray, ActWithoutReceipt, OutOfOrder}
use Rattle.dcc_receipts.specs.declared.receipt.Receipt.{Receipt}
use Rattle.dcc_running.specs.Audited.{IsAuditFault, IsOrdered}
use Rattle.dcc_running.specs.inner.Wards.{IsToldFault}

-- the receipts were in order, and the first that stays was not told
pub reason : (fault : CloseFault) (opening : Held) (before after : List Receipt) (r : Receipt) (behind : List Receipt) → IsOrdered before → after ≡ r ∷ behind
    → IsToldFault fault opening r → IsAuditFault fault opening before after
reason Memory opening before after r behind ordered is why = tt
reason ReceiptStray opening before after r behind ordered is why = (ordered, (r, behind, is, why))
reason ActWithoutReceipt opening before after r behind ordered is why = absurd why
reason OutOfOrder opening before after r behind ordered is why = inr (ordered, (r, behind, is, why))

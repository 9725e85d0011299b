use Rattle.std.proofs.Common.{◌≡◌, ℕ, ◌+◌, ◌<◌, get_or}
use Rattle.std.specs.declared.cmp.Ordering.TheVariants.{Less}
use Rattle.dcc_store.specs.Books.{PageView, sub_order}
use Rattle.dcc_store.proofs.book.are_in_order.Given as goal

abbrev pub invariant-loop-i : goal.invariant-loop-i
invariant-loop-i l = (k : ℕ) (page : PageView) → k + 1 < l.i → sub_order (get_or l.pages k page).sub (get_or l.pages (k + 1) page).sub ≡ Less

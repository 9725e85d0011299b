use Rattle.std.proofs.Common.{◌≡◌, take}
use Rattle.dcc_sqlite_rows.proofs.page.is_own.Given as goal

abbrev pub invariant-loop-act : goal.invariant-loop-act
invariant-loop-act l = record { terms : l.account.terms ≡ l.terms; acts : l.account.acts ≡ take l.act-index l.acts }

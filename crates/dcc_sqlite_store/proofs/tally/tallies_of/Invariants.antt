use Rattle.std.proofs.Common.{◌≡◌, map, drop}
use Rattle.dcc_tariff.specs.Terms.{TermsView}
use Rattle.dcc_store.specs.Books.{acts_in}
use Rattle.dcc_sqlite_rows.specs.Tallies.{tally_of}
use Rattle.dcc_sqlite_store.specs.inner.Tallies.{AreTallies}
use Rattle.dcc_sqlite_store.proofs.tally.tallies_of.Given as goal

abbrev pub invariant-loop-i : goal.invariant-loop-i
invariant-loop-i l = (terms : TermsView) → l.counts ≡ map (tally_of terms) l.pages → AreTallies terms l.tallies.entries (acts_in (drop l.i l.pages))

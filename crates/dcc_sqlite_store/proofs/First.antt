-- The book without acts.
use Rattle.std.proofs.Common.{◌≡◌, ℤ, pos, List, [], map, refl, sym, ap, arith}
use Rattle.sqlite.specs.Order.{Row}
use Rattle.sqlite.specs.Tree.{Trees}
use Rattle.sqlite.specs.State.{State}
use Rattle.dcc_tariff.specs.Terms.{TermsView}
use Rattle.dcc_model.specs.Outcomes.{funds}
use Rattle.dcc_model.specs.Entries.{entries}
use Rattle.dcc_model.specs.Laws.{EntriesAddUp, NoActs as NoneMade}
use Rattle.dcc_store.specs.Books.{no_acts}
use Rattle.dcc_sqlite_rows.specs.declared.tally.Tally.{Tally}
use Rattle.dcc_sqlite_store.specs.Content.{HoldsBook}
use Rattle.dcc_sqlite_store.specs.inner.Trees.{account_tree, three_columns, seven_columns, act_rows, entry_rows, account_rows, IsKeyed, HasCommitted}
use Rattle.dcc_sqlite_store.proofs.Apart.{apart_nothing}
use Rattle.dcc_sqlite_store.specs.inner.Tallies.{AreTallies}
use Rattle.dcc_sqlite_store.specs.inner.Keeping.{Keeps, KeepsBook}
use Rattle.dcc_sqlite_store.specs.inner.Making.{AreEmpty, IsFirst}
use Rattle.dcc_sqlite_store.specs.declared.setting.Setting.{Setting}

holds_nothing : (terms : TermsView) (db : Trees) → NoneMade → AreEmpty db → HoldsBook terms db no_acts
holds_nothing terms db none empty = record {
  own = λ sub. none terms;
  subs = λ sub some. absurd (some refl);
  fits = λ sub i act h. absurd cc;
  acts = record { there = λ row h. absurd (let e = h.3 in cc); only = λ row h. absurd (let r = rw empty.0 at h in omega (arith, r.1)); once = apart_nothing (act_rows db) (ap (map three_columns) empty.0) };
  entries = record { there = λ row h. absurd (omega (arith, h.4)); only = λ row h. absurd (let r = rw empty.1 at h in omega (arith, r.1)); once = apart_nothing (entry_rows db) (ap (map seven_columns) empty.1) };
  accounts = record { there = λ row h. absurd (h.1 refl); only = λ row h. absurd (let r = rw empty.2 at h in omega (arith, r.1)); once = apart_nothing (account_rows db) (ap (map three_columns) empty.2) };
}

no_funds : (terms : TermsView) → EntriesAddUp → funds terms [] ≡ pos 0
unfolding entries
no_funds terms add_up = sym (add_up terms [])

pub no_tallies : (terms : TermsView) → EntriesAddUp → AreTallies terms [] no_acts
no_tallies terms add_up sub = ap (λ (money : ℤ). let t : Tally = record { acts = 0; funds = money } in t) (sym (no_funds terms add_up))

keyed_nothing : (rows : List Row) → rows ≡ [] → IsKeyed rows
keyed_nothing rows none = record { numbered = λ row h. absurd (let r = rw none at h in omega (arith, r.1)); apart = λ one other h k same. absurd (let r = rw none at h in omega (arith, r.1)) }

pub keeps_nothing : (terms : TermsView) (old new : State) → NoneMade → HasCommitted (λ _. AreEmpty) old new → Keeps terms new no_acts
keeps_nothing terms old new none it = record {
  is_open = it.is_open;
  autocommit = it.autocommit;
  settled = it.settled;
  schema = it.schema;
  keyed = keyed_nothing (new.now.trees account_tree) it.changes.2;
  holds = holds_nothing terms new.now.trees none it.changes;
}

-- what the first transaction says of the rows but for the setting's
pub without_setting : (setting : Setting) (old new : State) → HasCommitted (λ _. IsFirst setting) old new → HasCommitted (λ _. AreEmpty) old new
without_setting setting old new it = record { is_open = it.is_open; autocommit = it.autocommit; settled = it.settled; schema = it.schema; changes = it.changes.0 }

pub first_book : (terms : TermsView) (old new : State) → NoneMade → EntriesAddUp → HasCommitted (λ _. AreEmpty) old new → KeepsBook terms new []
first_book terms old new none add_up it = (no_acts, keeps_nothing terms old new none it, no_tallies terms add_up)

-- The contents that a stop leaves: an opening after the end of the process may find them.
use Rattle.std.specs.Prelude.{◌⊎◌}
use Rattle.dcc_tariff.specs.Terms.{TermsView}
use Rattle.dcc_store.specs.Books.{Held}
use Rattle.dcc_store.specs.Contents.{Content, IsContentOf}

-- a stop leaves the content of this book, and nothing else
abbrev pub LeavesOnly : TermsView → Held → (Content → Type 0) → Type 0
LeavesOnly terms held leaves = (found : Content) → leaves found → IsContentOf terms held found

-- a stop leaves the content of the first book or the content of the second, and nothing else
abbrev pub LeavesEither : TermsView → Held → Held → (Content → Type 0) → Type 0
LeavesEither terms before after leaves = (found : Content) → leaves found → IsContentOf terms before found ⊎ IsContentOf terms after found

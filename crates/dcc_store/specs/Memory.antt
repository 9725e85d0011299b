-- Records in memory, as a contract sees them.
use Rattle.std.specs.Prelude.{◌≡◌, pos, ◌+◌, ◌+ℤ◌, List, [], ◌∷◌, ◌++◌, if◌then◌else◌}
use Rattle.dcc_tariff.specs.Terms.{TermsView}
use Rattle.dcc_act.specs.declared.act.Act.{Act}
use Rattle.dcc_act.specs.declared.entry.Entry.{Entry}
use Rattle.dcc_act.specs.declared.sub.Sub.{Sub}
use Rattle.dcc_act.specs.Subs.{same_sub}
use Rattle.dcc_model.specs.Entries.{sum_of}
use Rattle.dcc_store.specs.Contents.{Kept, Content}
use Rattle.dcc_store.specs.Batches.{AdditionView}

-- the terms by which acts are judged, and the acts that were added, with their entries, in order
pub record MemoryView : Type 0 where
  pub terms : TermsView
  pub log : List AdditionView

-- the content in which nothing is kept
abbrev pub nothing : Content
nothing sub = record { acts = []; entries = []; account = record { acts = 0; funds = pos 0 } }

-- what is kept of a subscriber, with an act and its entries added behind
abbrev pub with_one : Act → List Entry → Kept → Kept
with_one act more kept =
    record {
      acts = kept.acts ++ act ∷ [];
      entries = kept.entries ++ more;
      account = record { acts = kept.account.acts + 1; funds = kept.account.funds +ℤ sum_of more };
    }

-- the content with an act added of one subscriber
abbrev pub with_addition : AdditionView → Content → Content
with_addition one content = λ other. if same_sub one.sub other then with_one one.act one.entries (content other) else content other

-- the content with these acts added, one after another
abbrev pub with_additions : List AdditionView → Content → Content
with_additions [] content = content
with_additions (one ∷ more) content = with_additions more (with_addition one content)

-- the content of each subscriber
abbrev pub content_of : MemoryView → Content
content_of records = with_additions records.log nothing

-- a stop leaves the content that the records keep
abbrev pub leaves_of : MemoryView → Content → Type 0
leaves_of records found = (sub : Sub) → found sub ≡ content_of records sub

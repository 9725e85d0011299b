-- Batches: acts of different subscribers, which a store adds all at once.
use Rattle.std.specs.Prelude.{Bool, true, ◌&&◌, not, List, [], ◌∷◌, map}
use Rattle.dcc_tariff.specs.Terms.{TermsView}
use Rattle.dcc_act.specs.declared.act.Act.{Act}
use Rattle.dcc_act.specs.declared.entry.Entry.{Entry}
use Rattle.dcc_act.specs.declared.sub.Sub.{Sub}
use Rattle.dcc_act.specs.Subs.{same_sub}
use Rattle.dcc_store.specs.Books.{Held, with_act}
use Rattle.dcc_store.specs.Contents.{Content, IsNext}

-- an act of a subscriber, with the entries that it adds
pub record AdditionView : Type 0 where
  pub sub : Sub
  pub act : Act
  pub entries : List Entry

-- the subscribers of a batch, in order
abbrev pub subs_of : List AdditionView → List Sub
subs_of batch = map (λ one. one.sub) batch

-- the held acts with the acts of a batch, one after another
abbrev pub with_all : List AdditionView → Held → Held
with_all [] held = held
with_all (one ∷ batch) held = with_all batch (with_act one.sub one.act held)

-- the subscriber is none of these
abbrev pub is_none_of : Sub → List Sub → Bool
is_none_of sub [] = true
is_none_of sub (other ∷ subs) = not (same_sub sub other) && is_none_of sub subs

-- no subscriber stands here twice
abbrev pub are_apart : List Sub → Bool
are_apart [] = true
are_apart (sub ∷ subs) = is_none_of sub subs && are_apart subs

-- the acts that a content has of each subscriber
abbrev pub acts_of : Content → Held
acts_of content sub = (content sub).acts

-- each act of a batch may come next after the acts of its subscriber, and adds its entries
abbrev pub AreNext : TermsView → List AdditionView → Held → Type 0
AreNext terms [] held = Unit {0}
AreNext terms (one ∷ batch) held = IsNext terms (held one.sub) one.act one.entries × AreNext terms batch held

-- Books: the held acts of each subscriber.
use Rattle.std.specs.Prelude.{◌≡◌, if◌then◌else◌, List, [], ◌∷◌, ◌++◌, map}
use Rattle.std.specs.declared.cmp.Ordering.{Ordering}
use Rattle.std.specs.Ordering.{nat_cmp, on, then_cmp}
use Rattle.std.specs.Cmp.Lexicographic.{slice_cmp}
use Rattle.std.specs.List.Sorted.{IsStrictlySortedBy}
use Rattle.dcc_tariff.specs.Terms.{TermsView}
use Rattle.dcc_act.specs.declared.act.Act.{Act}
use Rattle.dcc_act.specs.declared.sub.Sub.{Sub}
use Rattle.dcc_act.specs.Subs.{same_sub}
use Rattle.dcc_model.specs.Outcomes.{acts}

-- the held acts of each subscriber, in order
abbrev pub Held : Type 0
Held = Sub → List Act

-- nothing is held
abbrev pub no_acts : Held
no_acts sub = []

-- the held acts with one act more of one subscriber
abbrev pub with_act : Sub → Act → Held → Held
with_act sub act held = λ other. if same_sub sub other then held other ++ act ∷ [] else held other

-- a book: the held acts of each subscriber are exactly those that their own list makes
abbrev pub IsBook : TermsView → Held → Type 0
IsBook terms held = (sub : Sub) → acts terms (held sub) ≡ held sub

-- a page of a book: a subscriber, and its acts in order
pub record PageView : Type 0 where
  pub sub : Sub
  pub acts : List Act

-- the acts of a subscriber in pages: the acts of its page; none if it has no page
abbrev pub acts_in : List PageView → Held
acts_in [] sub = []
acts_in (page ∷ pages) sub = if same_sub page.sub sub then page.acts else acts_in pages sub

-- the order of subscribers: by type, and then by the data, octet by octet
abbrev pub sub_order : Sub → Sub → Ordering
sub_order = then_cmp (on (λ s. s.kind) nat_cmp) (on (λ s. s.name) (slice_cmp nat_cmp))

-- the pages are in the order of their subscribers, each of whom has one page
abbrev pub AreInOrder : List PageView → Type 0
AreInOrder pages = IsStrictlySortedBy sub_order (map (λ page. page.sub) pages)

-- Laws of books and contents, for the layers above.
use Rattle.std.specs.Prelude.{◌≡◌, ◌≢◌, ◌+◌, ◌+ℤ◌, true, List, [], ◌∷◌, ◌++◌, length, if◌then◌else◌}
use Rattle.dcc_tariff.specs.Terms.{TermsView}
use Rattle.dcc_act.specs.declared.act.Act.{Act}
use Rattle.dcc_act.specs.declared.entry.Entry.{Entry}
use Rattle.dcc_act.specs.declared.sub.Sub.{Sub}
use Rattle.dcc_act.specs.Subs.{same_sub}
use Rattle.dcc_model.specs.Outcomes.{acts, is_new, funds}
use Rattle.dcc_model.specs.Entries.{entries, sum_of}
use Rattle.dcc_store.specs.Books.{Held, with_act, IsBook}
use Rattle.dcc_store.specs.Contents.{Content, IsContentOf, IsNext, kept_by}
use Rattle.dcc_store.specs.Batches.{AdditionView, subs_of, with_all, is_none_of, are_apart, acts_of, AreNext}

-- a content is the content of one book alone
abbrev pub ContentHasOneBook : Type 0
ContentHasOneBook = (terms : TermsView) (one other : Held) (content : Content) → IsContentOf terms one content → IsContentOf terms other content
    → (sub : Sub) → one sub ≡ other sub

-- books that hold the same acts of each subscriber have the same contents
abbrev pub AlikeBooksHaveOneContent : Type 0
AlikeBooksHaveOneContent = (terms : TermsView) (one other : Held) (content : Content) → ((sub : Sub) → one sub ≡ other sub)
    → IsContentOf terms one content → IsContentOf terms other content

-- an added act stands behind the other acts of its subscriber
abbrev pub OwnGrows : Type 0
OwnGrows = (sub : Sub) (act : Act) (held : Held) → with_act sub act held sub ≡ held sub ++ act ∷ []

-- the acts of each other subscriber stay as they were
abbrev pub OthersStay : Type 0
OthersStay = (sub other : Sub) (act : Act) (held : Held) → other ≢ sub → with_act sub act held other ≡ held other

-- a book with one act more is a book, if the act may come next
abbrev pub BooksGrow : Type 0
BooksGrow = (terms : TermsView) (sub : Sub) (act : Act) (more : List Entry) (held : Held) → IsBook terms held → IsNext terms (held sub) act more
    → IsBook terms (with_act sub act held)

-- a new act may come next, with the entries that it adds, if the acts before it are exactly those that their own list makes
abbrev pub NewIsNext : Type 0
NewIsNext = (terms : TermsView) (before : List Act) (act : Act) (more : List Entry) → acts terms before ≡ before
    → is_new terms before act ≡ true → entries terms (before ++ act ∷ []) ≡ entries terms before ++ more → IsNext terms before act more

-- an act that may come next in a book may come next in the book's content
abbrev pub NextIsFound : Type 0
NextIsFound = (terms : TermsView) (sub : Sub) (act : Act) (more : List Entry) (held : Held) (content : Content) → IsContentOf terms held content
    → IsNext terms (held sub) act more → IsNext terms (content sub).acts act more

-- the account has one act more, and its funds grow by the sum of the entries
abbrev pub AccountsGrow : Type 0
AccountsGrow = (terms : TermsView) (before : List Act) (act : Act) (more : List Entry) → IsNext terms before act more
    → kept_by terms (before ++ act ∷ []) ≡ record {
      acts = before ++ act ∷ [];
      entries = entries terms before ++ more;
      account = record { acts = length before + 1; funds = funds terms before +ℤ sum_of more };
    }

-- The acts of a subscriber of whom a batch has no act stay as they were.
abbrev pub BatchesLeaveOthers : Type 0
BatchesLeaveOthers = (batch : List AdditionView) (held : Held) (sub : Sub) → is_none_of sub (subs_of batch) ≡ true → with_all batch held sub ≡ held sub

-- Each act of a batch stands behind the other acts of its subscriber.
abbrev pub BatchesGrowEach : Type 0
BatchesGrowEach = (before : List AdditionView) (one : AdditionView) (behind : List AdditionView) (held : Held)
    → are_apart (subs_of (before ++ one ∷ behind)) ≡ true → with_all (before ++ one ∷ behind) held one.sub ≡ held one.sub ++ one.act ∷ []

-- a batch of which the first act is another subscriber's leaves what the rest of the batch leaves; of its own subscriber, its act alone
abbrev pub BatchesAreTheirActs : Type 0
BatchesAreTheirActs = (one : AdditionView) (batch : List AdditionView) (held : Held) (sub : Sub) → are_apart (subs_of (one ∷ batch)) ≡ true
    → with_all (one ∷ batch) held sub ≡ (if same_sub one.sub sub then held sub ++ one.act ∷ [] else with_all batch held sub)

-- two batches one after another are one batch
abbrev pub BatchesJoin : Type 0
BatchesJoin = (batch more : List AdditionView) (held : Held) → with_all (batch ++ more) held ≡ with_all more (with_all batch held)

-- a book with the acts of a batch more is a book, if each of them may come next
abbrev pub BooksGrowByBatches : Type 0
BooksGrowByBatches = (terms : TermsView) (batch : List AdditionView) (held : Held) → are_apart (subs_of batch) ≡ true → IsBook terms held
    → AreNext terms batch held → IsBook terms (with_all batch held)

-- acts that may come next in a book may come next in the book's content
abbrev pub BatchesAreFound : Type 0
BatchesAreFound = (terms : TermsView) (batch : List AdditionView) (held : Held) (content : Content) → IsContentOf terms held content
    → AreNext terms batch held → AreNext terms batch (acts_of content)

-- the acts of a batch that remain may come next once the first is added
abbrev pub RestIsNext : Type 0
RestIsNext = (terms : TermsView) (one : AdditionView) (batch : List AdditionView) (held : Held) → are_apart (subs_of (one ∷ batch)) ≡ true
    → AreNext terms batch held → AreNext terms batch (with_act one.sub one.act held)

-- Lines in groups by subscriber.
use Rattle.std.specs.Prelude.{ℕ, if◌then◌else◌, List, [], ◌∷◌, ◌++◌, length}
use Rattle.dcc_act.specs.declared.act.Act.{Act}
use Rattle.dcc_act.specs.declared.sub.Sub.{Sub}
use Rattle.dcc_act.specs.Subs.{same_sub}
use Rattle.dcc_store.specs.Books.{PageView}

abbrev pub alone : Sub → Act → PageView
alone sub act = record { sub = sub; acts = act ∷ [] }

-- an act of this subscriber is added: on the last page if this is the subscriber's, and otherwise on a new page
abbrev pub put_behind : Sub → Act → List PageView → List PageView
put_behind sub act [] = alone sub act ∷ []
put_behind sub act (page ∷ []) = if same_sub page.sub sub then record { sub = page.sub; acts = page.acts ++ act ∷ [] } ∷ [] else page ∷ alone sub act ∷ []
put_behind sub act (page ∷ next ∷ pages) = page ∷ put_behind sub act (next ∷ pages)

-- the number of acts that stand before the added act on its page
abbrev pub before_it : Sub → List PageView → ℕ
before_it sub [] = 0
before_it sub (page ∷ []) = if same_sub page.sub sub then length page.acts else 0
before_it sub (page ∷ next ∷ pages) = before_it sub (next ∷ pages)

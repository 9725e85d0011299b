-- The hosts of peers change neither an account nor the outcomes of its acts.
use Rattle.std.specs.Prelude.{◌≡◌, ℕ, List, map}
use Rattle.dcc_tariff.specs.Terms.{TermsView}
use Rattle.dcc_act.specs.declared.act.Act.{Act}
use Rattle.dcc_act.specs.declared.request_key.RequestKey.{RequestKey}
use Rattle.dcc_model.specs.Outcomes.{after, is_new, place, outcome, acts, kept, funds, overrun, free, standing}
use Rattle.dcc_model.specs.Entries.{entries}
use Rattle.dcc_hosts.specs.Hosts.{unhosted, IsAlike, AreAlike}

-- A list and one more act, against the same list and act without hosts.

-- the act has the same outcome
abbrev pub AfterIsUnhosted : Type 0
AfterIsUnhosted = (terms : TermsView) (xs : List Act) (act : Act) → after terms (map unhosted xs) (unhosted act) ≡ after terms xs act

-- the act is new after both or after neither
abbrev pub NewIsUnhosted : Type 0
NewIsUnhosted = (terms : TermsView) (xs : List Act) (act : Act) → is_new terms (map unhosted xs) (unhosted act) ≡ is_new terms xs act

-- its place is the same
abbrev pub PlaceIsUnhosted : Type 0
PlaceIsUnhosted = (terms : TermsView) (xs : List Act) (act : Act) → place terms (map unhosted xs) (unhosted act) ≡ place terms xs act

-- at each place stands the same outcome
abbrev pub OutcomesAreUnhosted : Type 0
OutcomesAreUnhosted = (terms : TermsView) (xs : List Act) (k : ℕ) → outcome terms (map unhosted xs) k ≡ outcome terms xs k

-- the same acts are made
abbrev pub ActsAreUnhosted : Type 0
ActsAreUnhosted = (terms : TermsView) (xs : List Act) → acts terms (map unhosted xs) ≡ map unhosted (acts terms xs)

-- the same outcomes are kept
abbrev pub KeptAreUnhosted : Type 0
KeptAreUnhosted = (terms : TermsView) (xs : List Act) (key : RequestKey) → kept terms (map unhosted xs) key ≡ kept terms xs key

-- the funds, the overrun, the free money and the entries are the same
pub record IsSameAccount (terms : TermsView) (xs ys : List Act) : Type 0 where
  pub same_funds : funds terms xs ≡ funds terms ys
  pub same_overrun : overrun terms xs ≡ overrun terms ys
  pub same_free : free terms xs ≡ free terms ys
  pub same_standing : standing terms xs ≡ standing terms ys
  pub same_entries : entries terms xs ≡ entries terms ys

abbrev pub AccountIsUnhosted : Type 0
AccountIsUnhosted = (terms : TermsView) (xs : List Act) → IsSameAccount terms (map unhosted xs) xs

-- The same for two lists, and for two acts, that differ in hosts alone.

abbrev pub AfterIsAlike : Type 0
AfterIsAlike = (terms : TermsView) (xs ys : List Act) (act other : Act) → AreAlike xs ys → IsAlike act other → after terms xs act ≡ after terms ys other

abbrev pub NewIsAlike : Type 0
NewIsAlike = (terms : TermsView) (xs ys : List Act) (act other : Act) → AreAlike xs ys → IsAlike act other → is_new terms xs act ≡ is_new terms ys other

abbrev pub PlaceIsAlike : Type 0
PlaceIsAlike = (terms : TermsView) (xs ys : List Act) (act other : Act) → AreAlike xs ys → IsAlike act other → place terms xs act ≡ place terms ys other

abbrev pub OutcomesAreAlike : Type 0
OutcomesAreAlike = (terms : TermsView) (xs ys : List Act) (k : ℕ) → AreAlike xs ys → outcome terms xs k ≡ outcome terms ys k

abbrev pub ActsAreAlike : Type 0
ActsAreAlike = (terms : TermsView) (xs ys : List Act) → AreAlike xs ys → AreAlike (acts terms xs) (acts terms ys)

abbrev pub KeptAreAlike : Type 0
KeptAreAlike = (terms : TermsView) (xs ys : List Act) (key : RequestKey) → AreAlike xs ys → kept terms xs key ≡ kept terms ys key

abbrev pub AccountIsAlike : Type 0
AccountIsAlike = (terms : TermsView) (xs ys : List Act) → AreAlike xs ys → IsSameAccount terms xs ys

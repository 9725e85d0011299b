-- How many octets the AVPs of a check have.
use Rattle.std.specs.Prelude.{ℕ, ◌≤◌, List}
use Rattle.std.specs.List.{AllByRecursion}
use Rattle.dcc_avp.specs.Spelling.{AvpView, padded_len}
use Rattle.dcc_request.specs.Walk.{ListView, GroupView}

-- each AVP has so many octets at most, with its padding
abbrev pub AreWithin : ℕ → List AvpView → Type 0
AreWithin most avps = AllByRecursion (λ avp. padded_len avp ≤ most) avps

abbrev pub IsListWithin : ℕ → ListView → Type 0
IsListWithin most list = AreWithin most list.avps

-- in a walked group, and in the groups inside it
abbrev pub IsGroupWithin : ℕ → GroupView → Type 0
IsGroupWithin most group = IsListWithin most group.list × AllByRecursion (IsListWithin most) group.inside

-- A plan: the server's names and address, its terms, and the tariffs of each rating group.
use Rattle.std.specs.Prelude.{ℕ, Bool, true, not, ◌&&◌, ◌||◌, ◌==◌, nat_lt, nat_le, if◌then◌else◌, List, [], ◌∷◌}
use Rattle.std.specs.Prelude.{filter, Option, Some, None, option_map}
use Rattle.std.specs.List.{find, list_all}
use Rattle.dcc_tariff.specs.Terms.{TariffView, TermsView}
use Rattle.dcc_tariff.specs.declared.tariff.UnitKind.{UnitKind}
use Rattle.dcc_tariff.specs.declared.tariff.UnitKind.TheVariants.{Octets, Time, Units}
use Rattle.dcc_tariff.specs.declared.version.Version.{Version}

-- a plan; the versions of all groups stand by group, and those of one group by the moment from which they hold
pub record PlanView : Type 0 where
  pub host : List ℕ
  pub realm : List ℕ
  pub address : List ℕ
  pub shards : ℕ
  pub default_group : ℕ
  pub quantum : ℕ
  pub terms : TermsView
  pub versions : List Version

-- the version belongs to the group
abbrev pub is_of : ℕ → Version → Bool
is_of group version = version.group == group

-- the version belongs to the group, and holds at the moment or held before it
abbrev pub has_begun : ℕ → ℕ → Version → Bool
has_begun group moment version = is_of group version && nat_le version.from moment

-- of a version and a version behind it in the list, if there is any: that with the greater from
abbrev pub later : Version → Option Version → Option Version
later version None = Some version
later version (Some other) = if nat_le version.from other.from then Some other else Some version

-- the version with the greatest from
abbrev pub latest : List Version → Option Version
latest [] = None
latest (version ∷ versions) = later version (latest versions)

-- the unit of a group, if the plan has the group
unfoldable pub unit_of : PlanView → ℕ → Option UnitKind
unit_of plan group = option_map (λ version. version.unit) (find (is_of group) plan.versions)

-- the unit and the tariff of a group at a moment: the version with the greatest from at or before the moment, if there is one
unfoldable pub tariff_at : PlanView → ℕ → ℕ → Option (UnitKind × TariffView)
tariff_at plan group moment =
    option_map (λ version. (version.unit, version.tariff)) (latest (filter (has_begun group moment) plan.versions))

-- the first of two versions stands before the second
abbrev pub precedes : Version → Version → Bool
precedes version other =
    nat_lt version.group other.group || (version.group == other.group && nat_lt version.from other.from)

-- no version stands before an earlier one of the list
abbrev pub are_ordered : List Version → Bool
are_ordered [] = true
are_ordered (version ∷ versions) = list_all (λ other. not (precedes other version)) versions && are_ordered versions

-- a number for each kind of unit
abbrev pub kind_number : UnitKind → ℕ
kind_number Octets = 1
kind_number Time = 2
kind_number Units = 3

-- two versions of one group count the same unit, and hold from different moments
abbrev pub agrees : Version → Version → Bool
agrees version other =
    not (version.group == other.group)
    || ((kind_number version.unit == kind_number other.unit) && not (version.from == other.from))

-- each two versions agree
abbrev pub all_agree : List Version → Bool
all_agree [] = true
all_agree (version ∷ versions) = list_all (agrees version) versions && all_agree versions

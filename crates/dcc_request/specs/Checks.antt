-- The checks of a request, each over all its lists before the next (RFC 6733, section 7.1.5).
use Rattle.std.specs.Prelude.{ℕ, Bool, false, ◌==◌, ◌&&◌, nat_lt, List, [], ◌∷◌, filter, find, count_by, slice_get}
use Rattle.std.specs.Prelude.{Option, None, is_none, option_map, Result, Ok, if◌then◌else◌}
use Rattle.std.specs.Option.{option_and_then, option_map_or}
use Rattle.dcc_avp.specs.Spelling.{AvpView, has_code, is_mandatory}
use Rattle.dcc_avp.specs.Dictionary.{format_of}
use Rattle.dcc_avp.specs.declared.avp.flags.TheConstants.{MANDATORY}
use Rattle.dcc_avp.specs.declared.codes.TheConstants.{PRODUCT_NAME}
use Rattle.dcc_request.specs.declared.cause.Cause.TheVariants.{AvpUnsupported, MissingAvp, AvpOccursTooManyTimes}
use Rattle.dcc_request.specs.declared.checks.Check.{Check}
use Rattle.dcc_request.specs.declared.checks.Check.TheVariants as checks
use Rattle.dcc_request.specs.declared.command.Command.{Command}
use Rattle.dcc_request.specs.declared.table.Times.{Times}
use Rattle.dcc_request.specs.Refusals.{Refusal, refusal, or_else, first_some, ◌>>=◌, clear}
use Rattle.dcc_request.specs.Layout.{least_data}
use Rattle.dcc_request.specs.Tables.{Table, least_times, most_times, table_of}
use Rattle.dcc_request.specs.Commands.{table_for}
use Rattle.dcc_request.specs.Walk.{ListView, GroupView, groups_of}

-- ---- unknown AVPs
-- of no vendor, with M, and not in the dictionary
abbrev pub is_unknown : AvpView → Bool
is_unknown avp = is_none avp.vendor && is_mandatory avp.flags && is_none (format_of avp.code)

-- the refusal of the first of them
abbrev pub unknown_in : List AvpView → Option Refusal
unknown_in avps = option_map (refusal AvpUnsupported) (find is_unknown avps)

-- ---- AVPs that stand too often
-- a row of whose code there are more AVPs than there may be
abbrev pub is_over : List AvpView → ℕ × Times → Bool
is_over avps row = option_map_or (λ most. nat_lt most (count_by (has_code row.0) avps)) (most_times row.1) false

-- the first AVP of a code behind so many others of the code
abbrev pub beyond : List AvpView → ℕ → ℕ → Option AvpView
beyond avps code most = slice_get (filter (has_code code) avps) most

-- the first AVP of a row's code beyond the most that there may be
abbrev pub row_beyond : List AvpView → ℕ × Times → Option AvpView
row_beyond avps row = option_and_then (beyond avps row.0) (most_times row.1)

-- the refusal of that AVP, by the first row of which there are too many
abbrev pub too_many_in : Table → List AvpView → Option Refusal
too_many_in table avps = option_map (refusal AvpOccursTooManyTimes) (option_and_then (row_beyond avps) (find (is_over avps) table))

-- ---- AVPs that are missing
-- a row of whose code there are fewer AVPs than there have to be
abbrev pub is_lacking : List AvpView → ℕ × Times → Bool
is_lacking avps row = nat_lt (count_by (has_code row.0) avps) (least_times row.1)

-- an AVP that stands for a missing one: M is set, but not for Product-Name (section 5.3.7), and the least data in zeros
abbrev pub missing_flags : ℕ → ℕ
missing_flags code = if code == PRODUCT_NAME then 0 else MANDATORY

abbrev pub missing_avp : ℕ → AvpView
missing_avp code = record { code = code; flags = missing_flags code; vendor = None; value = least_data code }

-- the refusal with that AVP, by the first row that is lacking
abbrev pub missing_in : Table → List AvpView → Option Refusal
missing_in table avps = option_map (λ row. refusal MissingAvp (missing_avp row.0)) (find (is_lacking avps) table)

-- ---- each check over all lists
-- the fault that a check finds in a list
unfoldable pub fault_in : Check → Table → List AvpView → Option Refusal
fault_in checks.Unknown table avps = unknown_in avps
fault_in checks.TooMany table avps = too_many_in table avps
fault_in checks.Missing table avps = missing_in table avps

-- the fault in the list of a walked group
abbrev pub fault_of : Check → ListView → Option Refusal
fault_of check list = fault_in check (table_of list.code) list.avps

-- the fault in a walked group, or else in the groups inside it
abbrev pub fault_in_group : Check → GroupView → Option Refusal
fault_in_group check group = or_else (fault_of check group.list) (first_some (fault_of check) group.inside)

-- the fault in the message's list, or else in the walked groups, in their order
unfoldable pub fault_anywhere : Table → List AvpView → List GroupView → Check → Option Refusal
fault_anywhere table avps groups check = or_else (fault_in check table avps) (first_some (fault_in_group check) groups)

-- each check over the whole message before the next
abbrev pub first_fault : Table → List AvpView → List GroupView → Option Refusal
first_fault table avps groups =
    first_some (fault_anywhere table avps groups) (checks.Unknown ∷ checks.TooMany ∷ checks.Missing ∷ [])

-- The walked groups of a request, if each list can be read and has all AVPs that its table requires and no more; else the first
-- fault: each check over the whole message before the next.
unfoldable pub checked : Command → List AvpView → Result (List GroupView) Refusal
checked command avps = do
  groups ← groups_of command avps
  complete ← clear (first_fault (table_for command avps) avps groups)
  Ok groups

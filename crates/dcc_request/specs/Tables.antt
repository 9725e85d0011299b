-- How often AVPs stand in a list: rows of a code and its times, in the order of checking.
use Rattle.std.specs.Prelude.{ℕ, ◌==◌, ◌||◌, if◌then◌else◌, List, [], Option, Some, None}
use Rattle.dcc_avp.specs.declared.codes.TheConstants.{SUBSCRIPTION_ID, REQUESTED_SERVICE_UNIT, USED_SERVICE_UNIT, MULTIPLE_SERVICES_CREDIT_CONTROL}
use Rattle.dcc_request.specs.declared.table.Times.{Times}
use Rattle.dcc_request.specs.declared.table.Times.TheVariants.{Once, AtMostOnce, AtLeastOnce, AtMost}
use Rattle.dcc_request.specs.declared.table.TheConstants.{SUBSCRIPTION, SERVICE, UNITS}

-- the rows of a list; a code without a row may stand any number of times
abbrev pub Table : Type 0
Table = List (ℕ × Times)

abbrev pub least_times : Times → ℕ
least_times Once = 1
least_times AtLeastOnce = 1
least_times AtMostOnce = 0
least_times (AtMost most) = 0

abbrev pub most_times : Times → Option ℕ
most_times Once = Some 1
most_times AtMostOnce = Some 1
most_times AtLeastOnce = None
most_times (AtMost most) = Some most

-- the table of a walked group, by its code; a Vendor-Specific-Application-Id has no row
abbrev pub table_of : ℕ → Table
table_of code =
    if code == SUBSCRIPTION_ID then SUBSCRIPTION
    else if code == MULTIPLE_SERVICES_CREDIT_CONTROL then SERVICE
    else if code == REQUESTED_SERVICE_UNIT || code == USED_SERVICE_UNIT then UNITS
    else []

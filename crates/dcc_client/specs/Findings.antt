-- The finding of a response.
use Rattle.std.specs.Prelude.{ℕ, Bool, true, false, ◌&&◌, nat_lt, nat_eq, ◌==◌, if◌then◌else◌, ℤ, List, ◌++◌, bytes_eq, codes}
use Rattle.std.specs.Prelude.{Option, Some, None, option_and_then, option_map}
use Rattle.std.specs.List.{list_all, starts_with}
use Rattle.serde_json.specs.Data.{Data}
use Rattle.serde_json.specs.Find.{get, as_integer, as_number, as_str}
use Rattle.serde_json.specs.Read.{read}
use Rattle.dcc_act.specs.Subs.{SubView}
use Rattle.dcc_client.specs.declared.call.Call.{Call}
use Rattle.dcc_client.specs.declared.call.Call.TheVariants.{Account, Ledger, TopUp}
use Rattle.dcc_client.specs.declared.finding.Finding.{Finding}
use Rattle.dcc_client.specs.declared.finding.Finding.TheVariants as found
use Rattle.dcc_client.specs.declared.finding.Told.{Told}
use Rattle.dcc_client.specs.declared.finding.Told.TheVariants as told
use Rattle.dcc_client.specs.declared.money.Money.{Money}
use Rattle.dcc_client.specs.Requests.{name_of}

-- a body in JSON, in ASCII
unfoldable pub data_of : List ℕ → Option Data
data_of body = if list_all (λ octet. nat_lt octet 128) body then read body else None

-- whether a text is there, and is this one
abbrev pub is_text : Option (List ℕ) → List ℕ → Bool
is_text None text = false
is_text (Some given) text = bytes_eq given text

-- whether an object has this text under a name
abbrev pub has_text : (name text : List ℕ) → Data → Bool
has_text name text value = is_text (option_and_then as_str (get name value)) text

-- a whole number of an object, by its name
abbrev pub number_in : List ℕ → Data → Option ℤ
number_in name value = option_and_then as_integer (option_and_then as_number (get name value))

-- the answers to a top-up: with status 200 it was told to be done or to pass the ceiling, with 400 that its amount is bad, with 503 that it was refused
unfoldable pub told_in : (status : ℕ) → Data → Option Finding
told_in status value =
    if (status == 200) && has_text (codes "told") (codes "done") value then Some (found.Told told.Done)
    else (if (status == 200) && has_text (codes "told") (codes "ceiling") value then Some (found.Told told.Ceiling)
    else (if (status == 400) && has_text (codes "told") (codes "bad") value then Some (found.Told told.Bad)
    else (if (status == 503) && has_text (codes "told") (codes "refused") value then Some (found.Told told.Refused)
    else None)))

-- a subscriber is unknown: status 404 with this error, which no other path has
abbrev pub unknown_in : (status : ℕ) → Data → Option Finding
unknown_in status value =
    if (status == 404) && has_text (codes "error") (codes "unknown subscriber") value then Some found.Unknown else None

-- the money of an account
abbrev pub money_in : Data → Option Money
money_in value =
    option_and_then (λ funds. option_and_then (λ reserved. option_and_then (λ free. option_map (λ overrun.
    record { funds = funds; reserved = reserved; free = free; overrun = overrun })
    (number_in (codes "overrun") value)) (number_in (codes "free") value)) (number_in (codes "reserved") value)) (number_in (codes "funds") value)

-- the account of the subscriber with this name
abbrev pub account_in : (name : List ℕ) → (status : ℕ) → Data → Option Finding
account_in name status value =
    if status == 200 then (if has_text (codes "subscriber") name value then option_map found.Account (money_in value) else None)
    else unknown_in status value

-- the ledger of a subscriber: the body begins with the line of this subscriber
abbrev pub first_line : SubView → List ℕ
first_line sub = codes "account " ++ (name_of sub ++ codes "\n")

abbrev pub ledger_in : SubView → (body : List ℕ) → Option Finding
ledger_in sub body = if starts_with nat_eq body (first_line sub) then Some found.Ledger else None

-- the finding for a call of a status and a body; none if they are none of the call's answers
abbrev pub finding_of : Call → (status : ℕ) → (body : List ℕ) → Option Finding
finding_of (Account sub) status body = option_and_then (account_in (name_of sub) status) (data_of body)
finding_of (Ledger sub) status body =
    if status == 200 then ledger_in sub body else option_and_then (unknown_in status) (data_of body)
finding_of (TopUp sub ticket amount) status body = option_and_then (told_in status) (data_of body)

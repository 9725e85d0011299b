-- The groups of a message that are walked, in the order in which they stand, each before the groups inside it.
use Rattle.std.specs.Prelude.{ℕ, Bool, false, ◌==◌, ◌||◌, if◌then◌else◌, List, [], filter, Result, Ok, Err}
use Rattle.dcc_avp.specs.Spelling.{AvpView, has_code}
use Rattle.dcc_avp.specs.Reading.{FaultView, Short, LengthBelowHeader, LengthPastEnd, avps_of}
use Rattle.dcc_avp.specs.declared.codes.TheConstants.{VENDOR_SPECIFIC_APPLICATION_ID, SUBSCRIPTION_ID}
use Rattle.dcc_avp.specs.declared.codes.TheConstants.{REQUESTED_SERVICE_UNIT, USED_SERVICE_UNIT, MULTIPLE_SERVICES_CREDIT_CONTROL}
use Rattle.dcc_request.specs.declared.command.Command.{Command}
use Rattle.dcc_request.specs.declared.command.Command.TheVariants.{CapabilitiesExchange, DeviceWatchdog, DisconnectPeer, CreditControl}
use Rattle.dcc_request.specs.Refusals.{Refusal, ◌>>=◌, each}
use Rattle.dcc_request.specs.Layout.{unread}

-- the list of a walked group, with the code of the group
pub record ListView : Type 0 where
  pub code : ℕ
  pub avps : List AvpView

-- a walked group, and the walked groups inside it
pub record GroupView : Type 0 where
  pub list : ListView
  pub inside : List ListView

-- a fault of a group's list: if too few octets are left for a header, it has the code and flags of the group
abbrev pub in_group : AvpView → FaultView → FaultView
in_group group (Short code flags) = Short group.code group.flags
in_group group (LengthBelowHeader code flags) = LengthBelowHeader code flags
in_group group (LengthPastEnd code flags) = LengthPastEnd code flags

abbrev pub group_list : AvpView → Result (List AvpView) FaultView → Result ListView Refusal
group_list group (Ok avps) = Ok (record { code = group.code; avps = avps })
group_list group (Err fault) = Err (unread (in_group group fault))

-- the list of a group, or the refusal of its layout
unfoldable pub list_of : AvpView → Result ListView Refusal
list_of group = group_list group (avps_of group.value)

-- an AVP is an amount of units, asked for or used
abbrev pub is_units : AvpView → Bool
is_units avp = has_code REQUESTED_SERVICE_UNIT avp || has_code USED_SERVICE_UNIT avp

-- an AVP of a message's list is a walked group
abbrev pub is_walked : Command → AvpView → Bool
is_walked CapabilitiesExchange avp = has_code VENDOR_SPECIFIC_APPLICATION_ID avp
is_walked DeviceWatchdog avp = false
is_walked DisconnectPeer avp = false
is_walked CreditControl avp = has_code SUBSCRIPTION_ID avp || has_code MULTIPLE_SERVICES_CREDIT_CONTROL avp || is_units avp

-- the groups inside a group: the units of a Multiple-Services-Credit-Control alone
abbrev pub inside_of : ListView → Result (List ListView) Refusal
inside_of list = if list.code == MULTIPLE_SERVICES_CREDIT_CONTROL then each list_of (filter is_units list.avps) else Ok []

-- a group, and the walked groups inside it
unfoldable pub group_of : AvpView → Result GroupView Refusal
group_of avp = do
  list ← list_of avp
  inside ← inside_of list
  Ok (record { list = list; inside = inside })

-- the walked groups of a message's list, or the refusal of the first that can't be read
abbrev pub groups_of : Command → List AvpView → Result (List GroupView) Refusal
groups_of command avps = each group_of (filter (is_walked command) avps)

-- The text of an account.
use Rattle.std.specs.Prelude.{ℕ, Bool, ◌==◌, ◌||◌, nat_lt, if◌then◌else◌, List, [], ◌∷◌, ◌++◌, codes, Option, Some, None}
use Rattle.std.specs.Fmt.{decimal, signed_decimal}
use Rattle.std.specs.List.{flat_map}
use Rattle.hex.specs.Hex.{encode_lower}
use Rattle.dcc_tariff.specs.declared.tariff.UnitKind.{UnitKind}
use Rattle.dcc_tariff.specs.declared.tariff.UnitKind.TheVariants.{Octets, Time, Units}
use Rattle.dcc_act.specs.Subs.{SubView}
use Rattle.dcc_session.specs.Grants.{held_price}
use Rattle.dcc_session.specs.declared.held.Held.{Held}
use Rattle.dcc_state.specs.OpenSessions.{SessionView}
use Rattle.dcc_port.specs.declared.account.Money.{Money}

-- an octet of a text in JSON: a quote and a backslash have a backslash before them
abbrev pub escaped : ℕ → List ℕ
escaped octet = if (octet == 34) || (octet == 92) then 92 ∷ octet ∷ [] else octet ∷ []

-- an octet of a name of any octets in JSON: if it is no visible ASCII and no space, it is the character of its number (RFC 8259, section 7)
abbrev pub name_octet : ℕ → List ℕ
name_octet octet = if nat_lt octet 32 || nat_lt 126 octet then codes "\\u00" ++ encode_lower (octet ∷ []) else escaped octet

-- texts of items, with commas between them
unfoldable pub with_commas : {A : Type 0} → (A → List ℕ) → List A → List ℕ
with_commas text [] = []
with_commas text (first ∷ rest) = text first ++ flat_map (λ one. codes "," ++ text one) rest

-- a subscriber in JSON
abbrev pub sub_text : SubView → List ℕ
sub_text sub = codes "\"" ++ decimal sub.kind ++ codes ":" ++ flat_map escaped sub.name ++ codes "\""

-- the money of an account, in minor units, and the number of its acts
unfoldable pub money_text : Money → List ℕ
money_text money =
    codes ",\"funds\":" ++ (signed_decimal money.funds ++ (codes ",\"reserved\":" ++ (signed_decimal money.reserved
    ++ (codes ",\"free\":" ++ (signed_decimal money.free ++ (codes ",\"overrun\":" ++ (signed_decimal money.overrun
    ++ (codes ",\"acts\":" ++ decimal money.acts))))))))

-- a part of the key of a grant's service, if the key has this part
unfoldable pub key_text : List ℕ → Option ℕ → List ℕ
key_text name None = []
key_text name (Some number) = codes "\"" ++ (name ++ (codes "\":" ++ (decimal number ++ codes ",")))

-- a unit, by its word in plans
abbrev pub unit_word : UnitKind → List ℕ
unit_word Octets = codes "octets"
unit_word Time = codes "time"
unit_word Units = codes "units"

-- units, and the money that is held for them, in minor units
unfoldable pub units_text : (unit : List ℕ) → (units price : ℕ) → List ℕ
units_text unit units price =
    codes "\"unit\":\"" ++ (unit ++ (codes "\",\"units\":" ++ (decimal units ++ (codes ",\"price\":" ++ (decimal price ++ codes "}")))))

-- a live grant
abbrev pub grant_text : Held → List ℕ
grant_text held =
    codes "{" ++ key_text (codes "group") held.key.group ++ key_text (codes "service") held.key.id
    ++ units_text (unit_word held.grant.unit) held.grant.units (held_price held)

-- a deadline, in seconds since 1970-01-01T00:00:00Z
unfoldable pub deadline_text : ℕ → List ℕ
deadline_text deadline = codes "\",\"deadline\":" ++ (decimal deadline ++ codes ",\"grants\":[")

-- the name and the deadline of an open session
unfoldable pub name_text : List ℕ → ℕ → List ℕ
name_text sid deadline = codes "{\"session\":\"" ++ flat_map name_octet sid ++ deadline_text deadline

-- an open session: its name, its deadline, and its live grants
unfoldable pub session_text : SessionView → List ℕ
session_text session = name_text session.sid session.deadline ++ with_commas grant_text session.grants ++ codes "]}"

-- an account: its money, and its open sessions
unfoldable pub account_text : SubView → Money → List SessionView → List ℕ
account_text sub money sessions =
    codes "{\"subscriber\":" ++ sub_text sub ++ money_text money ++ codes ",\"sessions\":[" ++ with_commas session_text sessions ++ codes "]}"

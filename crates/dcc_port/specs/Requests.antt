-- The calls of requests.
use Rattle.std.specs.Prelude.{ℕ, Bool, true, not, ◌&&◌, ◌||◌, ◌==◌, nat_le, if◌then◌else◌, is_some, List, codes, Option, Some, None}
use Rattle.std.specs.List.{list_all}
use Rattle.http.specs.declared.request.Request.{Request}
use Rattle.http.specs.Request.{head_of, body_of}
use Rattle.http.specs.Uri.{uri_path}
use Rattle.http_header.specs.HeaderMap.{Entries, get}
use Rattle.http_header.specs.FieldValue.{FieldValue}
use Rattle.dcc_port.specs.Calls.{call_of}
use Rattle.dcc_port.specs.declared.call.Call.{Call}
use Rattle.dcc_port.specs.declared.call.Call.TheVariants as calls
use Rattle.dcc_port.specs.declared.call.Flaw.{Flaw}
use Rattle.dcc_port.specs.declared.call.Flaw.TheVariants as flaws

-- an octet of an address in numbers and of its port: a digit, a dot or a colon
abbrev pub is_of_address : ℕ → Bool
is_of_address octet = (nat_le 48 octet && nat_le octet 57) || ((octet == 46) || (octet == 58))

-- a host is such an address, or is missing
abbrev pub is_at_address : Option FieldValue → Bool
is_at_address None = true
is_at_address (Some value) = list_all is_of_address value.bytes

-- A request may come from a page of a browser: it has an `Origin`, or its host is no address in numbers.
unfoldable pub is_foreign : Entries FieldValue → Bool
is_foreign fields = is_some (get fields (codes "origin")) || not (is_at_address (get fields (codes "host")))

-- what such a request has: an origin, or else a host by name
abbrev pub foreign_flaw : Entries FieldValue → Flaw
foreign_flaw fields = if is_some (get fields (codes "origin")) then flaws.Origin else flaws.Host

-- the call of a request, by its method, its path without the query, and its body; none of a page of a browser
abbrev pub call_for : Request (List ℕ) → Call
call_for request =
    if is_foreign (head_of request).headers then calls.Flawed (foreign_flaw (head_of request).headers)
    else call_of (head_of request).method (uri_path (head_of request).uri) (body_of request)

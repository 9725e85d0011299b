-- The record of an act, version 1: it has neither the limit by which an initial request was judged nor its host.
use Rattle.std.specs.Prelude.{◌≡◌, ℕ, ◌≤◌, List, [], ◌∷◌, ◌++◌, length, None}
use Rattle.dcc_act.specs.declared.act.Act.{Act}
use Rattle.dcc_act.specs.declared.act.Kind.{Kind}
use Rattle.dcc_act.specs.declared.act.Kind.TheVariants as kind
use Rattle.dcc_act.specs.declared.session_limit.SessionLimit.TheVariants.{Few}
use Rattle.dcc_act.specs.Services.{ServiceView}
use Rattle.dcc_act_codec.specs.Limits.{IsAct}
use Rattle.dcc_act_codec.specs.Records.{u64_octets, request_octets, kind_octet, kind_octets}

-- the parts of a kind: an initial request is spelled as the other requests of a session are
abbrev pub old_kind_octets : Kind → List ℕ
old_kind_octets (kind.Initial request limit host) = request_octets request
old_kind_octets other = kind_octets other

-- a record of version 1: the version, the octet of the act's kind, its moment, and the parts of its kind
unfoldable pub old_record_of : Act → List ℕ
old_record_of act = 1 ∷ kind_octet act.kind ∷ u64_octets act.moment ++ old_kind_octets act.kind

-- the services of a request
abbrev pub services_of : Kind → List ServiceView
services_of (kind.TopUp top_up) = []
services_of (kind.Initial request limit host) = request.services
services_of (kind.Update request) = request.services
services_of (kind.Termination request) = request.services
services_of (kind.Event event) = event.service ∷ []
services_of kind.Expiry = []

-- an initial request was judged by 64 sessions, and its host is not known
abbrev pub IsOfOldKind : Kind → Type 0
IsOfOldKind (kind.Initial request limit host) = (limit ≡ Few) × (host ≡ None)
IsOfOldKind other = Unit {0}

-- an act that has a record of version 1: within its limits, with at most 16 services
pub record IsOldAct (act : Act) : Type 0 where
  pub is_act : IsAct act
  pub few : length (services_of act.kind) ≤ 16
  pub plain : IsOfOldKind act.kind

-- Reading a record of version 1.
use Rattle.std.specs.Prelude.{ℕ, ◌==◌, nat_le, if◌then◌else◌, List, length, Option, Some, None}
use Rattle.dcc_act.specs.declared.act.Act.{Act}
use Rattle.dcc_act.specs.declared.act.Kind.{Kind}
use Rattle.dcc_act.specs.declared.act.Kind.TheVariants as kind
use Rattle.dcc_act.specs.declared.limits.TheConstants.{FEW_SERVICES}
use Rattle.dcc_act.specs.declared.session_limit.SessionLimit.TheVariants.{Few}
use Rattle.dcc_act.specs.declared.session_request.SessionRequest.{SessionRequest}
use Rattle.dcc_act_codec.specs.inner.Readers.{Reader, checked, whole}
use Rattle.dcc_act_codec.specs.inner.Reading.{request_in, kind_in, act_by}

-- a request of at most 16 services
unfoldable pub old_request_in : Reader SessionRequest
old_request_in = checked (λ request. if nat_le (length request.services) FEW_SERVICES then Some request else None) request_in

-- the kind that an octet stands for, with its parts in front
unfoldable pub old_kind_in : ℕ → Reader Kind
old_kind_in octet octets =
    if octet == 2 then checked (λ request. Some (kind.Initial request Few None)) old_request_in octets else
    (if octet == 3 then checked (λ request. Some (kind.Update request)) old_request_in octets else
    (if octet == 4 then checked (λ request. Some (kind.Termination request)) old_request_in octets else kind_in octet octets))

-- the act in front, and the act of all the octets
unfoldable pub first_old_act_in : Reader Act
first_old_act_in = act_by 1 old_kind_in

abbrev pub old_act_in : List ℕ → Option Act
old_act_in = whole first_old_act_in

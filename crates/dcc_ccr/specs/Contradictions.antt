-- AVPs that can't stand side by side (RFC 6733, section 7.1.5, DIAMETER_CONTRADICTING_AVPS).
use Rattle.std.specs.Prelude.{ℕ, ◌+◌, Bool, true, false, ◌==◌, ◌&&◌, ◌++◌, if◌then◌else◌, List, [], ◌∷◌, length, filter, find, slice_get, Option, Some, None, option_map}
use Rattle.std.specs.Option.{option_and_then, option_or}
use Rattle.dcc_avp.specs.Spelling.{AvpView, has_code}
use Rattle.dcc_avp.specs.declared.codes.TheConstants.{REQUESTED_SERVICE_UNIT, USED_SERVICE_UNIT, MULTIPLE_SERVICES_CREDIT_CONTROL}
use Rattle.dcc_request.specs.declared.cause.Cause.TheVariants.{ContradictingAvps}
use Rattle.dcc_request.specs.Refusals.{Refusal, or_else}
use Rattle.dcc_ccr.specs.declared.request_type.RequestType.{RequestType}
use Rattle.dcc_ccr.specs.Types.{is_event}
use Rattle.dcc_ccr.specs.Services.{ServiceView}

-- the refusal with both AVPs
abbrev pub contradicting : AvpView → AvpView → Refusal
contradicting first second = record { cause = ContradictingAvps; failed = first ∷ second ∷ [] }

-- the Multiple-Services-Credit-Control at a place, counted from 0
abbrev pub multi_at : List AvpView → ℕ → Option AvpView
multi_at avps i = slice_get (filter (has_code MULTIPLE_SERVICES_CREDIT_CONTROL) avps) i

-- the refusal with those at two places, if both are there
unfoldable pub both_at : List AvpView → (first second : ℕ) → Option Refusal
both_at avps first second = option_and_then (λ a. option_map (contradicting a) (multi_at avps second)) (multi_at avps first)

-- units at the level of the message, asked for or else used, beside a Multiple-Services-Credit-Control
unfoldable pub units_beside : List AvpView → Option Refusal
units_beside avps =
    option_and_then (λ units. option_map (contradicting units) (multi_at avps 0))
    (option_or (find (has_code REQUESTED_SERVICE_UNIT) avps) (find (has_code USED_SERVICE_UNIT) avps))

-- an event with more than one Multiple-Services-Credit-Control
abbrev pub several_in_event : RequestType → List AvpView → Option Refusal
several_in_event type avps = if is_event type then both_at avps 0 1 else None

-- the key of a service: its Rating-Group and its first Service-Identifier, as sent, each or none
abbrev pub same_number : Option ℕ → Option ℕ → Bool
same_number None None = true
same_number (Some a) (Some b) = a == b
same_number None (Some b) = false
same_number (Some a) None = false

abbrev pub same_key : ServiceView → ServiceView → Bool
same_key a b = same_number a.group b.group && same_number (slice_get a.ids 0) (slice_get b.ids 0)

-- the place of the first service that has the key of another
abbrev pub place_of : ServiceView → List ServiceView → (from : ℕ) → Option ℕ
place_of service [] from = None
place_of service (other ∷ others) from = if same_key other service then Some from else place_of service others (from + 1)

-- the places of the first service that has the key of a service before it, and of that service before
abbrev pub repeated : (before after : List ServiceView) → Option (ℕ × ℕ)
repeated before [] = None
repeated before (service ∷ after) =
    or_else (option_map (λ first. (first, length before)) (place_of service before 0)) (repeated (before ++ service ∷ []) after)

-- two services of one key: the pair whose second service comes first
abbrev pub same_keys : List ServiceView → List AvpView → Option Refusal
same_keys services avps = option_and_then (λ places. both_at avps places.0 places.1) (repeated [] services)

-- the first contradiction of a request of this type with these services in Multiple-Services-Credit-Control
unfoldable pub contradiction : RequestType → List ServiceView → List AvpView → Option Refusal
contradiction type services avps =
    or_else (units_beside avps) (or_else (several_in_event type avps) (same_keys services avps))

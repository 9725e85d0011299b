-- The subscriber whose account a request is for (RFC 8506, sections 8.46 to 8.48).
use Rattle.std.specs.Prelude.{ℕ, ◌==◌, if◌then◌else◌, List, filter, find, slice_get, Option, Some, None, Result, Ok, Err}
use Rattle.std.specs.Option.{option_or}
use Rattle.dcc_avp.specs.Spelling.{AvpView, has_code}
use Rattle.dcc_avp.specs.declared.codes.TheConstants.{SUBSCRIPTION_ID, SUBSCRIPTION_ID_TYPE, SUBSCRIPTION_ID_DATA}
use Rattle.dcc_act.specs.Subs.{SubView, is_sub}
use Rattle.dcc_request.specs.declared.cause.Cause.TheVariants.{InvalidAvpValue}
use Rattle.dcc_request.specs.Refusals.{Refusal, refusal, each, ◌>>=◌}
use Rattle.dcc_request.specs.Layout.{message_list}
use Rattle.dcc_request.specs.Values.{required, number, number_within}
use Rattle.dcc_ccr.specs.declared.subscription.TheConstants.{E164}

-- a Subscription-Id: the number of its type, and the AVPs of its type and its data
pub record SubscriptionView : Type 0 where
  pub kind : ℕ
  pub type : AvpView
  pub name : AvpView

-- a Subscription-Id whose type has the size of a number; the checks of lists have shown that its data is there
unfoldable pub subscription_of : AvpView → Result SubscriptionView Refusal
subscription_of avp = do
  avps ← message_list avp.value
  type ← required avps SUBSCRIPTION_ID_TYPE
  kind ← number type
  name ← required avps SUBSCRIPTION_ID_DATA
  Ok (record { kind = kind; type = type; name = name })

-- the first of type E164, or else the first
abbrev pub chosen : List SubscriptionView → Option SubscriptionView
chosen subscriptions = option_or (find (λ s. s.kind == E164) subscriptions) (slice_get subscriptions 0)

-- the subscriber of the chosen Subscription-Id: its type is judged first, and then its data
unfoldable pub sub_of : SubscriptionView → Result SubView Refusal
sub_of subscription = do
  kind ← number_within subscription.type 0 4
  if is_sub kind subscription.name.value
      then Ok (record { kind = kind; name = subscription.name.value })
      else Err (refusal InvalidAvpValue subscription.name)

-- without a Subscription-Id there is no subscriber
abbrev pub sub_of_chosen : Option SubscriptionView → Result (Option SubView) Refusal
sub_of_chosen None = Ok None
sub_of_chosen (Some subscription) = sub_of subscription >>= λ sub. Ok (Some sub)

-- the sizes of all Subscription-Ids are checked in their order, and then the chosen one is judged; the checks of lists have shown that one
-- is there if one has to be
unfoldable pub subscriber_of : List AvpView → Result (Option SubView) Refusal
subscriber_of avps = do
  subscriptions ← each subscription_of (filter (has_code SUBSCRIPTION_ID) avps)
  sub_of_chosen (chosen subscriptions)

-- The families of a page: their names, and the labels of their numbers.
use Rattle.std.specs.Prelude.{ℕ, List, [], ◌∷◌, ◌++◌, codes, slice_get, unwrap_or, Option, Some, None}
use Rattle.std.specs.Fmt.{decimal}
use Rattle.dcc_metrics.specs.declared.family.Family.{Family}
use Rattle.dcc_metrics.specs.declared.family.Family.TheVariants as families
use Rattle.dcc_metrics.specs.declared.family.Labels.{Labels}
use Rattle.dcc_metrics.specs.declared.family.Labels.TheVariants as labels
use Rattle.dcc_metrics.specs.declared.requests.RequestKind.{RequestKind}
use Rattle.dcc_metrics.specs.declared.requests.RequestKind.TheVariants as kinds
use Rattle.dcc_metrics.specs.declared.requests.TheConstants.{KINDS}
use Rattle.dcc_metrics.specs.declared.results.TheConstants.{RESULTS}

unfoldable pub name_of : Family → List ℕ
name_of families.Gateways = codes "dcc_gateways"
name_of families.GatewaysTotal = codes "dcc_gateways_total"
name_of families.GatewayInfo = codes "dcc_gateway_info"
name_of families.Requests = codes "dcc_requests_total"
name_of families.Answers = codes "dcc_answers_total"
name_of families.Acts = codes "dcc_acts_total"
name_of families.Repeats = codes "dcc_repeats_total"
name_of families.Busy = codes "dcc_busy_total"
name_of families.Subscribers = codes "dcc_subscribers"
name_of families.Sweeps = codes "dcc_sweeps_total"
name_of families.SessionsEnded = codes "dcc_sessions_ended_total"
name_of families.Batches = codes "dcc_batches_total"
name_of families.LaneItems = codes "dcc_lane_items"
name_of families.Audits = codes "dcc_audits_total"
name_of families.AuditedReceipts = codes "dcc_audited_receipts_total"
name_of families.AuditSeconds = codes "dcc_audit_seconds_total"
name_of families.Seconds = codes "dcc_answer_seconds"

unfoldable pub help_of : Family → List ℕ
help_of families.Gateways = codes "Gateways that are connected."
help_of families.GatewaysTotal = codes "Gateways that have connected."
help_of families.GatewayInfo = codes "Hosts of gateways that are connected."
help_of families.Requests = codes "Messages of gateways, by command and CC-Request-Type."
help_of families.Answers = codes "Answers, by Result-Code."
help_of families.Acts = codes "Acts held by a shard."
help_of families.Repeats = codes "Requests and top-ups that repeat an act."
help_of families.Busy = codes "Requests that a shard answered as busy."
help_of families.Subscribers = codes "Subscribers with acts in a shard."
help_of families.Sweeps = codes "Sweeps that a shard was asked for."
help_of families.SessionsEnded = codes "Sessions that sweeps ended."
help_of families.Batches = codes "Batches of items that a worker took."
help_of families.LaneItems = codes "Items that a worker took last together."
help_of families.Audits = codes "Audits of the receipts of a shard."
help_of families.AuditedReceipts = codes "Receipts of a shard that were audited."
help_of families.AuditSeconds = codes "Time that audits took."
help_of families.Seconds = codes "Time from the reading of a request to its answer."

unfoldable pub type_of : Family → List ℕ
type_of families.Gateways = codes "gauge"
type_of families.GatewaysTotal = codes "counter"
type_of families.GatewayInfo = codes "gauge"
type_of families.Requests = codes "counter"
type_of families.Answers = codes "counter"
type_of families.Acts = codes "counter"
type_of families.Repeats = codes "counter"
type_of families.Busy = codes "counter"
type_of families.Subscribers = codes "gauge"
type_of families.Sweeps = codes "counter"
type_of families.SessionsEnded = codes "counter"
type_of families.Batches = codes "counter"
type_of families.LaneItems = codes "gauge"
type_of families.Audits = codes "counter"
type_of families.AuditedReceipts = codes "counter"
type_of families.AuditSeconds = codes "counter"
type_of families.Seconds = codes "histogram"

-- what the numbers of a family are of
abbrev pub labels_of : Family → Labels
labels_of families.Gateways = labels.Server
labels_of families.GatewaysTotal = labels.Server
labels_of families.GatewayInfo = labels.Server
labels_of families.Requests = labels.Kind
labels_of families.Answers = labels.Result
labels_of families.Acts = labels.Shard
labels_of families.Repeats = labels.Shard
labels_of families.Busy = labels.Shard
labels_of families.Subscribers = labels.Shard
labels_of families.Sweeps = labels.Shard
labels_of families.SessionsEnded = labels.Shard
labels_of families.Batches = labels.Shard
labels_of families.LaneItems = labels.Shard
labels_of families.Audits = labels.Shard
labels_of families.AuditedReceipts = labels.Shard
labels_of families.AuditSeconds = labels.Server
labels_of families.Seconds = labels.Bound

abbrev pub command_of : RequestKind → List ℕ
command_of kinds.Capabilities = codes "CER"
command_of kinds.Watchdog = codes "DWR"
command_of kinds.Disconnect = codes "DPR"
command_of kinds.Initial = codes "CCR"
command_of kinds.Update = codes "CCR"
command_of kinds.Termination = codes "CCR"
command_of kinds.Event = codes "CCR"
command_of kinds.Untyped = codes "CCR"
command_of kinds.Other = codes "other"

abbrev pub type_label : RequestKind → List ℕ
type_label kinds.Capabilities = codes ""
type_label kinds.Watchdog = codes ""
type_label kinds.Disconnect = codes ""
type_label kinds.Initial = codes "initial"
type_label kinds.Update = codes "update"
type_label kinds.Termination = codes "termination"
type_label kinds.Event = codes "event"
type_label kinds.Untyped = codes ""
type_label kinds.Other = codes ""

abbrev pub kind_at : ℕ → RequestKind
kind_at index = unwrap_or (slice_get KINDS index) kinds.Other

unfoldable pub kind_text : RequestKind → List ℕ
kind_text kind = codes "{command=\"" ++ command_of kind ++ codes "\",type=\"" ++ type_label kind ++ codes "\"}"

-- a Result-Code, or `other`
abbrev pub code_text : Option ℕ → List ℕ
code_text (Some code) = decimal code
code_text None = codes "other"

unfoldable pub result_text : ℕ → List ℕ
result_text index = codes "{result=\"" ++ code_text (slice_get RESULTS index) ++ codes "\"}"

unfoldable pub shard_text : ℕ → List ℕ
shard_text index = codes "{shard=\"" ++ decimal index ++ codes "\"}"

-- the bounds of buckets in seconds
abbrev pub bounds : List (List ℕ)
bounds =
    codes "0.0001" ∷ codes "0.00025" ∷ codes "0.0005" ∷ codes "0.001" ∷ codes "0.0025" ∷ codes "0.005" ∷ codes "0.01" ∷ codes "0.025" ∷ codes "0.05"
    ∷ codes "0.1" ∷ codes "0.25" ∷ codes "0.5" ∷ codes "1" ∷ codes "2.5" ∷ []

-- the last bucket has no bound
unfoldable pub bound_at : ℕ → List ℕ
bound_at index = unwrap_or (slice_get bounds index) (codes "+Inf")

unfoldable pub bound_text : ℕ → List ℕ
bound_text index = codes "_bucket{le=\"" ++ bound_at index ++ codes "\"}"

-- what stands between a family's name and its number of this index
abbrev pub tail_of : Labels → ℕ → List ℕ
tail_of labels.Server index = []
tail_of labels.Kind index = kind_text (kind_at index)
tail_of labels.Result index = result_text index
tail_of labels.Shard index = shard_text index
tail_of labels.Bound index = bound_text index

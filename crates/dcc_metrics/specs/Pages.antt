-- The page of counters in the text format 0.0.4 of Prometheus.
use Rattle.std.specs.Prelude.{ℕ, ◌+◌, List, [], ◌∷◌, ◌++◌, codes, length, slice_index}
use Rattle.std.specs.Fmt.{decimal}
use Rattle.dcc_metrics.specs.Families.{help_of, labels_of, name_of, tail_of, type_of}
use Rattle.dcc_metrics.specs.Times.{cumulated, seconds_text}
use Rattle.dcc_metrics.specs.declared.bounds.TheConstants.{BOUNDS}
use Rattle.dcc_metrics.specs.declared.counts.ActCounts.{ActCounts}
use Rattle.dcc_metrics.specs.declared.counts.AuditCounts.{AuditCounts}
use Rattle.dcc_metrics.specs.declared.counts.ServerCounts.{ServerCounts}
use Rattle.dcc_metrics.specs.declared.counts.TimeCounts.{TimeCounts}
use Rattle.dcc_metrics.specs.declared.counts.WorkCounts.{WorkCounts}
use Rattle.dcc_metrics.specs.declared.family.Family.{Family}
use Rattle.dcc_metrics.specs.declared.family.Family.TheVariants as families

-- the two lines before the numbers of a family
abbrev pub head_text : (name help kind : List ℕ) → List ℕ
head_text name help kind = codes "# HELP " ++ name ++ codes " " ++ help ++ codes "\n# TYPE " ++ name ++ codes " " ++ kind ++ codes "\n"

abbrev pub head_of : Family → List ℕ
head_of family = head_text (name_of family) (help_of family) (type_of family)

-- a line: the family's name, what stands behind it, and the text of a number
unfoldable pub line_of : Family → (tail number : List ℕ) → List ℕ
line_of family tail number = name_of family ++ tail ++ codes " " ++ number ++ codes "\n"

-- the lines of numbers, the first of which has this index
unfoldable pub lines_of : Family → ℕ → List ℕ → List ℕ
lines_of family index [] = []
lines_of family index (n ∷ ns) = line_of family (tail_of (labels_of family) index) (decimal n) ++ lines_of family (index + 1) ns

unfoldable pub family_text : Family → List ℕ → List ℕ
family_text family numbers = head_of family ++ lines_of family 0 numbers

-- the families of the server and of its messages
unfoldable pub server_text : ServerCounts → List ℕ
server_text counts =
    family_text families.Gateways (counts.gateways ∷ []) ++ family_text families.GatewaysTotal (counts.came ∷ [])
    ++ family_text families.Requests counts.requests.items ++ family_text families.Answers counts.answers.items

-- the families of acts
unfoldable pub acts_text : ActCounts → List ℕ
acts_text counts =
    family_text families.Acts counts.acts.items ++ family_text families.Repeats counts.repeats.items ++ family_text families.Busy counts.busy.items
    ++ family_text families.Subscribers counts.subscribers.items

-- the families of the work of shards
unfoldable pub work_text : WorkCounts → List ℕ
work_text counts =
    family_text families.Sweeps counts.sweeps.items ++ family_text families.SessionsEnded counts.ended.items
    ++ family_text families.Batches counts.batches.items ++ family_text families.LaneItems counts.items.items

-- the families of audits: two by shard, and the time of all of them in seconds
unfoldable pub audits_text : AuditCounts → List ℕ
audits_text counts =
    family_text families.Audits counts.audits.items ++ family_text families.AuditedReceipts counts.receipts.items
    ++ head_of families.AuditSeconds ++ line_of families.AuditSeconds [] (seconds_text counts.micros)

-- the histogram of times: each bucket with all before it, the sum of the times in seconds, and their number, which the last bucket has
unfoldable pub times_text : TimeCounts → List ℕ
times_text counts =
    let all = cumulated 0 counts.buckets.items in
    family_text families.Seconds all ++ line_of families.Seconds (codes "_sum") (seconds_text counts.micros)
    ++ line_of families.Seconds (codes "_count") (decimal (slice_index all (length BOUNDS)))

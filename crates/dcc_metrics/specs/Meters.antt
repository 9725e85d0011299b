-- What a page says of a server: some counts, since no contract says which number a counter has.
use Rattle.std.specs.Prelude.{◌≡◌, ℕ, ◌+◌, List, [], ◌++◌, length}
use Rattle.dcc_metrics.specs.Hosts.{hosts_text}
use Rattle.dcc_metrics.specs.Pages.{acts_text, audits_text, server_text, times_text, work_text}
use Rattle.dcc_metrics.specs.declared.bounds.TheConstants.{BOUNDS}
use Rattle.dcc_metrics.specs.declared.counts.ActCounts.{ActCounts}
use Rattle.dcc_metrics.specs.declared.counts.AuditCounts.{AuditCounts}
use Rattle.dcc_metrics.specs.declared.counts.ServerCounts.{ServerCounts}
use Rattle.dcc_metrics.specs.declared.counts.TimeCounts.{TimeCounts}
use Rattle.dcc_metrics.specs.declared.counts.WorkCounts.{WorkCounts}
use Rattle.dcc_metrics.specs.declared.requests.TheConstants.{KINDS}
use Rattle.dcc_metrics.specs.declared.results.TheConstants.{RESULTS}

-- a number for each kind of requests, and for each Result-Code and all others
abbrev pub AddsServer : (old new : List ℕ) → Type 0
AddsServer old new =
    (counts : ServerCounts) × (length counts.requests.items ≡ length KINDS) × (length counts.answers.items ≡ length RESULTS + 1)
    × (new ≡ old ++ server_text counts)

-- a line for each host
abbrev pub AddsHosts : (old new : List ℕ) → Type 0
AddsHosts old new = (hosts : List (List ℕ)) × (new ≡ old ++ hosts_text hosts)

-- a number for each of so many shards
abbrev pub AddsActs : ℕ → (old new : List ℕ) → Type 0
AddsActs shards old new =
    (counts : ActCounts) × (length counts.acts.items ≡ shards) × (length counts.repeats.items ≡ shards) × (length counts.busy.items ≡ shards)
    × (length counts.subscribers.items ≡ shards) × (new ≡ old ++ acts_text counts)

abbrev pub AddsWork : ℕ → (old new : List ℕ) → Type 0
AddsWork shards old new =
    (counts : WorkCounts) × (length counts.sweeps.items ≡ shards) × (length counts.ended.items ≡ shards) × (length counts.batches.items ≡ shards)
    × (length counts.items.items ≡ shards) × (new ≡ old ++ work_text counts)

abbrev pub AddsAudits : ℕ → (old new : List ℕ) → Type 0
AddsAudits shards old new =
    (counts : AuditCounts) × (length counts.audits.items ≡ shards) × (length counts.receipts.items ≡ shards) × (new ≡ old ++ audits_text counts)

-- a number for each bucket
abbrev pub AddsTimes : (old new : List ℕ) → Type 0
AddsTimes old new = (counts : TimeCounts) × (length counts.buckets.items ≡ length BOUNDS + 1) × (new ≡ old ++ times_text counts)

-- a page of a server with so many shards: the families, one after another
abbrev pub IsPage : ℕ → List ℕ → Type 0
IsPage shards page =
    (server : List ℕ) × (hosts : List ℕ) × (acts : List ℕ) × (work : List ℕ) × (audits : List ℕ) × AddsServer [] server × AddsHosts server hosts
    × AddsActs shards hosts acts × AddsWork shards acts work × AddsAudits shards work audits × AddsTimes audits page

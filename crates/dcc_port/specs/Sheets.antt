-- The answers to an operator.
use Rattle.std.specs.Prelude.{ℕ, zero, suc, ◌+◌, ◌==◌, Bool, if◌then◌else◌, List, [], ◌∷◌, ◌++◌, length, codes}
use Rattle.std.specs.Fmt.{decimal}
use Rattle.std.specs.List.{flat_map, list_any}
use Rattle.http_server.specs.declared.response.Response.{Response}
use Rattle.http_server.specs.Response.{IsResponse}
use Rattle.dcc_port.specs.Accounts.{escaped}
use Rattle.dcc_port.specs.declared.backup.BackupEnd.{BackupEnd}
use Rattle.dcc_port.specs.declared.backup.BackupEnd.TheVariants.{Done, There, NoFolder, Uncopied}
use Rattle.dcc_port.specs.declared.call.Flaw.{Flaw}
use Rattle.dcc_port.specs.declared.call.Flaw.TheVariants.{Path, Method, Subscriber, Body, Line, Folder, Origin, Host}
use Rattle.dcc_port.specs.declared.call.BodySlip.{BodySlip}
use Rattle.dcc_port.specs.declared.call.BodySlip.TheVariants.{NoJson, Missing, NoNumber}
use Rattle.dcc_port.specs.declared.call.LineSlip.{LineSlip}
use Rattle.dcc_port.specs.declared.call.LineSlip.TheVariants as slips
use Rattle.dcc_port.specs.declared.call.Member.TheVariants.{Ticket, Amount}
use Rattle.dcc_port.specs.declared.call.Verb.{Verb}
use Rattle.dcc_port.specs.declared.call.Verb.TheVariants.{Get, Post}
use Rattle.dcc_port.specs.declared.sheet.Kind.{Kind}
use Rattle.dcc_port.specs.declared.sheet.Kind.TheVariants.{Json, Plain, Metrics}
use Rattle.dcc_port.specs.declared.sweeping.Swept.{Swept}
use Rattle.dcc_port.specs.Calls.{name_of}

-- what a response says: its status, its fields and its content
pub record Sheet : Type 0 where
  pub status : ℕ
  pub fields : List (List ℕ × List ℕ)
  pub content : List ℕ

abbrev pub IsSheet : Sheet → Response → Type 0
IsSheet sheet response = IsResponse sheet.status sheet.fields sheet.content response

-- memory was short: a 500 without a word
abbrev pub IsShort : Response → Type 0
IsShort response = IsResponse 500 [] [] response

-- the media type of a text
abbrev pub type_of : Kind → List ℕ
type_of Json = codes "application/json"
type_of Plain = codes "text/plain; charset=utf-8"
type_of Metrics = codes "text/plain; version=0.0.4"

abbrev pub type_field : Kind → List ℕ × List ℕ
type_field kind = (codes "content-type", type_of kind)

abbrev pub sheet_of : Kind → ℕ → List ℕ → Sheet
sheet_of kind status text = record { status = status; fields = type_field kind ∷ []; content = text }

-- a refused request: its status, its text, and the method that the path has
abbrev pub flaw_status : Flaw → ℕ
flaw_status Path = 404
flaw_status (Method verb) = 405
flaw_status Subscriber = 400
flaw_status (Body slip) = 400
flaw_status (Line line slip) = 400
flaw_status Folder = 400
flaw_status Origin = 403
flaw_status Host = 403

abbrev pub method_text : Verb → List ℕ
method_text Get = codes "{\"error\":\"other method\",\"in\":\"method\",\"expected\":\"GET\"}"
method_text Post = codes "{\"error\":\"other method\",\"in\":\"method\",\"expected\":\"POST\"}"

-- the body of a top-up: the fault of each member has its own text
abbrev pub body_text : BodySlip → List ℕ
body_text NoJson = codes "{\"error\":\"body is no JSON\",\"in\":\"body\",\"expected\":\"an object in ASCII, as {\\\"ticket\\\":1,\\\"amount\\\":1000}\"}"
body_text (Missing Ticket) = codes "{\"error\":\"missing member\",\"in\":\"ticket\",\"expected\":\"a whole number of 0 to 18446744073709551615\"}"
body_text (Missing Amount) = codes "{\"error\":\"missing member\",\"in\":\"amount\",\"expected\":\"a whole number of 0 to 18446744073709551615\"}"
body_text (NoNumber Ticket) = codes "{\"error\":\"no whole number\",\"in\":\"ticket\",\"expected\":\"0 to 18446744073709551615, without a point and without quotes\"}"
body_text (NoNumber Amount) = codes "{\"error\":\"no whole number\",\"in\":\"amount\",\"expected\":\"0 to 18446744073709551615, without a point and without quotes\"}"

-- a line of top-ups: its number, and behind it the word at fault and what its place expects
abbrev pub line_end : LineSlip → List ℕ
line_end slips.Count = codes "\",\"expected\":\"SUB TICKET AMOUNT, with one space between them, as 0:491700000001 1 1000\"}"
line_end slips.Subscriber = codes ", SUB\",\"expected\":\"TYPE:DATA, as 0:491700000001\"}"
line_end slips.Ticket = codes ", TICKET\",\"expected\":\"0 to 18446744073709551615\"}"
line_end slips.Amount = codes ", AMOUNT\",\"expected\":\"0 to 18446744073709551615\"}"

unfoldable pub line_text : ℕ → List ℕ → List ℕ
line_text line end = codes "{\"error\":\"unreadable top-up\",\"in\":\"line " ++ (decimal line ++ end)

abbrev pub flaw_text : Flaw → List ℕ
flaw_text Path =
    codes "{\"error\":\"unknown path\",\"in\":\"path\",\"expected\":\"/health, /metrics, /subscribers/SUB, its /ledger or /topups, /topups, /sweep, /backup or /stop\"}"
flaw_text (Method verb) = method_text verb
flaw_text Subscriber = codes "{\"error\":\"unreadable subscriber\",\"in\":\"path\",\"expected\":\"TYPE:DATA, percent-encoded, as 0:491700000001 or 4:a%2Fb\"}"
flaw_text (Body slip) = body_text slip
flaw_text (Line line slip) = line_text line (line_end slip)
flaw_text Folder = codes "{\"error\":\"unreadable folder\",\"in\":\"body\",\"expected\":\"{\\\"folder\\\":\\\"/PATH\\\"} in ASCII, with at most 1024 octets\"}"
flaw_text Origin = codes "{\"error\":\"origin of a page\",\"in\":\"field origin\",\"expected\":\"no such field: a page of a browser sends it\"}"
flaw_text Host = codes "{\"error\":\"host by name\",\"in\":\"field host\",\"expected\":\"an address in numbers, as 127.0.0.1 in place of localhost: a page of a browser may send a name\"}"

abbrev pub allowed : Flaw → List (List ℕ × List ℕ)
allowed (Method verb) = (codes "allow", name_of verb) ∷ []
allowed _ = []

abbrev pub flaw_sheet : Flaw → Sheet
flaw_sheet flaw = record { status = flaw_status flaw; fields = type_field Json ∷ allowed flaw; content = flaw_text flaw }

-- a subscriber without acts
abbrev pub unknown_sheet : Sheet
unknown_sheet = sheet_of Json 404 (codes "{\"error\":\"unknown subscriber\",\"in\":\"path\",\"expected\":\"a subscriber with acts\"}")

-- indexes behind earlier ones, with commas between them
abbrev pub with_index : List ℕ → ℕ → List ℕ
with_index text index = if length text == 0 then decimal index else text ++ codes "," ++ decimal index

-- the indexes of the stopped shards, of which the first has this index, behind earlier ones
unfoldable pub listed : ℕ → List Bool → List ℕ → List ℕ
listed index [] text = text
listed index (stopped ∷ told) text = listed (index + 1) told (if stopped then with_index text index else text)

-- whether each shard has stopped: the server is well if none has
abbrev pub health_sheet : List Bool → Sheet
health_sheet told =
    if list_any (λ stopped. stopped) told
    then sheet_of Json 503 (codes "{\"status\":\"stopped\",\"shards\":[" ++ listed 0 told [] ++ codes "]}")
    else sheet_of Json 200 (codes "{\"status\":\"ok\"}")

abbrev pub sweep_status : Bool → ℕ
sweep_status whole = if whole then 200 else 503

abbrev pub sweep_end : Bool → List ℕ
sweep_end whole = if whole then codes "}" else codes ",\"told\":\"ended\"}"

unfoldable pub sweep_text : (sessions refused : ℕ) → List ℕ → List ℕ
sweep_text sessions refused end =
    codes "{\"sessions\":" ++ (decimal sessions ++ (codes ",\"refused\":" ++ (decimal refused ++ end)))

-- The sessions that a sweep ended, and the subscribers that it refused. If the server ends, the sweep may have left subscribers out.
abbrev pub sweep_sheet : Swept → Sheet
sweep_sheet swept = sheet_of Json (sweep_status swept.whole) (sweep_text swept.tally.sessions swept.tally.refused (sweep_end swept.whole))

-- the server was told to end
abbrev pub stop_sheet : Sheet
stop_sheet = sheet_of Json 202 (codes "{\"told\":\"stop\"}")

-- the gauge of the shards: 1 for a shard that has stopped
abbrev pub gauge_head : List ℕ
gauge_head =
    codes "# HELP dcc_shard_stopped Whether the records of a shard have failed.\n# TYPE dcc_shard_stopped gauge\n"

abbrev pub gauge_value : Bool → List ℕ
gauge_value stopped = if stopped then codes "1" else codes "0"

unfoldable pub gauge_text : ℕ → List ℕ → List ℕ
gauge_text index value = codes "dcc_shard_stopped{shard=\"" ++ (decimal index ++ (codes "\"} " ++ (value ++ codes "\n")))

-- a line for each shard, of which the first has this index
unfoldable pub gauges : ℕ → List Bool → List ℕ
gauges index [] = []
gauges index (stopped ∷ told) = gauge_text index (gauge_value stopped) ++ gauges (index + 1) told

-- the page of the server's counters, and whether each shard has stopped
abbrev pub metrics_sheet : List ℕ → List Bool → Sheet
metrics_sheet page told = sheet_of Metrics 200 (page ++ gauge_head ++ gauges 0 told)

-- the files of a shard: its database and the log beside it
unfoldable pub file_text : ℕ → List ℕ
file_text index = codes "\"shard-" ++ (decimal index ++ (codes ".db\",\"shard-" ++ (decimal index ++ codes ".db-wal\"")))

-- the files of a shard behind others, with a comma between them
abbrev pub with_file : List ℕ → ℕ → List ℕ
with_file text index = if length text == 0 then file_text index else text ++ codes "," ++ file_text index

-- the files of so many shards
abbrev pub files : ℕ → List ℕ
files zero = []
files (suc count) = with_file (files count) count

-- the copies of so many shards in a folder
unfoldable pub copies_text : List ℕ → ℕ → List ℕ
copies_text folder count = codes "{\"folder\":\"" ++ flat_map escaped folder ++ codes "\",\"files\":[" ++ files count ++ codes "]}"

unfoldable pub uncopied_text : ℕ → List ℕ
uncopied_text index =
    codes "{\"error\":\"copy failed\",\"in\":\"shard " ++ (decimal index ++ codes "\",\"expected\":\"a disk with room, and files that the user of the server may write\"}")

-- a backup: its files, or the reason for which there are not all of them
abbrev pub backup_sheet : List ℕ → ℕ → BackupEnd → Sheet
backup_sheet folder count Done = sheet_of Json 200 (copies_text folder count)
backup_sheet folder count There =
    sheet_of Json 409 (codes "{\"error\":\"folder is there\",\"in\":\"folder\",\"expected\":\"the path of a new folder\"}")
backup_sheet folder count NoFolder =
    sheet_of Json 507 (codes "{\"error\":\"copy failed\",\"in\":\"folder\",\"expected\":\"a new folder in one that exists, and to which the user of the server may write\"}")
backup_sheet folder count (Uncopied index) = sheet_of Json 507 (uncopied_text index)

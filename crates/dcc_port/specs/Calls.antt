-- The calls of an operator.
use Rattle.std.specs.Prelude.{ℕ, Bool, false, ◌&&◌, nat_lt, nat_le, ◌==◌, if◌then◌else◌, List, [], ◌∷◌, length, bytes_eq, codes}
use Rattle.std.specs.Prelude.{Option, Some, None, option_and_then, Result, Ok, Err}
use Rattle.std.specs.List.{list_all, slice_split}
use Rattle.percent_encoding.specs.Percent.{percent_decode}
use Rattle.serde_json.specs.Data.{Data}
use Rattle.serde_json.specs.Find.{get, as_number, as_str, as_u64}
use Rattle.serde_json.specs.Read.{read}
use Rattle.dcc_act.specs.declared.sub.Sub.{Sub}
use Rattle.dcc_words.specs.Words.{◌>>=◌, sub}
use Rattle.dcc_port.specs.Lines.{asks_of, slip_in}
use Rattle.dcc_port.specs.declared.call.Ask.{Ask}
use Rattle.dcc_port.specs.declared.call.BodySlip.{BodySlip}
use Rattle.dcc_port.specs.declared.call.BodySlip.TheVariants.{NoJson, Missing, NoNumber}
use Rattle.dcc_port.specs.declared.call.Call.{Call}
use Rattle.dcc_port.specs.declared.call.Call.TheVariants as calls
use Rattle.dcc_port.specs.declared.call.Flaw.TheVariants as flaws
use Rattle.dcc_port.specs.declared.call.Member.{Member}
use Rattle.dcc_port.specs.declared.call.Member.TheVariants.{Ticket, Amount}
use Rattle.dcc_port.specs.declared.call.Verb.{Verb}
use Rattle.dcc_port.specs.declared.call.Verb.TheVariants.{Get, Post}

-- the name of a method
abbrev pub name_of : Verb → List ℕ
name_of Get = codes "GET"
name_of Post = codes "POST"

-- a call by its path's only method
abbrev pub by : Verb → List ℕ → Call → Call
by verb method call = if bytes_eq method (name_of verb) then call else calls.Flawed (flaws.Method verb)

abbrev pub member_name : Member → List ℕ
member_name Ticket = codes "ticket"
member_name Amount = codes "amount"

-- the number that a member has, or its slip
abbrev pub number_of : Member → Option ℕ → Result ℕ BodySlip
number_of member None = Err (NoNumber member)
number_of member (Some number) = Ok number

abbrev pub number_at : Member → Option Data → Result ℕ BodySlip
number_at member None = Err (Missing member)
number_at member (Some found) = number_of member (option_and_then as_u64 (as_number found))

-- the number of a member of an object in JSON, or its slip
abbrev pub member_in : Member → Data → Result ℕ BodySlip
member_in member found = number_at member (get (member_name member) found)

-- two numbers, or the first slip
abbrev pub both : Result ℕ BodySlip → Result ℕ BodySlip → Result (ℕ × ℕ) BodySlip
both (Err slip) amount = Err slip
both (Ok ticket) (Err slip) = Err slip
both (Ok ticket) (Ok amount) = Ok (ticket, amount)

-- the ticket and the amount of an object in JSON, or its first slip
abbrev pub ask_in : Data → Result (ℕ × ℕ) BodySlip
ask_in found = both (member_in Ticket found) (member_in Amount found)

abbrev pub ask_read : Option Data → Result (ℕ × ℕ) BodySlip
ask_read None = Err NoJson
ask_read (Some found) = ask_in found

-- whether a text is ASCII
abbrev pub is_ascii : List ℕ → Bool
is_ascii text = list_all (λ octet. nat_lt octet 128) text

-- the ticket and the amount of a body, which is ASCII text in JSON, or its first slip
unfoldable pub ask_of : List ℕ → Result (ℕ × ℕ) BodySlip
ask_of body = if is_ascii body then ask_read (read body) else Err NoJson

-- a path from the root
abbrev pub is_absolute : List ℕ → Bool
is_absolute [] = false
is_absolute (first ∷ path) = first == 47

-- a character of ASCII that is no control character
abbrev pub is_printed : ℕ → Bool
is_printed octet = nat_le 32 octet && nat_le octet 126

-- the path of a folder: from the root, and of 1 to 1,024 octets
abbrev pub is_folder : List ℕ → Bool
is_folder path = (is_absolute path && nat_le (length path) 1_024) && list_all is_printed path

abbrev pub if_folder : List ℕ → Option (List ℕ)
if_folder path = if is_folder path then Some path else None

-- the folder of an object in JSON
abbrev pub folder_in : Data → Option (List ℕ)
folder_in found = option_and_then as_str (get (codes "folder") found) >>= if_folder

-- the folder of a body: ASCII text in JSON
unfoldable pub folder_of : List ℕ → Option (List ℕ)
folder_of body = if is_ascii body then read body >>= folder_in else None

-- the call of a subscriber
abbrev pub of_sub : (Sub → Call) → Option Sub → Call
of_sub call None = calls.Flawed flaws.Subscriber
of_sub call (Some sub) = call sub

-- a top-up of a subscriber
abbrev pub top_up_of : Result (ℕ × ℕ) BodySlip → Sub → Call
top_up_of (Err slip) sub = calls.Flawed (flaws.Body slip)
top_up_of (Ok ask) sub = calls.TopUp sub ask.0 ask.1

-- the subscriber that a part of a path names
abbrev pub named : List ℕ → Option Sub
named part = sub (percent_decode part)

-- the top-ups of a text, as it was read
abbrev pub top_ups_of : List ℕ → Result (List Ask) ℕ → Call
top_ups_of text (Ok asks) = calls.TopUps asks
top_ups_of text (Err line) = calls.Flawed (flaws.Line line (slip_in text line))

-- a backup into a folder
abbrev pub backup_of : Option (List ℕ) → Call
backup_of None = calls.Flawed flaws.Folder
backup_of (Some folder) = calls.Backup folder

-- the call of a path with one part, to which a body is sent
unfoldable pub sent_call : (method page body : List ℕ) → Call
sent_call method page body =
    if bytes_eq page (codes "topups") then by Post method (top_ups_of body (asks_of body))
    else (if bytes_eq page (codes "backup") then by Post method (backup_of (folder_of body))
    else calls.Flawed flaws.Path)

-- the call of a path with one part
unfoldable pub page_call : (method page body : List ℕ) → Call
page_call method page body =
    if bytes_eq page (codes "health") then by Get method calls.Health
    else (if bytes_eq page (codes "metrics") then by Get method calls.Metrics
    else (if bytes_eq page (codes "sweep") then by Post method calls.Sweep
    else (if bytes_eq page (codes "stop") then by Post method calls.Stop
    else sent_call method page body)))

-- the call of a subscriber's page
unfoldable pub sub_call : (method who page body : List ℕ) → Call
sub_call method who page body =
    if bytes_eq page (codes "ledger") then by Get method (of_sub calls.Ledger (named who))
    else (if bytes_eq page (codes "topups") then by Post method (of_sub (top_up_of (ask_of body)) (named who))
    else calls.Flawed flaws.Path)

-- whether a path begins in this way: with an empty part, and with the part of subscribers
abbrev pub is_of_subs : (root subs : List ℕ) → Bool
is_of_subs root subs = (length root == 0) && bytes_eq subs (codes "subscribers")

-- the call of a path in parts, the first of which is in front of the path's first slash
unfoldable pub parts_call : (method : List ℕ) → List (List ℕ) → (body : List ℕ) → Call
parts_call method (root ∷ page ∷ []) body = if length root == 0 then page_call method page body else calls.Flawed flaws.Path
parts_call method (root ∷ subs ∷ who ∷ []) body =
    if is_of_subs root subs then by Get method (of_sub calls.Account (named who)) else calls.Flawed flaws.Path
parts_call method (root ∷ subs ∷ who ∷ page ∷ []) body =
    if is_of_subs root subs then sub_call method who page body else calls.Flawed flaws.Path
parts_call method _ body = calls.Flawed flaws.Path

-- the call of a request
unfoldable pub call_of : (method path body : List ℕ) → Call
call_of method path body = parts_call method (slice_split (λ octet. octet == 47) path) body

-- The rows of acts, by the version of their records.
use Rattle.std.specs.Prelude.{◌≡◌, ℕ, List, [], ◌∷◌}
use Rattle.sqlite.specs.declared.types.Value.TheVariants.{Int, Blob}
use Rattle.sqlite.specs.Order.{Row}
use Rattle.dcc_act.specs.declared.act.Act.{Act}
use Rattle.dcc_act_codec.specs.Limits.{IsAct}
use Rattle.dcc_act_codec.specs.Records.{record_of}
use Rattle.dcc_act_codec.specs.OldRecords.{old_record_of, IsOldAct}
use Rattle.dcc_sqlite_rows.specs.Rows.{sub_octets}
use Rattle.dcc_sqlite_rows.specs.Pages.{IsSub}
use Rattle.dcc_sqlite_rows.specs.declared.line.Line.{Line}
use Rattle.dcc_sqlite_rows.specs.declared.version.Version.{Version}
use Rattle.dcc_sqlite_rows.specs.declared.version.Version.TheVariants.{One, Two}

-- the record of an act, and the acts that have such a record
abbrev pub body_of : Version → Act → List ℕ
body_of One = old_record_of
body_of Two = record_of

abbrev pub HasBody : Version → Act → Type 0
HasBody One = IsOldAct
HasBody Two = IsAct

-- the row of an act of a subscriber, at whatever place
abbrev pub row_of : Version → Line → Row
row_of version line = Blob (sub_octets line.sub) ∷ Int line.place ∷ Blob (body_of version line.act) ∷ []

-- the row is the row of some act of some subscriber
abbrev pub IsRowOf : Version → Row → Type 0
IsRowOf version row = (line : Line) × IsSub line.sub × HasBody version line.act × (row ≡ row_of version line)

-- The work of a gateway's writer.
use Rattle.std.specs.Prelude.{◌≡◌, ℕ, ◌+◌, ◌-◌, ◌^◌, List, ◌++◌, Option}
use Rattle.dcc_connect.specs.Writing.{TakesAndWrites, ends_in, items_of}
use Rattle.dcc_connect.specs.declared.writing.Item.{Item}
use Rattle.dcc_connect.specs.declared.writing.WriteEnd.{WriteEnd}
use Rattle.dcc_lane.specs.Ends.{senders_of, taken_of, IsSameReceiver}
use Rattle.dcc_lane.specs.declared.receiver.Receiver.{Receiver}
use Rattle.dcc_lane.specs.declared.rule.Tagged.{Tagged}

-- once `ended` senders had ended, further items were taken until `senders` had ended
abbrev pub TakesRest : (ended senders : ℕ) → List (Tagged Item) → List (Tagged Item) → Type 0
TakesRest ended senders old new = (rest : List (Tagged Item)) × (new ≡ old ++ rest) × (ended + ends_in (items_of rest) ≡ senders)

-- The octets that went out to the connection are exactly those of the taken items that the writer's end defines. Items that came after it were
-- taken and dropped, until every sender had ended.
abbrev pub WritesOut : WriteEnd → Receiver Item → Receiver Item → Option (List ℕ) → Option (List ℕ) → Type 0
WritesOut end old new before after =
    (mid : List (Tagged Item)) × IsSameReceiver old new × TakesAndWrites end (senders_of old) (2 ^ 32 - 1) before after (taken_of old) mid
    × TakesRest end.ended (senders_of old) mid (taken_of new)

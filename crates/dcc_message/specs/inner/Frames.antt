-- Messages that were cut out of a stream.
use Rattle.std.specs.Prelude.{◌≡◌, ℕ, ◌+◌, ◌≤◌, true, false, List, ◌++◌, length, Vec}
use Rattle.std.specs.List.{flat_map, AllByRecursion}
use Rattle.dcc_message.specs.Streams.{octets_of, length_field, begins_whole}

-- the octets of messages, one after another
abbrev pub joined : {Z : Type 0} → List (Vec ℕ Z) → List ℕ
joined messages = flat_map octets_of messages

-- a whole message and nothing behind it
pub record IsMessage (octets : List ℕ) : Type 0 where
  pub whole : begins_whole octets ≡ true
  pub exact : length_field octets ≡ length octets

abbrev pub AreMessages : {Z : Type 0} → List (Vec ℕ Z) → Type 0
AreMessages messages = AllByRecursion (λ message. IsMessage message.items) messages

-- whole messages, and octets behind them that are no whole message
pub record IsHeld {Z : Type 0} (ready : List (Vec ℕ Z)) (begun : List ℕ) : Type 0 where
  pub messages : AreMessages ready
  pub less : begins_whole begun ≡ false

-- the octets are cut into these messages and these octets behind them
pub record IsCut {Z : Type 0} (octets : List ℕ) (ready : List (Vec ℕ Z)) (begun : List ℕ) : Type 0 where
  pub held : IsHeld ready begun
  pub all : octets ≡ joined ready ++ begun

-- so many octets of a piece complete the message that the octets before it begin
pub record Completes (begun piece : List ℕ) (count : ℕ) : Type 0 where
  pub whole : begins_whole (begun ++ piece) ≡ true
  pub within : count ≤ length piece
  pub exact : length begun + count ≡ length_field (begun ++ piece)

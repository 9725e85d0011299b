-- How a stream of octets falls into messages: the length of each stands in its second to fourth octets (RFC 6733, section 3).
use Rattle.std.specs.Prelude.{ℕ, zero, suc, ◌%◌, Bool, not, ◌&&◌, ◌||◌, ◌==◌, nat_lt, nat_le, if◌then◌else◌, List, [], ◌∷◌, ◌++◌, length, take, drop, Option, Some, None, is_none, Vec}
use Rattle.dcc_octets.specs.Numbers.{u24_at}
use Rattle.dcc_message.specs.declared.length.LengthFault.{LengthFault}
use Rattle.dcc_message.specs.declared.length.LengthFault.TheVariants.{BadLength, TooLong}
use Rattle.dcc_message.specs.declared.length.TheConstants.{MAX_LENGTH, HEADER_LENGTH}

-- the length that a message's header states
abbrev pub length_field : List ℕ → ℕ
length_field octets = u24_at octets 1

-- the fault of a stated length: it is too great, or no message can have it
abbrev pub length_fault : ℕ → Option LengthFault
length_fault stated =
    if nat_lt MAX_LENGTH stated then Some TooLong
    else if nat_lt stated HEADER_LENGTH || not (stated % 4 == 0) then Some BadLength
    else None

-- the fault of the length at the front of a stream, once its octets are there
abbrev pub fault_at : List ℕ → Option LengthFault
fault_at stream = if nat_lt (length stream) 4 then None else length_fault (length_field stream)

-- a whole message stands at the front of a stream
abbrev pub begins_whole : List ℕ → Bool
begins_whole stream = nat_le 4 (length stream) && is_none (fault_at stream) && nat_le (length_field stream) (length stream)

-- the octets of a message
abbrev pub octets_of : {Z : Type 0} → Vec ℕ Z → List ℕ
octets_of octets = octets.items

-- the whole message at the front, and the octets behind it
abbrev pub first_message : List ℕ → Option (List ℕ)
first_message stream = if begins_whole stream then Some (take (length_field stream) stream) else None

abbrev pub after_first : List ℕ → List ℕ
after_first stream = if begins_whole stream then drop (length_field stream) stream else stream

-- the whole messages at the front of a stream, up to so many
abbrev pub messages_up_to : ℕ → List ℕ → List (List ℕ)
messages_up_to zero stream = []
messages_up_to (suc more) stream =
    if begins_whole stream then take (length_field stream) stream ∷ messages_up_to more (drop (length_field stream) stream) else []

-- the whole messages at the front of a stream: up to its end, to a message that isn't whole, or to a bad length
unfoldable pub messages : List ℕ → List (List ℕ)
messages stream = messages_up_to (length stream) stream

-- the octets that are left behind so many of them
abbrev pub rest_up_to : ℕ → List ℕ → List ℕ
rest_up_to zero stream = stream
rest_up_to (suc more) stream = if begins_whole stream then rest_up_to more (drop (length_field stream) stream) else stream

unfoldable pub rest : List ℕ → List ℕ
rest stream = rest_up_to (length stream) stream

-- the messages of pieces, if all whole messages are taken after each piece; and the octets that are left
abbrev pub messages_by_pieces : List ℕ → List (List ℕ) → List (List ℕ)
messages_by_pieces held [] = []
messages_by_pieces held (piece ∷ pieces) = messages (held ++ piece) ++ messages_by_pieces (rest (held ++ piece)) pieces

abbrev pub rest_by_pieces : List ℕ → List (List ℕ) → List ℕ
rest_by_pieces held [] = held
rest_by_pieces held (piece ∷ pieces) = rest_by_pieces (rest (held ++ piece)) pieces

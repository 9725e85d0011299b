-- Headers of messages, and messages (RFC 6733, section 3).
use Rattle.std.specs.Prelude.{◌≡◌, ℕ, ◌+◌, ◌%◌, ◌<◌, ◌≤◌, ◌^◌, Bool, not, ◌&&◌, ◌==◌, bit_and, nat_lt, if◌then◌else◌, List, ◌∷◌, ◌++◌, length, slice_index, Result, Ok, Err, Option, Some, None}
use Rattle.std.specs.Int.{w32, to_be_bytes, bytes_high_first}
use Rattle.dcc_octets.specs.Numbers.{u24_at, u32_at}
use Rattle.dcc_message.specs.declared.length.LengthFault.{LengthFault}
use Rattle.dcc_message.specs.declared.length.LengthFault.TheVariants.{BadLength}
use Rattle.dcc_message.specs.declared.header.HeaderFault.{HeaderFault}
use Rattle.dcc_message.specs.declared.header.HeaderFault.TheVariants.{Version, Length}
use Rattle.dcc_message.specs.declared.length.TheConstants.{MAX_LENGTH, HEADER_LENGTH}
use Rattle.dcc_message.specs.declared.command_flags.TheConstants.{REQUEST, ERROR}
use Rattle.dcc_message.specs.HeaderView.{HeaderView}
use Rattle.dcc_message.specs.Streams.{length_field, length_fault}

-- each field fits its octets, and the length is that of a message
pub record IsHeader (h : HeaderView) : Type 0 where
  pub flags : h.flags < 2 ^ 8
  pub code : h.code < 2 ^ 24
  pub app : h.app < 2 ^ 32
  pub hop : h.hop < 2 ^ 32
  pub end_to_end : h.end_to_end < 2 ^ 32
  pub least : HEADER_LENGTH ≤ h.length
  pub most : h.length ≤ MAX_LENGTH
  pub whole : h.length % 4 ≡ 0

-- the R bit: the message is a request
abbrev pub is_request : HeaderView → Bool
is_request header = not (bit_and header.flags REQUEST == 0)

-- the E bit: the answer reports a protocol error (RFC 6733, section 7.2)
abbrev pub is_error : HeaderView → Bool
is_error header = not (bit_and header.flags ERROR == 0)

-- the message is of this command in this application
abbrev pub is_command : (code app : ℕ) → HeaderView → Bool
is_command code app header = (header.code == code) && (header.app == app)

-- the octets of a header: version 1, then each field, the highest octet first
unfoldable pub header : HeaderView → List ℕ
header h =
    (1 ∷ bytes_high_first 3 h.length) ++ (h.flags ∷ bytes_high_first 3 h.code) ++
    to_be_bytes w32 h.app ++ to_be_bytes w32 h.hop ++ to_be_bytes w32 h.end_to_end

-- the octets of a message: its header, which states the length of both, and the AVPs behind it
unfoldable pub message : HeaderView → List ℕ → List ℕ
message h avps = header (record h { length = HEADER_LENGTH + length avps }) ++ avps

-- the fields of a header at the front
abbrev pub header_at : List ℕ → HeaderView
header_at octets = record {
  length = u24_at octets 1;
  flags = slice_index octets 4;
  code = u24_at octets 5;
  app = u32_at octets 8;
  hop = u32_at octets 12;
  end_to_end = u32_at octets 16;
}

abbrev pub header_if : Option LengthFault → List ℕ → Result HeaderView HeaderFault
header_if (Some fault) octets = Err (Length fault)
header_if None octets = if length_field octets == length octets then Ok (header_at octets) else Err (Length BadLength)

-- the header of a message's octets, or the first fault: version, too long, bad length
unfoldable pub header_of : List ℕ → Result HeaderView HeaderFault
header_of octets =
    if nat_lt (length octets) 4 then Err (Length BadLength)
    else if not (slice_index octets 0 == 1) then Err Version
    else header_if (length_fault (length_field octets)) octets

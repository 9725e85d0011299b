-- What is written as an answer is read back.
use Rattle.std.proofs.Common.{◌≡◌, ℕ, ◌+◌, ◌%◌, ◌^◌, ◌<◌, ◌≤◌, List, ◌++◌, length, drop, Ok, refl, sym, ap, ◌∙◌, arith}
use Rattle.std.specs.Prelude.{bit_and, bit_or}
use Rattle.std.specs.List.{flat_map, AllByRecursion}
use Rattle.std.proofs.lemmas.List.Concat.{flat_map-append}
use Rattle.std.proofs.lemmas.Nat.{or_lt, and_le_r}
use Rattle.dcc_avp.specs.Spelling.{AvpView, HasSpelling, padded}
use Rattle.dcc_avp.specs.Reading.{avps_of}
use Rattle.dcc_message.specs.HeaderView.{HeaderView}
use Rattle.dcc_message.specs.Headers.{IsHeader, header, header_of, message}
use Rattle.dcc_message.specs.declared.length.TheConstants.{MAX_LENGTH}
use Rattle.dcc_answer.specs.Answers.{answer_header}
use Rattle.dcc_answer.proofs.Spelled.{AllSpelled, AreSizes, whole_words}

behind_header : (h : HeaderView) (avps : List ℕ) → drop 20 (message h avps) ≡ avps
unfolding message header
behind_header h avps = refl

length_message : (h : HeaderView) (avps : List ℕ) → length (message h avps) ≡ 20 + length avps
unfolding message header
length_message h avps = omega arith

-- the AVPs behind a header, each list with its octets
pub avps_back : (h : HeaderView) (own proxies : List AvpView) → ((avps : List AvpView) → AllByRecursion HasSpelling avps → avps_of (flat_map padded avps) ≡ Ok avps) →
    AllSpelled (own ++ proxies) → avps_of (drop 20 (message h (flat_map padded own ++ flat_map padded proxies))) ≡ Ok (own ++ proxies)
avps_back h own proxies list spelled =
    ap avps_of (behind_header h (flat_map padded own ++ flat_map padded proxies) ∙ sym (flat_map-append padded own proxies)) ∙ list (own ++ proxies) spelled

flags_fit : (flags bits : ℕ) → bits < 2 ^ 8 → bit_or (bit_and flags 0x40) bits < 2 ^ 8
flags_fit flags bits few =
    let low = and_le_r flags 0x40 in
    or_lt 8 (bit_and flags 0x40) bits (omega arith) few

-- what was written as a message has its header read, with its own length
abbrev pub AreRead : Type 0
AreRead = (h : HeaderView) (avps : List ℕ) → IsHeader (record h { length = 20 + length avps }) →
    header_of (message h avps) ≡ Ok (record h { length = 20 + length avps })

-- the header, with the length of the message
pub header_back : AreSizes → AreRead → (request : HeaderView) (bits : ℕ) (own proxies : List AvpView) → IsHeader request → bits < 2 ^ 8 → AllSpelled (own ++ proxies) →
    length (message (answer_header request bits) (flat_map padded own ++ flat_map padded proxies)) ≤ MAX_LENGTH →
    header_of (message (answer_header request bits) (flat_map padded own ++ flat_map padded proxies)) ≡
    Ok (record (answer_header request bits) { length = length (message (answer_header request bits) (flat_map padded own ++ flat_map padded proxies)) })
header_back sizes reads request bits own proxies fits few spelled small =
    let avps = flat_map padded own ++ flat_map padded proxies in
    let answer = answer_header request bits in
    let size = length_message answer avps in
    let same : flat_map padded (own ++ proxies) ≡ avps = flat_map-append padded own proxies in
    let whole : length avps % 4 ≡ 0 = ap (λ (octets : List ℕ). length octets % 4) (sym same) ∙ whole_words sizes (own ++ proxies) spelled in
    let fine : IsHeader (record answer { length = 20 + length avps }) = record {
      flags = flags_fit request.flags bits few;
      code = fits.code;
      app = fits.app;
      hop = fits.hop;
      end_to_end = fits.end_to_end;
      least = omega arith;
      most = omega arith;
      whole = omega arith;
    } in
    reads answer avps fine ∙ ap (λ (n : ℕ). Ok (record answer { length = n })) (sym size)

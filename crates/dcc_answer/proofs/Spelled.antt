-- Each AVP of an answer has a spelling, and the octets of AVPs are whole words.
use Rattle.std.proofs.Common.{◌≡◌, ℕ, ◌+◌, ◌-◌, ◌%◌, ◌^◌, ◌<◌, ◌≤◌, List, [], ◌∷◌, ◌++◌, length, Option, Some, None, true, refl, arith, lit<}
use Rattle.std.specs.Int.{w32, to_be_bytes}
use Rattle.std.specs.List.{flat_map, AllByRecursion}
use Rattle.std.specs.Option.{ForSome}
use Rattle.std.proofs.lemmas.List.{length-append}
use Rattle.std.proofs.lemmas.Bool.Decides.{nat_tests}
use Rattle.dcc_avp.specs.Spelling.{AvpView, avp_len, padded_len, padded, HasSpelling}
use Rattle.dcc_avp.specs.declared.codes.TheConstants.{SESSION_ID, RESULT_CODE, ORIGIN_HOST, ORIGIN_REALM}
use Rattle.dcc_octets.specs.Names.{is_name, is_short}
use Rattle.dcc_message.specs.declared.identity.Identity.{Identity}
use Rattle.dcc_answer.specs.Avps.{sent, sent32}
use Rattle.dcc_answer.specs.Answers.{error_avps, IsServer}

abbrev pub AllSpelled : List AvpView → Type 0
AllSpelled avps = AllByRecursion HasSpelling avps

-- ---- lengths

-- an AVP with its padding takes whole words, as the law of what is written says
abbrev pub AreSizes : Type 0
AreSizes = (avp : AvpView) → HasSpelling avp → length (padded avp) ≡ padded_len avp

rounded : (n : ℕ) → (n + (4 - n % 4) % 4) % 4 ≡ 0
rounded n = omega arith

-- the octets of AVPs are whole words
pub whole_words : AreSizes → (avps : List AvpView) → AllSpelled avps → length (flat_map padded avps) % 4 ≡ 0
whole_words sizes [] h = refl
whole_words sizes (avp ∷ avps) h =
    let size = sizes avp h.0 in
    let whole = rounded (avp_len avp) in
    let others = whole_words sizes avps h.1 in
    let parts : length (padded avp ++ flat_map padded avps) ≡ length (padded avp) + length (flat_map padded avps) = length-append (padded avp) (flat_map padded avps) in
    omega arith

-- ---- AVPs that are sent

pub sent_spelled : (code : ℕ) (value : List ℕ) → code < 2 ^ 32 → 8 + length value < 2 ^ 24 → HasSpelling (sent code value)
sent_spelled code value small few =
    record { is_avp = record { code = small; flags = lit< tt; vendor = tt; flagged = refl }; length = few }

sent32_spelled : (code n : ℕ) → code < 2 ^ 32 → HasSpelling (sent32 code n)
sent32_spelled code n small = sent_spelled code (to_be_bytes w32 n) small (lit< tt)

pub append_spelled : (xs ys : List AvpView) → AllSpelled xs → AllSpelled ys → AllSpelled (xs ++ ys)
append_spelled [] ys a b = b
append_spelled (x ∷ xs) ys a b = (a.0, append_spelled xs ys a.1 b)

-- ---- the answer that reports a protocol error

few_octets : (octets : List ℕ) → is_short octets ≡ true → length octets ≤ 255
few_octets octets h = grind (arith, nat_tests)

few_of : (name : List ℕ) → is_name name ≡ true → length name ≤ 255
few_of name h = grind (arith, nat_tests)

rest_spelled : (identity : Identity) (code : ℕ) → IsServer identity → AllSpelled (sent32 RESULT_CODE code ∷ sent ORIGIN_HOST identity.host ∷ sent ORIGIN_REALM identity.realm ∷ [])
rest_spelled identity code server =
    let host = few_of identity.host server.host in
    let realm = few_of identity.realm server.realm in (
      sent32_spelled RESULT_CODE code (lit< tt),
      (sent_spelled ORIGIN_HOST identity.host (lit< tt) (omega arith), (sent_spelled ORIGIN_REALM identity.realm (lit< tt) (omega arith), tt)),
    )

pub error_spelled : (identity : Identity) (code : ℕ) (session : Option (List ℕ)) → IsServer identity → ForSome session (λ octets. is_short octets ≡ true) → AllSpelled (error_avps identity code session)
error_spelled identity code None server few = rest_spelled identity code server
error_spelled identity code (Some octets) server few =
    let short = few_octets octets (few octets refl) in
    (sent_spelled SESSION_ID octets (lit< tt) (omega arith), rest_spelled identity code server)

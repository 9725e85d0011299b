-- The octets that the calls of `http1` append are the defined request.
use Rattle.std.proofs.Common.{◌≡◌, ℕ, Bool, List, [], ◌++◌, length, codes, Some, Result, Ok, Err, refl, append_assoc}
use Rattle.http1.specs.declared.client.Client.{Client}
use Rattle.http1.specs.declared.conn.BodySize.{BodySize}
use Rattle.http1.specs.declared.conn.BodySize.TheVariants.{Empty, Known}
use Rattle.http1.specs.declared.error.WriteError.{WriteError}
use Rattle.http1.specs.Client.{planned_request, after_end, after_request, request_plan, request_refusal, requesting, writing, with_writing}
use Rattle.http1.specs.Conn.{Plan, after_data, data_text, finish_text, plan_refusal}
use Rattle.http1.specs.Framing.{method_kind}
use Rattle.http1.specs.Head.{is_request_line}
use Rattle.http1.specs.Output.{GivesOrRefuses}
use Rattle.dcc_client.specs.Requests.{fresh, fields_of, fields_of_content, get_text, post_text}
use Rattle.dcc_client.specs.inner.Reading.{IsSent}

pub get_written : (client mid : Client) (fields : List (List ℕ × List ℕ)) (host target a b c : List ℕ) → client ≡ fresh → fields ≡ fields_of host → a ≡ []
    → b ≡ a ++ planned_request client (codes "GET") target Empty fields → mid ≡ after_request client (codes "GET") Empty fields
    → c ≡ b ++ finish_text (writing mid) [] → c ≡ get_text host target
unfolding get_text
get_written client mid fields host target a b c client_is fields_are none head behind end =
    rw (end, head, none, behind, fields_are, client_is) refl

pub post_written : (client mid sent : Client) (fields : List (List ℕ × List ℕ)) (size : BodySize) (host target content a b c d : List ℕ) → client ≡ fresh
    → fields ≡ fields_of_content host → size ≡ Known (length content) → a ≡ []
    → b ≡ a ++ planned_request client (codes "POST") target size fields → mid ≡ after_request client (codes "POST") size fields
    → c ≡ b ++ data_text (writing mid) content → sent ≡ with_writing mid (after_data (writing mid) (length content))
    → d ≡ c ++ finish_text (writing sent) [] → d ≡ post_text host target content
unfolding post_text
post_written client mid sent fields size host target content a b c d client_is fields_are size_is none head behind middle then end =
    rw (end, then, middle, head, none, behind, size_is, fields_are, client_is, append_assoc) refl

no_refusal : {A : Type 0} (refusal : WriteError) (spare len : ℕ) (r : Result A WriteError) (a : A) → r ≡ Ok a → GivesOrRefuses (Some refusal) spare len r → ⊥
no_refusal refusal spare len r a is refuses = cc

sent_by : {A : Type 0} (plan : Result Plan WriteError) (method : List ℕ) (fields : List (List ℕ × List ℕ)) (line : Bool) (spare len n : ℕ) (r : Result A WriteError) (a : A)
    → r ≡ Ok a → GivesOrRefuses (plan_refusal plan line fields) spare len r
    → IsSent (method_kind method) (after_end (with_writing (requesting fresh method fields plan) (after_data (writing (requesting fresh method fields plan)) n)))
sent_by (Ok p) method fields line spare len n r a is gives = record { limits_are = refl; reading_is = refl; method_is = refl; sent = refl }
sent_by (Err e) method fields line spare len n r a is gives = absurd (no_refusal e spare len r a is gives)

-- behind a request with content its response is awaited
pub is_sent : {A : Type 0} (client mid sent done : Client) (method target : List ℕ) (size : BodySize) (fields : List (List ℕ × List ℕ)) (spare len n : ℕ) (r : Result A WriteError) (a : A)
    → client ≡ fresh → r ≡ Ok a → GivesOrRefuses (request_refusal client method target size fields) spare len r
    → mid ≡ after_request client method size fields → sent ≡ with_writing mid (after_data (writing mid) n) → done ≡ after_end sent
    → IsSent (method_kind method) done
is_sent client mid sent done method target size fields spare len n r a client_is is gives behind then end =
    rw (end, then, behind, client_is)
    (sent_by (request_plan fresh method size fields) method fields (is_request_line method target 1) spare len n r a is (rw client_is at gives))

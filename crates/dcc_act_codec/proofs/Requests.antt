-- Requests, events and top-ups: their parts are read just where they are spelled.
use Rattle.std.proofs.Common.{◌≡◌, ℕ, ◌^◌, ◌<◌, ◌≤◌, true, cond, leb, eqb, List, [], ◌∷◌, ◌++◌, length, All, Option, Some, None, refl, sym, ap, subst, ◌∙◌, append_assoc, arith, inl, inr}
use Rattle.std.specs.Prelude.{is_some, IfSome}
use Rattle.std.specs.Int.{w16, w32, w64, to_be_bytes}
use Rattle.std.proofs.lemmas.Bool.{leb-true, le-leb, and_parts, and_from, cases_lt}
use Rattle.std.proofs.lemmas.List.{append-nil, get_or_default, get_or_past}
use Rattle.dcc_octets.specs.Names.{is_short}
use Rattle.dcc_act.specs.declared.act.Kind.TheVariants as kind
use Rattle.dcc_act.specs.declared.one_time_event.Action.{Action}
use Rattle.dcc_act.specs.declared.one_time_event.Action.TheVariants as action
use Rattle.dcc_act.specs.declared.request_key.RequestKey.{RequestKey}
use Rattle.dcc_act.specs.declared.session_limit.SessionLimit.{SessionLimit}
use Rattle.dcc_act.specs.declared.session_limit.SessionLimit.TheVariants.{Few, Many}
use Rattle.dcc_act.specs.declared.session_request.SessionRequest.{SessionRequest}
use Rattle.dcc_act.specs.Limits.{most_sessions}
use Rattle.dcc_act.specs.OneTimeEvents.{OneTimeEventView}
use Rattle.dcc_act.specs.Services.{ServiceView}
use Rattle.dcc_act.specs.TopUps.{TopUpView, is_amount}
use Rattle.dcc_act_codec.specs.Limits.{WithinTopUp, WithinKey, WithinService, WithinRequest, WithinHost, WithinOpening, WithinEvent, WithinKind}
use Rattle.dcc_act_codec.specs.Records.{u32_octets, u64_octets, action_octet, top_up_octets, session_octets, key_octets, service_octets, services_octets, request_octets, limit_octets, host_octets, opening_octets, event_octets, kind_octets}
use Rattle.dcc_act_codec.specs.inner.Readers.{octet_in, front_in, number_in, fixed_in, both}
use Rattle.dcc_act_codec.specs.inner.Reading.{top_up_from, top_up_in, string_in, session_in, key_in, action_from, action_in, service_in, services_in, request_in, limit_from, limit_in, host_from, host_in, OpeningParts, opening_from, opening_parts_in, opening_in, event_from, event_in}
use Rattle.dcc_act_codec.proofs.Parts.{IsOctets, bind_some, some_is, passed, Takes, Takes-then, Reads, one, octet_reads, front_takes, front_again, both_reads, wide16, number_reads, Makes, checked_reads, fixed_reads}
use Rattle.dcc_act_codec.proofs.Services.{passes, Any, picked, not_none, Is32, Is64, u32_reads, u64_reads, service_reads, AreServices, services_read}

abbrev some : {A : Type 0} → A → Option A
some x = Some x

-- ---- top-ups

amount_fits : (amount : ℕ) → is_amount amount ≡ true → amount < 2 ^ 64
amount_fits amount h = grind (arith, and_parts, leb-true)

pub top_up_reads : Reads top_up_octets WithinTopUp top_up_in
unfolding top_up_in top_up_octets
top_up_reads = checked_reads {A = ℕ × ℕ} (λ p. u64_octets p.0 ++ u64_octets p.1) (λ p. Is64 p.0 × Is64 p.1) top_up_octets WithinTopUp
    top_up_from (both (number_in w64) (number_in w64))
    (record {
      made = λ part found is e.
          let made : TopUpView = record { ticket = part.0; amount = part.1 } in
          let p = passed (is_amount part.1) made found e in
          subst (λ (v : TopUpView). (u64_octets part.0 ++ u64_octets part.1 ≡ top_up_octets v) × WithinTopUp v) p.1
          (refl, record { ticket = is.0; amount = p.0 });
      from = λ top_up is.
          ((top_up.ticket, top_up.amount), (is.ticket, amount_fits top_up.amount is.amount), passes (is_amount top_up.amount) top_up is.amount, refl);
    })
    (both_reads u64_octets Is64 (number_in w64) u64_octets Is64 (number_in w64) u64_reads u64_reads)

-- ---- sessions

abbrev IsString : List ℕ → Type 0
IsString text = (length text < 256) × IsOctets text

string_takes : (octets : List ℕ) (x : List ℕ × List ℕ) → IsOctets octets → string_in octets ≡ Some x
    → Takes octets (session_octets x.0) x.1 × IsString x.0
unfolding string_in session_octets
string_takes octets x fits e =
    let a = bind_some (octet_in octets) (λ len. front_in len.0 len.1) x e in
    let t = octet_reads.takes octets a.0 fits a.1 in
    let u = front_takes a.0.0 a.0.1 x t.0.rest_fits a.2 in
    let front : Takes octets (one (length x.0)) a.0.1 = subst (λ (n : ℕ). Takes octets (one n) a.0.1) (sym u.1) t.0 in
    (Takes-then octets (one (length x.0)) a.0.1 x.0 x.1 front u.0, (omega (arith, u.1, t.1), u.2))

string_again : (text rest : List ℕ) → IsString text → string_in (session_octets text ++ rest) ≡ Some (text, rest)
unfolding string_in session_octets
string_again text rest is =
    rw (octet_reads.again (length text) (text ++ rest) is.0) (front_again (length text) text rest refl)

string_reads : Reads session_octets IsString string_in
string_reads = record { takes = string_takes; again = string_again }

abbrev IsSession : List ℕ → Type 0
IsSession sid = All (λ octet. octet < 2 ^ 8) sid × (is_short sid ≡ true)

all_from : (octets : List ℕ) → IsOctets octets → All (λ octet. octet < 2 ^ 8) octets
all_from octets fits i d lt = rw (get_or_default octets i d 0 lt) (fits i)

all_to : (octets : List ℕ) → All (λ octet. octet < 2 ^ 8) octets → IsOctets octets
all_to octets each i =
    elim (cases_lt i (length octets)) [
      | inl lt ↦ each i 0 lt
      | inr le ↦ rw (get_or_past octets i 0 le) (omega arith)
    ]

few_short : (octets : List ℕ) → 1 ≤ length octets → length octets < 256 → is_short octets ≡ true
few_short octets some few = and_from (leb 1 (length octets)) (leb (length octets) 255) (le-leb _ _ some) (le-leb _ _ (omega (arith, few)))

short_some : is_short [] ≡ true → ⊥
short_some h = cc

short_few : (octets : List ℕ) → is_short octets ≡ true → length octets < 256
short_few octets h = grind (arith, and_parts, leb-true)

session_reads : Reads session_octets IsSession session_in
unfolding session_in
session_reads = checked_reads session_octets IsString session_octets IsSession (λ sid. cond (is_short sid) (Some sid) None) string_in
    (record {
      made = λ sid found is e.
          let p = passed (is_short sid) sid found e in
          subst (λ (v : List ℕ). (session_octets sid ≡ session_octets v) × IsSession v) p.1 (refl, (all_from sid is.1, p.0));
      from = λ sid is. (sid, (short_few sid is.1, all_to sid is.0), passes (is_short sid) sid is.1, refl);
    })
    string_reads

pub key_reads : Reads key_octets WithinKey key_in
unfolding key_in key_octets
key_reads = checked_reads {A = List ℕ × ℕ} (λ p. session_octets p.0 ++ u32_octets p.1) (λ p. IsSession p.0 × Is32 p.1) key_octets WithinKey
    (λ p. Some (record { sid = p.0; number = p.1 })) (both session_in (number_in w32))
    (record {
      made = λ p found is e.
          let made : RequestKey = record { sid = p.0; number = p.1 } in
          subst (λ (v : RequestKey). (session_octets p.0 ++ u32_octets p.1 ≡ key_octets v) × WithinKey v) (some_is made found e)
          (refl, record { octets = is.0.0; short = is.0.1; number = is.1 });
      from = λ key is. ((key.sid, key.number), ((is.octets, is.short), is.number), refl, refl);
    })
    (both_reads session_octets IsSession session_in u32_octets Is32 (number_in w32) session_reads u32_reads)

-- ---- requests

pub request_reads : Reads request_octets WithinRequest request_in
unfolding request_in request_octets
request_reads = checked_reads {A = RequestKey × List ServiceView} (λ p. key_octets p.0 ++ services_octets p.1) (λ p. WithinKey p.0 × AreServices p.1)
    request_octets WithinRequest (λ p. Some (record { key = p.0; services = p.1 })) (both key_in services_in)
    (record {
      made = λ p found is e.
          let made : SessionRequest = record { key = p.0; services = p.1 } in
          subst (λ (v : SessionRequest). (key_octets p.0 ++ services_octets p.1 ≡ request_octets v) × WithinRequest v) (some_is made found e)
          (refl, record { key = is.0; each = is.1.0; services = is.1.1 });
      from = λ request is. ((request.key, request.services), (is.key, (is.each, is.services)), refl, refl);
    })
    (both_reads key_octets WithinKey key_in services_octets AreServices services_in key_reads services_read)

-- ---- initial requests

abbrev Is16 : ℕ → Type 0
Is16 n = n < 2 ^ 16

limit_back : (sessions : ℕ) (found : SessionLimit) → limit_from sessions ≡ some found → sessions ≡ most_sessions found
limit_back sessions found e =
    picked most_sessions sessions Few (cond (eqb sessions 1024) (Some Many) None) found e
    (λ e. picked most_sessions sessions Many None found e (λ e. not_none found e))

limit_small : (limit : SessionLimit) → most_sessions limit < 2 ^ 16
limit_small Few = omega arith
limit_small Many = omega arith

limit_again : (limit : SessionLimit) → limit_from (most_sessions limit) ≡ Some limit
limit_again Few = refl
limit_again Many = refl

limit_reads : Reads limit_octets Any limit_in
unfolding limit_in limit_octets
limit_reads = checked_reads (to_be_bytes w16) Is16 limit_octets Any limit_from (number_in w16)
    (record {
      made = λ sessions found is e. (ap (to_be_bytes w16) (limit_back sessions found e), tt);
      from = λ limit is. (most_sessions limit, limit_small limit, limit_again limit, refl);
    })
    (number_reads w16 (2 ^ 16) wide16)

abbrev pub IsHost : Option (List ℕ) → Type 0
IsHost host = IfSome host WithinHost

host_made : (name : List ℕ) → IsString name → (session_octets name ≡ host_octets (host_from name)) × IsHost (host_from name)
unfolding session_octets host_octets
host_made [] is = (refl, tt)
host_made (octet ∷ octets) is = (refl, record { octets = all_from (octet ∷ octets) is.1; short = few_short (octet ∷ octets) (omega arith) is.0 })

host_back : (host : Option (List ℕ)) → IsHost host → (name : List ℕ) × IsString name × (host_from name ≡ host) × (session_octets name ≡ host_octets host)
unfolding session_octets host_octets
host_back None is = ([], (omega arith, λ i. omega arith), refl, refl)
host_back (Some []) is = absurd (short_some is.short)
host_back (Some (octet ∷ octets)) is = (octet ∷ octets, (short_few (octet ∷ octets) is.short, all_to (octet ∷ octets) is.octets), refl, refl)

host_reads : Reads host_octets IsHost host_in
unfolding host_in
host_reads = checked_reads session_octets IsString host_octets IsHost (λ name. Some (host_from name)) string_in
    (record {
      made = λ name found is e.
          let t = host_made name is in
          subst (λ (v : Option (List ℕ)). (session_octets name ≡ host_octets v) × IsHost v) (some_is (host_from name) found e) t;
      from = λ host is.
          let t = host_back host is in
          (t.0, t.1, ap (λ (v : Option (List ℕ)). some v) t.2, t.3);
    })
    string_reads

unfoldable pub opening_parts_octets : OpeningParts → List ℕ
opening_parts_octets p = key_octets p.0.0.0 ++ limit_octets p.0.0.1 ++ host_octets p.0.1 ++ services_octets p.1

unfoldable pub AreOpeningParts : OpeningParts → Type 0
AreOpeningParts p = ((WithinKey p.0.0.0 × Any p.0.0.1) × IsHost p.0.1) × AreServices p.1

pub opening_reads : Reads opening_parts_octets AreOpeningParts opening_parts_in
unfolding opening_parts_octets AreOpeningParts
opening_reads = both_reads _ _ _ _ _ _ (both_reads _ _ _ _ _ _ (both_reads _ _ _ _ _ _ key_reads limit_reads) host_reads) services_read

pub opening_spelled : (p : OpeningParts) → kind_octets (opening_from p) ≡ opening_parts_octets p
unfolding opening_octets opening_parts_octets
opening_spelled p = refl

pub opening_within : (p : OpeningParts) → AreOpeningParts p → WithinKind (opening_from p)
unfolding AreOpeningParts
opening_within p is = record { opens = record { key = is.0.0.0; each = is.1.0; services = is.1.1 }; from = is.0.1 }

pub opening_again : (request : SessionRequest) (limit : SessionLimit) (host : Option (List ℕ)) (rest : List ℕ) → WithinOpening request host
    → opening_in (opening_octets request limit host ++ rest) ≡ Some (kind.Initial request limit host, rest)
unfolding opening_in AreOpeningParts opening_parts_octets opening_octets
opening_again request limit host rest is =
    let p : OpeningParts = (((request.key, limit), host), request.services) in
    rw (opening_reads.again p rest (((is.opens.key, tt), is.from), (is.opens.each, is.opens.services))) refl

-- ---- events

action_back : (octet : ℕ) (found : Action) → action_from octet ≡ some found → octet ≡ action_octet found
action_back octet found e =
    picked action_octet octet action.DirectDebiting
    (cond (eqb octet 1) (Some action.RefundAccount) (cond (eqb octet 2) (Some action.CheckBalance) (cond (eqb octet 3) (Some action.PriceEnquiry) None))) found e
    (λ e. picked action_octet octet action.RefundAccount
    (cond (eqb octet 2) (Some action.CheckBalance) (cond (eqb octet 3) (Some action.PriceEnquiry) None)) found e
    (λ e. picked action_octet octet action.CheckBalance (cond (eqb octet 3) (Some action.PriceEnquiry) None) found e
    (λ e. picked action_octet octet action.PriceEnquiry None found e (λ e. not_none found e))))

action_small : (action : Action) → action_octet action < 256
action_small action.DirectDebiting = omega arith
action_small action.RefundAccount = omega arith
action_small action.CheckBalance = omega arith
action_small action.PriceEnquiry = omega arith

action_again : (action : Action) → action_from (action_octet action) ≡ Some action
action_again action.DirectDebiting = refl
action_again action.RefundAccount = refl
action_again action.CheckBalance = refl
action_again action.PriceEnquiry = refl

action_reads : Reads (λ action. one (action_octet action)) Any action_in
unfolding action_in
action_reads = checked_reads one (λ octet. octet < 256) (λ action. one (action_octet action)) Any action_from octet_in
    (record {
      made = λ octet found is e. (ap one (action_back octet found e), tt);
      from = λ action is. (action_octet action, action_small action, action_again action, refl);
    })
    octet_reads

abbrev EventParts : Type 0
EventParts = ((RequestKey × Action) × ℕ) × ServiceView

event_parts_octets : EventParts → List ℕ
event_parts_octets p = key_octets p.0.0.0 ++ one (action_octet p.0.0.1) ++ one p.0.1 ++ service_octets p.1

AreEventParts : EventParts → Type 0
AreEventParts p = ((WithinKey p.0.0.0 × Any p.0.0.1) × (p.0.1 ≡ 1)) × WithinService p.1

event_parts_read : Reads event_parts_octets AreEventParts (both (both (both key_in action_in) (fixed_in 1)) service_in)
unfolding event_parts_octets AreEventParts
event_parts_read =
    both_reads _ _ _ _ _ _ (both_reads _ _ _ _ _ _ (both_reads _ _ _ _ _ _ key_reads action_reads) (fixed_reads 1 (omega arith))) service_reads

-- an event's octets, its service counted
counted_one : (key : RequestKey) (action : Action) (count : ℕ) (service : ServiceView) → count ≡ 1
    → event_parts_octets (((key, action), count), service) ≡ event_octets (record { key = key; action = action; service = service })
unfolding event_parts_octets event_octets services_octets
counted_one key action count service is =
    ap (λ (n : ℕ). key_octets key ++ one (action_octet action) ++ one n ++ service_octets service) is
    ∙ append_assoc (key_octets key ++ one (action_octet action)) (one 1) (service_octets service)
    ∙ append_assoc (key_octets key) (one (action_octet action)) (one 1 ++ service_octets service)
    ∙ ap (λ (t : List ℕ). key_octets key ++ (action_octet action ∷ 1 ∷ t)) (sym (append-nil (service_octets service)))

event_makes : Makes event_parts_octets AreEventParts event_octets WithinEvent event_from
unfolding AreEventParts
event_makes = record {
  made = λ p found is e.
      let made : OneTimeEventView = record { key = p.0.0.0; action = p.0.0.1; service = p.1 } in
      let q = passed (is_some p.1.asked) made found e in
      subst (λ (v : OneTimeEventView). (event_parts_octets p ≡ event_octets v) × WithinEvent v) q.1
      (counted_one p.0.0.0 p.0.0.1 p.0.1 p.1 is.0.1, record { key = is.0.0.0; service = is.1; asks = q.0 });
  from = λ event is.
      let p : EventParts = (((event.key, event.action), 1), event.service) in
      (p, (((is.key, tt), refl), is.service), passes (is_some event.service.asked) event is.asks, counted_one event.key event.action 1 event.service refl);
}

pub event_reads : Reads event_octets WithinEvent event_in
unfolding event_in
event_reads = checked_reads event_parts_octets AreEventParts event_octets WithinEvent event_from _ event_makes event_parts_read

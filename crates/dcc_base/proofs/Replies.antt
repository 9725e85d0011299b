-- What a reply is, by how it was come to.
use Rattle.std.proofs.Common.{◌≡◌, ℕ, true, false, List, [], Option, Some, None, Result, Ok, Err, refl, sym, ap, ◌∙◌}
use Rattle.std.specs.Prelude.{IfOk, option_map}
use Rattle.std.specs.declared.alloc.AllocError.{AllocError}
use Rattle.dcc_avp.specs.Spelling.{AvpView}
use Rattle.dcc_avp.specs.Reading.{FaultView}
use Rattle.dcc_message.specs.HeaderView.{HeaderView}
use Rattle.dcc_message.specs.declared.identity.Identity.{Identity}
use Rattle.dcc_request.specs.declared.command.Command.{Command}
use Rattle.dcc_request.specs.Refusals.{Refusal}
use Rattle.dcc_request.specs.Layout.{unread}
use Rattle.dcc_request.specs.Sessions.{session_of}
use Rattle.dcc_answer.specs.Proxies.{proxies_of}
use Rattle.dcc_base.specs.declared.effect.Effect.{Effect}
use Rattle.dcc_base.specs.declared.peer.Peer.{Peer}
use Rattle.dcc_base.specs.declared.reply.Reply.{Reply}
use Rattle.dcc_base.specs.Requests.{Read, named, judged}
use Rattle.dcc_base.specs.Peers.{taken_from, concluded, hears, unheard, replied, replied_to_fault}

-- to a message that isn't answered
pub passed : (identity : Identity) (peer : Peer) (header : HeaderView) (read : Read) (turn : Reply × Peer) → hears peer header ≡ false → turn ≡ unheard peer →
    turn ≡ replied identity peer header read
unfolding replied
passed identity peer header read turn deaf is = rw deaf is

-- to one that is, once it is judged
pub judged_is : (identity : Identity) (peer : Peer) (header : HeaderView) (read : Read) (verdict : Result Effect Refusal) (r : Result Reply AllocError) (next : Peer) →
    hears peer header ≡ true → judged header read ≡ verdict →
    IfOk r (λ reply. (reply, next) ≡ concluded identity peer header (taken_from read) verdict) → IfOk r (λ reply. (reply, next) ≡ replied identity peer header read)
unfolding replied
judged_is identity peer header read verdict (Ok reply) next heard is h = rw (heard, is) h
judged_is identity peer header read verdict (Err e) next heard is h = tt

-- with what was taken over from a list that was read
pub read_is : (identity : Identity) (peer : Peer) (header : HeaderView) (avps : List AvpView) (session : Option (List ℕ)) (proxies : List ℕ)
    (verdict : Result Effect Refusal) (r : Result Reply AllocError) (next : Peer) → hears peer header ≡ true → judged header (Ok avps) ≡ verdict →
    session ≡ session_of avps → proxies ≡ proxies_of avps →
    IfOk r (λ reply. (reply, next) ≡ concluded identity peer header (record { session = session; proxies = proxies }) verdict) →
    IfOk r (λ reply. (reply, next) ≡ replied identity peer header (Ok avps))
read_is identity peer header avps session proxies verdict r next heard is same_session same_proxies h =
    judged_is identity peer header (Ok avps) verdict r next heard is (rw (same_session, same_proxies) at h)

-- ---- a list that can't be read

-- a fault that gave a refusal is one of layout
some_fault : (found : Option FaultView) (refusal : Refusal) → Some refusal ≡ option_map unread found → (fault : FaultView) × (found ≡ Some fault) × (refusal ≡ unread fault)
some_fault None refusal e = absurd cc
some_fault (Some fault) refusal e = (fault, refl, cc)

pub passed_unread : (identity : Identity) (peer : Peer) (header : HeaderView) (found : Option FaultView) (broken : Refusal) (turn : Reply × Peer) →
    Some broken ≡ option_map unread found → hears peer header ≡ false → turn ≡ unheard peer → turn ≡ replied_to_fault identity peer header found
passed_unread identity peer header found broken turn told deaf same =
    let fault = some_fault found broken told in
    rw fault.1 (passed identity peer header (Err fault.0) turn deaf same)

-- the header is right, or it isn't
named_unread : (header : HeaderView) (fault : FaultView) (command : Command) → named header ≡ Ok command → judged header (Err fault) ≡ Err (unread fault)
unfolding judged
named_unread header fault command is = rw is refl

unnamed : (header : HeaderView) (read : Read) (refusal : Refusal) → named header ≡ Err refusal → judged header read ≡ Err refusal
unfolding judged
unnamed header read refusal is = rw is refl

of_fault : (identity : Identity) (peer : Peer) (header : HeaderView) (found : Option FaultView) (fault : FaultView) (refusal : Refusal) (proxies : List ℕ)
    (r : Result Reply AllocError) (next : Peer) → found ≡ Some fault → hears peer header ≡ true → judged header (Err fault) ≡ Err refusal → proxies ≡ [] →
    IfOk r (λ reply. (reply, next) ≡ concluded identity peer header (record { session = None; proxies = proxies }) (Err refusal)) →
    IfOk r (λ reply. (reply, next) ≡ replied_to_fault identity peer header found)
of_fault identity peer header found fault refusal proxies r next is heard verdict none h =
    rw is (judged_is identity peer header (Err fault) (Err refusal) r next heard verdict (rw none at h))

pub unread_is : (identity : Identity) (peer : Peer) (header : HeaderView) (found : Option FaultView) (broken : Refusal) (command : Command) (proxies : List ℕ)
    (r : Result Reply AllocError) (next : Peer) → Some broken ≡ option_map unread found → hears peer header ≡ true → named header ≡ Ok command → proxies ≡ [] →
    IfOk r (λ reply. (reply, next) ≡ concluded identity peer header (record { session = None; proxies = proxies }) (Err broken)) →
    IfOk r (λ reply. (reply, next) ≡ replied_to_fault identity peer header found)
unread_is identity peer header found broken command proxies r next told heard is none h =
    let fault = some_fault found broken told in
    of_fault identity peer header found fault.0 broken proxies r next fault.1 heard (named_unread header fault.0 command is ∙ ap (λ (shown : Refusal). Err shown) (sym fault.2)) none h

pub unnamed_is : (identity : Identity) (peer : Peer) (header : HeaderView) (found : Option FaultView) (broken refusal : Refusal) (proxies : List ℕ)
    (r : Result Reply AllocError) (next : Peer) → Some broken ≡ option_map unread found → hears peer header ≡ true → named header ≡ Err refusal → proxies ≡ [] →
    IfOk r (λ reply. (reply, next) ≡ concluded identity peer header (record { session = None; proxies = proxies }) (Err refusal)) →
    IfOk r (λ reply. (reply, next) ≡ replied_to_fault identity peer header found)
unnamed_is identity peer header found broken refusal proxies r next told heard is none h =
    let fault = some_fault found broken told in
    of_fault identity peer header found fault.0 refusal proxies r next fault.1 heard (unnamed header (Err fault.0) refusal is) none h

-- Batches: calls of different subscribers, whose new acts go into the records by one append.
use Rattle.std.specs.Prelude.{◌≡◌, ℕ, ◌≤◌, Bool, true, false, if◌then◌else◌, List, [], ◌∷◌, ◌++◌, length, map, is_some}
use Rattle.std.specs.List.{AllZip, list_any}
use Rattle.dcc_tariff.specs.Terms.{TermsView}
use Rattle.dcc_act.specs.declared.act.Act.{Act}
use Rattle.dcc_act.specs.declared.sub.Sub.{Sub}
use Rattle.dcc_answer.specs.declared.answer.TheConstants.{MAX_ANSWER}
use Rattle.dcc_model.specs.Keys.{request_key}
use Rattle.dcc_store.specs.Books.{Held}
use Rattle.dcc_store.specs.Contents.{Content}
use Rattle.dcc_store.specs.Stops.{LeavesEither}
use Rattle.dcc_shard.specs.Shards.{ShardView, held, held_then, held_after, is_among, are_apart}
use Rattle.dcc_shard.specs.Answers.{IsAnswer, IsTold, IsExpired, IsToldApart, octets_of, is_judged, is_judged_top_up, is_judged_expiry, top_up_act, expiry_act}
use Rattle.dcc_shard.specs.declared.call.Call.{Call}
use Rattle.dcc_shard.specs.declared.call.Call.TheVariants as calls
use Rattle.dcc_shard.specs.declared.call.Reply.{Reply}
use Rattle.dcc_shard.specs.declared.call.Reply.TheVariants as replies

-- the subscriber of a call
abbrev pub sub_of : Call → Sub
sub_of (calls.Request sub act header proxies) = sub
sub_of (calls.TopUp sub moment ticket amount) = sub
sub_of (calls.Expiry sub moment) = sub

-- the act of a call
abbrev pub act_of : Call → Act
act_of (calls.Request sub act header proxies) = act
act_of (calls.TopUp sub moment ticket amount) = top_up_act moment ticket amount
act_of (calls.Expiry sub moment) = expiry_act moment

-- whether the act of a request is a request's
abbrev pub has_request_act : Call → Bool
has_request_act (calls.Request sub act header proxies) = is_some (request_key act.kind)
has_request_act (calls.TopUp sub moment ticket amount) = true
has_request_act (calls.Expiry sub moment) = true

-- a call is replied to as it is by the step of this call alone; a reply of another kind is none
abbrev pub IsReply : ShardView → Call → Reply → Type 0
IsReply shard (calls.Request sub act header proxies) (replies.Request answer) = IsAnswer shard sub act header proxies answer
IsReply shard (calls.Request sub act header proxies) (replies.TopUp answer) = ⊥
IsReply shard (calls.Request sub act header proxies) (replies.Expiry answer) = ⊥
IsReply shard (calls.TopUp sub moment ticket amount) (replies.Request answer) = ⊥
IsReply shard (calls.TopUp sub moment ticket amount) (replies.TopUp answer) = IsTold shard sub moment ticket amount answer
IsReply shard (calls.TopUp sub moment ticket amount) (replies.Expiry answer) = ⊥
IsReply shard (calls.Expiry sub moment) (replies.Request answer) = ⊥
IsReply shard (calls.Expiry sub moment) (replies.TopUp answer) = ⊥
IsReply shard (calls.Expiry sub moment) (replies.Expiry answer) = IsExpired shard sub moment answer

-- there is one reply for each call, in order, each of the shard as it was before the batch
abbrev pub AreReplies : ShardView → List Call → List Reply → Type 0
AreReplies shard = AllZip (IsReply shard)

-- whether the call was judged, and so its act may have been made
abbrev pub is_judged_reply : Reply → Bool
is_judged_reply (replies.Request answer) = is_judged answer
is_judged_reply (replies.TopUp answer) = is_judged_top_up answer
is_judged_reply (replies.Expiry answer) = is_judged_expiry answer

-- whether one of the calls was judged
abbrev pub is_one_judged : List Reply → Bool
is_one_judged = list_any is_judged_reply

-- each request's answer to a judged act has a header and is not busy; its busy answer has a header and is busy
abbrev pub IsReplyToldApart : Reply → Type 0
IsReplyToldApart (replies.Request answer) = IsToldApart answer
IsReplyToldApart (replies.TopUp answer) = Unit {0}
IsReplyToldApart (replies.Expiry answer) = Unit {0}

-- no request's answer has more octets
abbrev pub IsReplyBounded : Reply → Type 0
IsReplyBounded (replies.Request answer) = length (octets_of answer) ≤ MAX_ANSWER
IsReplyBounded (replies.TopUp answer) = Unit {0}
IsReplyBounded (replies.Expiry answer) = Unit {0}

-- the held acts after these calls, one after another, of which those that are marked were judged
abbrev pub held_behind : TermsView → List Call → List Bool → Held → Held
held_behind terms [] marks held = held
held_behind terms (call ∷ calls) [] held = held
held_behind terms (call ∷ calls) (mark ∷ marks) held =
    held_behind terms calls marks (if mark then held_then terms (sub_of call) (act_of call) held else held)

-- The acts of the judged calls were made, one after another, and nothing else changed.
pub record IsBatch (old new : ShardView) (calls : List Call) (replies : List Reply) : Type 0 where
  pub acts : (sub : Sub) → held new sub ≡ held_behind old.terms calls (map is_judged_reply replies) (held old) sub
  pub terms : new.terms ≡ old.terms
  pub identity : new.identity ≡ old.identity

-- The effect of a batch on the records: on the contents that a stop leaves before and after it, on whether the records are stopped, and
-- on the number of their failures.
pub record AreKept (terms : TermsView) (held : Held) (calls : List Call) (before after : Content → Type 0) (was_stopped is_stopped : Bool) (faults_before faults_after : ℕ)
    : Type 0 where
  -- a stop inside the call, or after it, leaves the acts that were held before, or those held after some of the calls were judged, all of
  -- these together, and nothing else
  pub crash : was_stopped ≡ false → ∥ ((marks : List Bool) × LeavesEither terms held (held_behind terms calls marks held) after) ∥₁
  -- stopped records stay stopped, and a stop leaves no content of them that it did not leave before
  pub frozen : was_stopped ≡ true → (is_stopped ≡ true) × ((found : Content) → after found → before found)
  -- records stop only if they fail in this call
  pub faults : faults_after ≡ faults_before → is_stopped ≡ was_stopped

-- the reply to a call of a batch is one that the call alone may have from a shard that holds what is held behind the calls before it,
-- whichever of these were judged
abbrev pub BatchesAreSteps : Type 0
BatchesAreSteps = (shard behind : ShardView) (earlier : List Call) (call : Call) (later : List Call) (marks : List Bool) (reply : Reply)
    → are_apart (map sub_of (earlier ++ call ∷ later)) ≡ true → behind.terms ≡ shard.terms → behind.identity ≡ shard.identity
    → ((sub : Sub) → held behind sub ≡ held_behind shard.terms earlier marks (held shard) sub) → IsReply shard call reply → IsReply behind call reply

-- behind a batch the acts of the subscriber of each call are those behind this call alone
abbrev pub BatchesMakeOwn : Type 0
BatchesMakeOwn = (terms : TermsView) (earlier : List Call) (call : Call) (later : List Call) (before : List Bool) (mark : Bool) (behind : List Bool) (all : Held)
    → are_apart (map sub_of (earlier ++ call ∷ later)) ≡ true → length before ≡ length earlier
    → held_behind terms (earlier ++ call ∷ later) (before ++ mark ∷ behind) all (sub_of call) ≡ held_after terms mark (all (sub_of call)) (act_of call)

-- the acts of a subscriber of whom a batch has no call stay
abbrev pub BatchesLeaveOthers : Type 0
BatchesLeaveOthers = (terms : TermsView) (calls : List Call) (marks : List Bool) (all : Held) (sub : Sub) → is_among sub (map sub_of calls) ≡ false
    → held_behind terms calls marks all sub ≡ all sub

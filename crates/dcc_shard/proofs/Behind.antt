-- What is held behind the calls of a batch, and what each call is then replied.
use Rattle.std.proofs.Common.{◌≡◌, Bool, true, false, List, [], ◌∷◌, ◌++◌, length, map, refl, ap, ◌∙◌, arith}
use Rattle.std.specs.Prelude.{if◌then◌else◌}
use Rattle.dcc_tariff.specs.Terms.{TermsView}
use Rattle.dcc_act.specs.declared.act.Act.{Act}
use Rattle.dcc_act.specs.declared.sub.Sub.{Sub}
use Rattle.dcc_act.specs.Subs.{same_sub, SameAreEqual}
use Rattle.dcc_model.specs.Outcomes.{acts}
use Rattle.dcc_store.specs.Books.{Held}
use Rattle.dcc_shard.specs.Shards.{ShardView, held, held_then, held_after, is_among, are_apart}
use Rattle.dcc_shard.specs.Batches.{sub_of, act_of, IsReply, BatchesAreSteps, BatchesMakeOwn, BatchesLeaveOthers}
use Rattle.dcc_shard.specs.declared.call.Call.{Call}
use Rattle.dcc_shard.specs.declared.call.Call.TheVariants as calls
use Rattle.dcc_shard.specs.declared.call.Reply.{Reply}
use Rattle.dcc_shard.specs.declared.call.Reply.TheVariants as replies
use Rattle.dcc_shard.proofs.Batching.{neither, first_apart, turned}
use Rattle.dcc_shard.proofs.Subs.{same_sub-same}

marked : (terms : TermsView) (call : Call) (mark : Bool) (all : Held) (sub : Sub) → same_sub (sub_of call) sub ≡ false
    → (let next : Held = if mark then held_then terms (sub_of call) (act_of call) all else all in next sub) ≡ all sub
marked terms call true all sub apart = rw apart refl
marked terms call false all sub apart = refl

pub others_stay : BatchesLeaveOthers
others_stay terms [] marks all sub apart = refl
others_stay terms (call ∷ calls) [] all sub apart = refl
others_stay terms (call ∷ calls) (mark ∷ marks) all sub apart =
    let both = neither (same_sub (sub_of call) sub) (is_among sub (map sub_of calls)) apart in
    let next : Held = if mark then held_then terms (sub_of call) (act_of call) all else all in
    others_stay terms calls marks next sub both.1 ∙ marked terms call mark all sub both.0

-- a call in the midst of different subscribers: neither before nor behind it is another of its subscriber
behind_apart : (calls : List Call) (call : Call) (later : List Call) (sub : Sub) → is_among sub (map sub_of (calls ++ call ∷ later)) ≡ false → same_sub (sub_of call) sub ≡ false
behind_apart [] call later sub apart = (neither (same_sub (sub_of call) sub) (is_among sub (map sub_of later)) apart).0
behind_apart (one ∷ calls) call later sub apart =
    behind_apart calls call later sub (neither (same_sub (sub_of one) sub) (is_among sub (map sub_of (calls ++ call ∷ later))) apart).1

earlier_apart : SameAreEqual → (earlier : List Call) (call : Call) (later : List Call) → are_apart (map sub_of (earlier ++ call ∷ later)) ≡ true → is_among (sub_of call) (map sub_of earlier) ≡ false
earlier_apart same [] call later apart = refl
earlier_apart same (one ∷ earlier) call later apart =
    let rest = map sub_of (earlier ++ call ∷ later) in
    let both = first_apart (is_among (sub_of one) rest) (are_apart rest) apart in
    let beside : same_sub (sub_of one) (sub_of call) ≡ false = turned same (sub_of call) (sub_of one) (behind_apart earlier call later (sub_of one) both.0) in
    let more : is_among (sub_of call) (map sub_of earlier) ≡ false = earlier_apart same earlier call later both.1 in
    rw beside more

-- a reply depends on the acts of the call's own subscriber, on the terms, and on the identity
moved : (shard behind : ShardView) (call : Call) (reply : Reply) → behind.terms ≡ shard.terms → behind.identity ≡ shard.identity → held behind (sub_of call) ≡ held shard (sub_of call)
    → IsReply shard call reply → IsReply behind call reply
moved shard behind (calls.Request sub act header proxies) (replies.Request answer) terms identity same it = rw (terms, identity, same) it
moved shard behind (calls.Request sub act header proxies) (replies.TopUp answer) terms identity same it = absurd it
moved shard behind (calls.Request sub act header proxies) (replies.Expiry answer) terms identity same it = absurd it
moved shard behind (calls.TopUp sub moment ticket amount) (replies.Request answer) terms identity same it = absurd it
moved shard behind (calls.TopUp sub moment ticket amount) (replies.TopUp answer) terms identity same it = rw (terms, same) it
moved shard behind (calls.TopUp sub moment ticket amount) (replies.Expiry answer) terms identity same it = absurd it
moved shard behind (calls.Expiry sub moment) (replies.Request answer) terms identity same it = absurd it
moved shard behind (calls.Expiry sub moment) (replies.TopUp answer) terms identity same it = absurd it
moved shard behind (calls.Expiry sub moment) (replies.Expiry answer) terms identity same it = rw (terms, same) it

pub are_steps : SameAreEqual → BatchesAreSteps
are_steps same shard behind earlier call later marks reply apart terms identity acts_are it =
    let none = earlier_apart same earlier call later apart in
    moved shard behind call reply terms identity (acts_are (sub_of call) ∙ others_stay shard.terms earlier marks (held shard) (sub_of call) none) it

pub make_own : SameAreEqual → BatchesMakeOwn
make_own same terms [] call later [] true behind all apart long =
    let rest = map sub_of later in
    let both = first_apart (is_among (sub_of call) rest) (are_apart rest) apart in
    let own : same_sub (sub_of call) (sub_of call) ≡ true = same_sub-same same (sub_of call) in
    let next : Held = held_then terms (sub_of call) (act_of call) all in
    let there : next (sub_of call) ≡ acts terms (all (sub_of call) ++ act_of call ∷ []) = rw own refl in
    others_stay terms later behind next (sub_of call) both.0 ∙ there
make_own same terms [] call later [] false behind all apart long =
    let rest = map sub_of later in
    let both = first_apart (is_among (sub_of call) rest) (are_apart rest) apart in
    others_stay terms later behind all (sub_of call) both.0
make_own same terms [] call later (m ∷ before) mark behind all apart long = absurd (omega (arith, long))
make_own same terms (one ∷ earlier) call later [] mark behind all apart long = absurd (omega (arith, long))
make_own same terms (one ∷ earlier) call later (m ∷ before) mark behind all apart long =
    let rest = map sub_of (earlier ++ call ∷ later) in
    let both = first_apart (is_among (sub_of one) rest) (are_apart rest) apart in
    let beside : same_sub (sub_of one) (sub_of call) ≡ false = turned same (sub_of call) (sub_of one) (behind_apart earlier call later (sub_of one) both.0) in
    let next : Held = if m then held_then terms (sub_of one) (act_of one) all else all in
    let shorter : length before ≡ length earlier = omega (arith, long) in
    make_own same terms earlier call later before mark behind next both.1 shorter
    ∙ ap (λ (xs : List Act). held_after terms mark xs (act_of call)) (marked terms one m all (sub_of call) beside)

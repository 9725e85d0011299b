use Rattle.std.proofs.Common.{◌≡◌, ℕ, ◌+◌, List, [], ◌∷◌, ◌++◌, length, refl, sym, ap, ◌∙◌, append-nil, arith}
use Rattle.std.specs.Global.{Vec}
use Rattle.dcc_connect.specs.declared.writing.Item.{Item}
use Rattle.dcc_lane.specs.declared.receiver.Receiver.{Receiver}
use Rattle.dcc_lane.specs.declared.sender.Sender.{Sender}
use Rattle.dcc_rounds.specs.Gathering.{workers_from}
use Rattle.dcc_rounds.specs.declared.work.Work.{Work}
use Rattle.dcc_rounds.proofs.round.add_workers.Goals as goal

empty_of : {X : Type 0} (xs : List X) → length xs ≡ 0 → xs ≡ []
empty_of [] is = refl
empty_of (x ∷ xs) is = absurd (omega arith)

none_from : (I O : Type 0) (shard : ℕ) (rs : List (Receiver Work)) (ss : List (Vec (Sender Item))) → rs ≡ [] → workers_from {I = I} {O = O} shard rs ss ≡ []
none_from I O shard rs ss is = ap (λ (r : List (Receiver Work)). workers_from {I = I} {O = O} shard r ss) is

none_to : (I O : Type 0) (shard : ℕ) (rs : List (Receiver Work)) → workers_from {I = I} {O = O} shard rs [] ≡ []
none_to I O shard [] = refl
none_to I O shard (r ∷ rs) = refl

-- what was added by a loop that ends here, if nothing is left to be added
ended : {X : Type 0} (was now old left all : List X) → now ≡ was → left ≡ [] → was ++ left ≡ old ++ all → now ≡ old ++ all
ended {X = X} was now old left all is none all_are = is ∙ sym (append-nil was) ∙ ap (λ (xs : List X). was ++ xs) (sym none) ∙ all_are

pub returns-after-loop-shard : goal.returns-after-loop-shard
returns-after-loop-shard g c =
    let was = c.loop-shard.invariant in
    let rs = c.loop-shard.receivers.items in
    ended c.loop-shard.tasks.items c.loop-shard.tasks.items c.args.tasks.now.items _ _ refl
    (none_from g.row.I.Denot g.row.O.Denot c.loop-shard.shard rs c.loop-shard.senders.items (empty_of rs (omega (arith, was.left, c.loop-shard-test.false)))) was.tasks

pub returns-in_default : goal.returns-in_default
returns-in_default g c =
    ended c.loop-shard.tasks.items c.reserve.new.self.items c.args.tasks.now.items _ _ c.reserve.ensures.items
    (none_from g.row.I.Denot g.row.O.Denot c.loop-shard.shard c.loop-shard.receivers.items c.loop-shard.senders.items c.in_default.ensures.0) c.loop-shard.invariant.tasks

pub returns-in_default-first_of : goal.returns-in_default-first_of
returns-in_default-first_of g c =
    let rs = c.loop-shard.receivers.items in
    ended c.loop-shard.tasks.items c.reserve.new.self.items c.args.tasks.now.items _ _ c.reserve.ensures.items
    (ap (λ (s : List (Vec (Sender Item))). workers_from {I = g.row.I.Denot} {O = g.row.O.Denot} c.loop-shard.shard rs s) c.in_default-first_of.ensures.0
    ∙ none_to g.row.I.Denot g.row.O.Denot c.loop-shard.shard rs) c.loop-shard.invariant.tasks

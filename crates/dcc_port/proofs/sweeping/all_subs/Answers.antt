use Rattle.std.proofs.Common.{◌≡◌, ◌+◌, ◌∙◌, [], ◌∷◌, ◌++◌, List, ap, length-append}
use Rattle.std.proofs.lemmas.Fn.{FoldsTo-push}
use Rattle.dcc_act.specs.Subs.{SubView}
use Rattle.dcc_port.specs.Answers.{AddsSubs}
use Rattle.dcc_port.proofs.sweeping.all_subs.Goals as goal

pub loop-shard-preserved : goal.loop-shard-preserved
loop-shard-preserved g c =
    let before = c.loop-shard.invariant in
    let part : List SubView = c.in_ok-subs.subs.items in
    let more : c.extend_from_slice.new.self.items ≡ c.loop-shard.all.items ++ part =
    rw (← c.as_slice.ensures.value) c.in_ok-extend_from_slice.ensures.items in (
      before.0 ++ part ∷ [],
      length-append before.0 (part ∷ []) ∙ ap (λ n. n + 1) before.1,
      FoldsTo-push AddsSubs [] before.0 c.loop-shard.all.items part c.extend_from_slice.new.self.items before.2 (c.in_ok-subs.ensures.held, more),
    )

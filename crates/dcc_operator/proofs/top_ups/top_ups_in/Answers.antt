use Rattle.std.proofs.Common.{ℕ, List, length, ap, subst, ◌∙◌}
use Rattle.std.specs.Io.KnownBytes.{Appends}
use Rattle.dcc_tariff.specs.Terms.{TermsView}
use Rattle.dcc_shard.specs.Shards.{held}
use Rattle.dcc_startup.specs.Openings.{IsUnusable}
use Rattle.dcc_operator.specs.Many.{AreToppedUp, lines_for}
use Rattle.dcc_operator.proofs.Batches.{as_many}
use Rattle.dcc_operator.proofs.Opened.{same_number}
use Rattle.dcc_operator.proofs.top_ups.top_ups_in.Goals as goal

pub text_for-requires : goal.text_for-requires
text_for-requires g c = ap length c.as_slice.ensures.value ∙ as_many _ _ _ _ _ c.top_up_each.ensures.made

pub returns-in-Err-clause-refused : goal.returns-in-Err-clause-refused
returns-in-Err-clause-refused g c number is =
    subst (λ (n : ℕ). IsUnusable (g.S.Stores.refuses c.args.stores.now c.args.folder.now c.args.plan.now c.args.index) (g.S.Stores.opens c.args.stores.now c.args.folder.now c.args.plan.now c.args.index)
    g.S.Records.Records.may_leave g.S.Records.Records.is_stopped c.args.index c.args.plan.now.shards n) (same_number _ _ number c.from.ensures is) c.in-Err.ensures.refused

pub returns-clause-done : goal.returns-clause-done
returns-clause-done g c =
    let answers = c.top_up_each.new.answers.items in
    let last = held c.top_up_each.new.shard.shard in
    let old = g.W.Write.contents c.args.output.now in
    let new = g.W.Write.contents c.write_all.new.output in
    record {
      before = c.in-Ok.shard;
      started = c.in-Ok.ensures.started;
      answers = answers;
      after = last;
      made = subst (λ (terms : TermsView). AreToppedUp terms c.args.asks.now answers (held c.in-Ok.shard.shard) last) c.in-Ok.ensures.started.terms_are c.top_up_each.ensures.made;
      told = subst (λ (text : List ℕ). Appends old new text) (c.as_slice-2.ensures.value ∙ (c.in_ok-text.ensures ∙ ap (lines_for c.args.asks.now) c.as_slice.ensures.value)) c.in_ok-write_all.ensures.whole;
    }

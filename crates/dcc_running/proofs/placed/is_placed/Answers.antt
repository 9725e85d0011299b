use Rattle.std.proofs.Common.{◌≡◌, get_or, refl, sym, ap, ◌∙◌, true, inl, inr}
use Rattle.std.proofs.lemmas.Bool.{cases_Bool}
use Rattle.std.proofs.lemmas.List.Folds.{list_any_at}
use Rattle.dcc_act.specs.declared.sub.Sub.{Sub}
use Rattle.dcc_act.specs.Subs.{same_sub}
use Rattle.dcc_shard.specs.Shards.{is_among}
use Rattle.dcc_running.proofs.Ends.{take_end}
use Rattle.dcc_running.proofs.placed.is_placed.Goals as goal

pub returns-then-shard_of-index-clause-no : goal.returns-then-shard_of-index-clause-no
returns-then-shard_of-index-clause-no g c = λ _.
    let sub = c.sub-item.result in
    let items = c.deref-sub-items.result.now in
    let p = λ (one : Sub). same_sub one sub in
    let here : p (get_or items c.loop-sub.sub-index sub) ≡ true = ap p (sym c.sub-item.is) ∙ (c.same_subscribers_are_equal.ensures sub sub).1 refl in
    let among : is_among sub c.in_ok-subs.subs.items ≡ true =
    ap (is_among sub) (sym c.deref-sub-items.ensures.value) ∙ list_any_at p items c.loop-sub.sub-index sub c.loop-sub-test.true here in
    (sub, c.in_ok-subs.ensures.some sub among, (λ e. c.if-shard_of-index.true (c.shard_of.ensures.value ∙ e)))

pub returns-clause-yes : goal.returns-clause-yes
returns-clause-yes g c = λ _ sub some.
    let items = c.deref-sub-items.result.now in
    let whole = take_end items c.loop-sub.sub-index c.loop-sub-test.false c.loop-sub.auto.sub-index-end in
    elim (cases_Bool (is_among sub c.in_ok-subs.subs.items)) [
      | inl among ↦ c.loop-sub.invariant sub (ap (is_among sub) (whole ∙ c.deref-sub-items.ensures.value) ∙ among)
      | inr others ↦ absurd (some (c.in_ok-subs.ensures.none sub others))
    ]

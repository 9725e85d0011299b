use Rattle.std.proofs.Common.{rules, ◌∷◌, ◌++◌, [], List, unwrap_or, Option, ap, ◌∙◌}
use Rattle.dcc_act.specs.declared.act.Act.{Act}
use Rattle.dcc_store.proofs.Adding.{written}
use Rattle.dcc_store.proofs.row.add.Goals as goal

pub returns-in_ok-add-in-Some : goal.returns-in_ok-add-in-Some
returns-in_ok-add-in-Some c =
    let w = c.add.new.self in
    let rows = c.args.rows.now.entries in
    written rows (c.get_mut.follows.lender w).entries c.args.sub c.args.act w c.same_subscribers_are_equal.ensures
    ((c.get_mut.follows.holds w).3 (search rules)).0
    (c.in_ok-add-in-Some.ensures.ok ∙ ap (λ (found : Option (List Act)). unwrap_or found [] ++ c.args.act ∷ []) c.in-Some.ensures.value)

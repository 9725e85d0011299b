use Rattle.std.proofs.Common.{rules, ◌≡◌, ◌∙◌, inr, false, refl, sym, true≢false}
use Rattle.dcc_startup.proofs.stores.shard_or_back.Goals as goal

pub returns-then-not-is_placed-clause-refused : goal.returns-then-not-is_placed-clause-refused
returns-then-not-is_placed-clause-refused g c = inr (inr (inr (
  refl,
  (
    c.in-Ok.shard,
    record { given = c.args.records; opened = refl; same = c.in-Ok.ensures.same; left = c.in-Ok.ensures.found },
    λ placed. (let other : c.is_placed.result ≡ false = search rules in true≢false (sym (c.is_placed.ensures.1 placed) ∙ other)),
  ),
)))

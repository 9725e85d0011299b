use Rattle.std.proofs.Common.{refl, ap, arith}
use Rattle.std.proofs.lemmas.Int.{ints}
use Rattle.dcc_escrow.specs.Pools.{PoolView}
use Rattle.dcc_model.specs.Entries.{entries}
use Rattle.dcc_model.specs.Outcomes.{funds, overrun}
use Rattle.dcc_account.proofs.Lookbacks.{none_indexed}
use Rattle.dcc_account.proofs.account.Account.of_lists.Goals as goal

pub invariant_of-result : goal.invariant_of-result
unfolding entries funds overrun
invariant_of-result c = rw (c.requires.acts, c.requires.outcomes, c.requires.entries, c.new-2.ensures.items)
    (record {
      kept = record { keyed = tt; own = refl; came_are = refl; entries_are = refl };
      sessions_are = record { found = λ sid. refl; apart = tt };
      due_are = c.new-3.ensures;
      holds = record { id = ap (λ (p : PoolView). p.id) c.new.ensures; reserved = ap (λ (p : PoolView). p.reserved) c.new.ensures };
      funds_are = ap (λ (p : PoolView). p.committed) c.new.ensures;
      overrun_are = refl;
      overrun_is = omega (arith, ints);
      indexed = none_indexed _ c.new-4.ensures.requests c.new-4.ensures.tickets c.new-4.ensures.opened;
    })

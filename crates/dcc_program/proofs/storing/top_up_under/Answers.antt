use Rattle.std.proofs.Common.{◌≡◌, ◌∙◌, inr, false, sym}
use Rattle.dcc_store.specs.Stops.{LeavesOnly}
use Rattle.dcc_shard.specs.Shards.{held}
use Rattle.dcc_operator.specs.Commands.{IsToppedUpBegun}
use Rattle.dcc_program.proofs.StoreLemmas.{of_output, stood}
use Rattle.dcc_program.proofs.storing.top_up_under.Goals as goal

pub returns-in-Ok-clause-whole : goal.returns-in-Ok-clause-whole
returns-in-Ok-clause-whole g c = λ file given.
    let it = c.in-Ok.ensures in
    record {
      plan = c.args.plan.now;
      given = given;
      before = it.opened.0;
      opened = it.opened.2;
      after = c.in-Ok.shard.shard;
      judged = it.opened.1;
      step = it.opened.3;
      told = rw (← c.in_ok-identity.ensures) it.done;
    }

pub returns-clause-part : goal.returns-clause-part
returns-clause-part g c = λ file given io.
    let it = stood c.in-Err.records
    (λ after. IsToppedUpBegun c.args.plan.now c.in_ok-identity.identity c.args.ask after (g.W.Write.contents c.args.output.now) (g.W.Write.contents c.top_up_in.new.output))
    (λ after given. g.S.Records.Records.is_stopped given ≡ false → LeavesOnly after.terms (held after) (g.S.Records.Records.may_leave given))
    (c.in-Err.ensures.stands (of_output c.in-Err.fault (sym c.from.ensures ∙ io))) in
    inr (c.args.plan.now, given, it.0, rw (← c.in_ok-identity.ensures) it.1)

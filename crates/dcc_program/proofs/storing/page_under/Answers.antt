use Rattle.dcc_program.proofs.storing.page_under.Goals as goal

pub returns-in-Ok-clause-whole : goal.returns-in-Ok-clause-whole
returns-in-Ok-clause-whole g c = λ file given.
    let it = c.in-Ok.ensures in
    record {
      plan = c.args.plan.now;
      given = given;
      stored = c.in-Ok.shard;
      opened = it.opened;
      shown = rw (← c.in_ok-identity.ensures) it.done;
    }

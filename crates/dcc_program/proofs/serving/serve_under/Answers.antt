use Rattle.std.proofs.Common.{inr}
use Rattle.std.proofs.lemmas.Result.{err_from_is_err_and}
use Rattle.dcc_program.proofs.serving.serve_under.Goals as goal

pub returns-clause-served : goal.returns-clause-served
returns-clause-served g c =
    let door = c.in-Ok-open_door.ensures.whole in
    let rounds = c.in_ok-served.ensures.served in
    record {
      plan = c.args.plan.now;
      clock = c.new-clock.result;
      shards = c.in-Ok.opened.0.items;
      last = rounds.0;
      address = door.0;
      told = g.W.Write.contents c.open_door.new.output;
      opened = (c.in-Ok.ensures.started.count_is, λ i none less. (c.in-Ok.ensures.started.each i none less).opened);
      listening = door.1;
      served = rw (← c.in_ok-identity.ensures) rounds.1;
    }

pub returns-in_err-served-clause-part : goal.returns-in_err-served-clause-part
returns-in_err-served-clause-part g c =
    let door = c.in-Ok-open_door.ensures.whole in
    let p = err_from_is_err_and c.from_residual-in_err-served.result c.from_residual-in_err-served.ensures.1 in
    rw (p.1)
    (inr (record {
      plan = c.args.plan.now;
      clock = c.new-clock.result;
      shards = c.in-Ok.opened.0.items;
      address = door.0;
      told = g.W.Write.contents c.open_door.new.output;
      fault = c.in_err-served.field-0.0;
      opened = (c.in-Ok.ensures.started.count_is, λ i none less. (c.in-Ok.ensures.started.each i none less).opened);
      listening = door.1;
      failed = p.2;
      lines = c.in_err-served.ensures.part;
      cause = rw (← c.in_ok-identity.ensures) c.in_err-served.ensures.cause;
    }))

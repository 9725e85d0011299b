use Rattle.std.proofs.Common.{◌≡◌, ◌≤◌, ◌<◌, ◌^◌, []}
use Rattle.dcc_lane.specs.Ends.{senders_of}
use Rattle.dcc_rounds.specs.Working.{Goes, IsCounted, counting, left_of}
use Rattle.dcc_rounds.specs.declared.rest.Rest.{Rest}
use Rattle.dcc_rounds.proofs.worker.Worker.run.Given as goal

abbrev pub invariant-loop : goal.invariant-loop
invariant-loop g l = record {
  done : (first : Rest) × (left_of first ≡ []) × Goes g.J.Naming.opening (counting l.fn.self) l.self first l.rest l.ended;
  counted : IsCounted l.self.counter l.rest;
  audited : l.self.counter.asked ≤ l.self.counter.audits;
  most : l.self.counter.audits < 2 ^ 64;
  due : l.due.asked ≡ l.self.counter.asked;
  few : l.ended ≤ l.senders;
  shard : l.self.shard ≡ l.fn.self.shard;
  empty : l.batch.items ≡ [];
  all : l.senders ≡ senders_of l.fn.self.from;
}

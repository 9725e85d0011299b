use Rattle.std.proofs.Common.{◌≡◌, ◌+◌, ◌<◌, ◌≤◌, ℕ, length, map, take, reverse, get_or, vec_capacity, None}
use Rattle.std.specs.List.Sorted.{IsStrictlySortedBy}
use Rattle.dcc_shard.specs.Routes.{route_order}
use Rattle.dcc_engine.specs.declared.event.Out.{Out}
use Rattle.dcc_engine.specs.inner.Hosts.{host_of}
use Rattle.dcc_engine.specs.Isolation.{turns}
use Rattle.dcc_engine.proofs.Pasts.{IsPast}
use Rattle.dcc_engine.proofs.Runs.{StandsAt}
use Rattle.dcc_engine.proofs.engine.Engine.run.Given as goal

-- what was answered so far, and where it has led
abbrev pub invariant-loop-i : goal.invariant-loop-i
invariant-loop-i g l =
    let past = reverse (turns (take l.i l.events) l.outs.items) in
    record {
      count : length l.outs.items ≡ l.i;
      answers : IsPast l.fn.self past;
      stands : StandsAt l.fn.self l.self past;
      room : length l.events ≤ l.i + l.self.peers.room;
      outs : length l.events ≤ vec_capacity l.outs;
      shards : l.self.shards ≡ l.fn.self.shards;
      order : (k : ℕ) (d : Out) → k < length l.outs.items → IsStrictlySortedBy (route_order l.fn.self.shards) (get_or l.outs.items k d).refused;
      hosts_count : length l.hosts.items ≡ length l.events;
      hosts : (k : ℕ) → l.i ≤ k → get_or l.hosts.items k None ≡ get_or (map host_of l.events) k None;
    }

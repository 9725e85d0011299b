use Rattle.std.proofs.Common.{◌≡◌, ◌≤◌, length, map, take, vec_capacity}
use Rattle.dcc_engine.specs.inner.Hosts.{host_of}
use Rattle.dcc_engine.proofs.engine.hosts_of.Given as goal

abbrev pub invariant-loop-event : goal.invariant-loop-event
invariant-loop-event l = record {
  hosts : l.hosts.items ≡ map host_of (take l.event-index l.events);
  room : length l.events ≤ vec_capacity l.hosts;
}

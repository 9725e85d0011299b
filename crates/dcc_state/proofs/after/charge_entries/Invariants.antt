use Rattle.std.proofs.Common.{◌≡◌, take}
use Rattle.dcc_state.specs.inner.Grants.{charge_entries_in}
use Rattle.dcc_state.proofs.after.charge_entries.Given as goal

abbrev pub invariant-loop-service : goal.invariant-loop-service
invariant-loop-service l = l.entries.items ≡ charge_entries_in l.own l.place l.moment l.sid (take l.service-index l.services)

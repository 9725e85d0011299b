use Rattle.std.proofs.Common.{◌≡◌, take, reverse}
use Rattle.dcc_model.specs.Entries.{charge_entries}
use Rattle.dcc_model.proofs.posting.charge_entries.Given as goal

abbrev pub invariant-loop-service : goal.invariant-loop-service
invariant-loop-service l = l.entries.items ≡ charge_entries l.terms (reverse l.past) l.place l.moment l.sid (take l.service-index l.services)

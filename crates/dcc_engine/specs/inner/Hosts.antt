-- The hosts of the events of a run.
use Rattle.std.specs.Prelude.{ℕ, List, Option, None}
use Rattle.dcc_engine.specs.declared.event.Event.{Event}
use Rattle.dcc_engine.specs.declared.event.Event.TheVariants as events

-- the host of an event, if it has a host
abbrev pub host_of : Event → Option (List ℕ)
host_of (events.Connect peer host) = host
host_of (events.Disconnect peer) = None
host_of (events.Message peer moment octets) = None
host_of (events.TopUp moment sub ticket amount) = None
host_of (events.Sweep moment) = None

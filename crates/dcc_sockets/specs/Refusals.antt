-- What it means that the system gives no connection.
use Rattle.std.specs.Prelude.{Bool, true, false}
use Rattle.std.specs.declared.io.ErrorKind as io
use Rattle.std.specs.declared.io.ErrorKind.TheVariants as kind
use Rattle.dcc_sockets.specs.declared.refusal.Refusal.{Refusal}
use Rattle.dcc_sockets.specs.declared.refusal.Refusal.TheVariants.{Nobody, Lost, Short, Over}

-- the meaning of an error of this kind, of the system or not: no connection came in time; one connection was lost, by what happened on its way; the
-- listener is no listener; and else nothing is there to take a connection in with
abbrev pub meaning_of : Bool → io.ErrorKind → Refusal
meaning_of false any = Lost
meaning_of true kind.WouldBlock = Nobody
meaning_of true kind.ConnectionAborted = Lost
meaning_of true kind.ConnectionReset = Lost
meaning_of true kind.TimedOut = Lost
meaning_of true kind.HostUnreachable = Lost
meaning_of true kind.NetworkUnreachable = Lost
meaning_of true kind.NetworkDown = Lost
meaning_of true kind.InvalidInput = Over
meaning_of true any = Short

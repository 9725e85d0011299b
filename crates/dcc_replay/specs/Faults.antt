-- The faults of a replay, by the faults of its parts.
use Rattle.dcc_streams.specs.declared.reading.ReadFault.{ReadFault}
use Rattle.dcc_streams.specs.declared.reading.ReadFault.TheVariants as read
use Rattle.dcc_replay.specs.declared.fault.ReplayFault.{ReplayFault}
use Rattle.dcc_replay.specs.declared.fault.ReplayFault.TheVariants.{Line, Memory, Input}
use Rattle.dcc_replay.specs.declared.script.ScriptFault.{ScriptFault}
use Rattle.dcc_replay.specs.declared.script.ScriptFault.TheVariants as script

abbrev pub of_script : ScriptFault → ReplayFault
of_script (script.Line line) = Line line
of_script script.Memory = Memory

abbrev pub of_read : ReadFault → ReplayFault
of_read read.Memory = Memory
of_read read.Io = Input

-- The ends of the program.
use Rattle.std.specs.Prelude.{⊤, ℕ, [], ◌∷◌, ◌++◌, List, codes, Option, Some, None, Result, Ok, Err}
use Rattle.std.specs.Fmt.{decimal}
use Rattle.dcc_tariff.specs.declared.fault.PlanFault.{PlanFault}
use Rattle.dcc_tariff.specs.Faults.{fault_number}
use Rattle.std.specs.declared.io.ErrorKind as io
use Rattle.std.specs.declared.io.ErrorKind.TheVariants as io_kind
use Rattle.dcc_streams.specs.declared.reading.ReadFault.{ReadFault}
use Rattle.dcc_streams.specs.declared.reading.ReadFault.TheVariants as read
use Rattle.dcc_operator.specs.declared.fault.OperatorFault.{OperatorFault}
use Rattle.dcc_operator.specs.declared.fault.OperatorFault.TheVariants as operator
use Rattle.dcc_operator.specs.declared.lines.LineFault.{LineFault}
use Rattle.dcc_operator.specs.declared.lines.LineFault.TheVariants as lines
use Rattle.dcc_rounds.specs.declared.fault.ServeFault.{ServeFault}
use Rattle.dcc_rounds.specs.declared.fault.ServeFault.TheVariants as serve
use Rattle.dcc_replay.specs.declared.fault.ReplayFault.{ReplayFault}
use Rattle.dcc_replay.specs.declared.fault.ReplayFault.TheVariants as replay
use Rattle.dcc_client.specs.declared.fault.CallFault.TheVariants as call
use Rattle.dcc_program.specs.declared.calling.CallFailure.{CallFailure}
use Rattle.dcc_program.specs.declared.calling.CallFailure.TheVariants as calling
use Rattle.dcc_decode.specs.declared.fault.DecodeFault.{DecodeFault}
use Rattle.dcc_decode.specs.declared.fault.DecodeFault.TheVariants as decode
use Rattle.dcc_program.specs.declared.failure.Failure.{Failure}
use Rattle.dcc_program.specs.declared.failure.Failure.TheVariants.{Usage, Memory, Io, Plan, Store, Script, Close}

-- the exit status
abbrev pub status_of : Failure → ℕ
status_of Memory = 1
status_of Io = 1
status_of Usage = 2
status_of (Plan number) = 3
status_of (Store number) = 4
status_of (Script line) = 5
status_of (Close number) = 6

-- the line on standard error
abbrev pub line_of : Failure → List ℕ
line_of Memory = codes "dcc: memory"
line_of Io = codes "dcc: io"
line_of Usage = codes "dcc: usage: dcc COMMAND ..; the commands are balance, check, decode, help, ledger, replay, serve and topup; dcc help COMMAND prints the forms of one"
line_of (Plan number) = codes "dcc: plan fault " ++ decimal number
line_of (Store number) = codes "dcc: store fault " ++ decimal number
line_of (Script line) = codes "dcc: script line " ++ decimal line
line_of (Close number) = codes "dcc: close fault " ++ decimal number

-- the exit status of a program that did its work, or failed
abbrev pub status_of_end : Result (Unit {0}) Failure → ℕ
status_of_end (Ok done) = 0
status_of_end (Err failure) = status_of failure

-- the text on standard error of a program that did its work, or failed
abbrev pub line_of_end : Result (Unit {0}) Failure → List ℕ
line_of_end (Ok done) = []
line_of_end (Err failure) = line_of failure ++ 10 ∷ []

-- an error of input or output by its kind
abbrev pub of_io_kind : io.ErrorKind → Failure
of_io_kind io_kind.OutOfMemory = Memory
of_io_kind _ = Io

-- a plan's fault by its number; want of memory has none
abbrev pub numbered_fault : Option ℕ → Failure
numbered_fault None = Memory
numbered_fault (Some number) = Plan number

abbrev pub of_plan : PlanFault → Failure
of_plan fault = numbered_fault (fault_number fault)

abbrev pub of_read : ReadFault → Failure
of_read read.Memory = Memory
of_read read.Io = Io

abbrev pub of_line : LineFault → Failure
of_line lines.Memory = Memory
of_line (lines.Line line) = Script line

abbrev pub of_operator : OperatorFault → Failure
of_operator operator.Memory = Memory
of_operator operator.Output = Io
of_operator (operator.Store number) = Store number

abbrev pub of_serve : ServeFault → Failure
of_serve serve.Memory = Memory
of_serve serve.Io = Io
of_serve (serve.Close number) = Close number
of_serve (serve.Store number) = Store number

-- a call that was not printed
abbrev pub of_call : CallFailure → Failure
of_call calling.Memory = Memory
of_call (calling.Call call.Memory) = Memory
of_call _ = Io

abbrev pub of_replay : ReplayFault → Failure
of_replay (replay.Line line) = Script line
of_replay replay.Memory = Memory
of_replay replay.Input = Io
of_replay replay.Output = Io

abbrev pub of_decode : DecodeFault → Failure
of_decode decode.Memory = Memory
of_decode decode.Input = Io
of_decode decode.Output = Io

-- the failures of `dcc decode`, for any input
abbrev pub IsDecodeFailure : Failure → Type 0
IsDecodeFailure Usage = ⊥
IsDecodeFailure Memory = ⊤
IsDecodeFailure Io = ⊤
IsDecodeFailure (Plan number) = ⊥
IsDecodeFailure (Store number) = ⊥
IsDecodeFailure (Script line) = ⊥
IsDecodeFailure (Close number) = ⊥

-- Why a text isn't decoded, by what its parts tell.
use Rattle.dcc_streams.specs.declared.reading.ReadFault.{ReadFault}
use Rattle.dcc_streams.specs.declared.reading.ReadFault.TheVariants as read
use Rattle.dcc_decode.specs.declared.fault.DecodeFault.{DecodeFault}
use Rattle.dcc_decode.specs.declared.fault.DecodeFault.TheVariants.{Memory, Input}

abbrev pub of_read : ReadFault → DecodeFault
of_read read.Memory = Memory
of_read read.Io = Input

use Rattle.std.proofs.Common.{sym}
use Rattle.dcc_tariff.proofs.AddressLemmas.{address_of-dotted, address_of-none}
use Rattle.dcc_tariff.proofs.keys.address_of.Goals as goal

pub returns-in-Ok : goal.returns-in-Ok
returns-in-Ok c = rw c.octets.ensures (sym (address_of-dotted c.args.text.now c.in-Ok.address.octets c.in-Ok.ensures.value))

pub returns-in-Err : goal.returns-in-Err
returns-in-Err c = sym (address_of-none c.args.text.now (λ octets spelled. c.in-Err.ensures.value (record { octets = octets }) spelled))

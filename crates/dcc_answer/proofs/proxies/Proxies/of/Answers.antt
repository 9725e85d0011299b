use Rattle.std.proofs.Common.{rules, filter, length}
use Rattle.dcc_avp.specs.Spelling.{has_code}
use Rattle.dcc_avp.specs.declared.codes.TheConstants.{PROXY_INFO}
use Rattle.dcc_message.specs.declared.length.TheConstants.{MAX_LENGTH}
use Rattle.dcc_answer.specs.Proxies.{proxies_of}
use Rattle.dcc_answer.specs.Sizes.{Grows}
use Rattle.dcc_answer.proofs.proxies.Proxies.of.Goals as goal

pub invariant_of-result : goal.invariant_of-result
unfolding proxies_of
invariant_of-result c =
    let grows : Grows 0 (length c.put_proxies.new.out.items) MAX_LENGTH = search rules in
    (grows, (filter (has_code PROXY_INFO) c.args.avps.now, c.in_ok-put_proxies.ensures.proxies, rw c.new-octets.ensures.items at c.in_ok-put_proxies.ensures.ok))

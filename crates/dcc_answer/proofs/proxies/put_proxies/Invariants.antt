use Rattle.std.proofs.Common.{◌≡◌, ◌++◌, drop, take, filter, vec_len}
use Rattle.std.specs.List.{sum_by}
use Rattle.dcc_avp.specs.Spelling.{padded_len, has_code}
use Rattle.dcc_avp.specs.declared.codes.TheConstants.{PROXY_INFO}
use Rattle.dcc_answer.specs.Proxies.{proxies_of, AreProxies}
use Rattle.dcc_answer.specs.Sizes.{Grows}
use Rattle.dcc_answer.proofs.proxies.put_proxies.Given as goal

abbrev pub invariant-loop-avp : goal.invariant-loop-avp
invariant-loop-avp l = record {
  written : l.out.items ++ proxies_of (drop l.avp-index l.avps) ≡ l.fn.out.items ++ proxies_of l.avps;
  proxies : AreProxies (filter (has_code PROXY_INFO) (drop l.avp-index l.avps)) → AreProxies (filter (has_code PROXY_INFO) l.avps);
  grows : Grows (vec_len l.fn.out) (vec_len l.out) (sum_by padded_len (take l.avp-index l.avps));
}

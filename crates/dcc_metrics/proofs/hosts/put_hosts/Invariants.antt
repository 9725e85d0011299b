use Rattle.std.proofs.Common.{◌≡◌, ◌++◌, drop}
use Rattle.dcc_metrics.specs.Hosts.{host_lines}
use Rattle.dcc_metrics.specs.Pages.{head_of}
use Rattle.dcc_metrics.specs.declared.family.Family.TheVariants.{GatewayInfo}
use Rattle.dcc_metrics.proofs.hosts.put_hosts.Given as goal

abbrev pub invariant-loop-i : goal.invariant-loop-i
invariant-loop-i l =
    l.page.items ++ host_lines l.i (drop l.i l.hosts) ≡ l.fn.page.items ++ (head_of GatewayInfo ++ host_lines 0 l.hosts)

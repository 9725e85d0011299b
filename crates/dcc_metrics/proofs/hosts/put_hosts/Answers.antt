use Rattle.std.proofs.Common.{◌≡◌, [], get_or, ◌∙◌}
use Rattle.std.proofs.lemmas.List.{get_or_read}
use Rattle.dcc_metrics.specs.Hosts.{hosts_text}
use Rattle.dcc_metrics.proofs.Lines.{hosts_next, hosts_end}
use Rattle.dcc_metrics.proofs.hosts.put_hosts.Goals as goal

pub loop-i-preserved : goal.loop-i-preserved
loop-i-preserved c =
    let host : c.as_slice.result.now ≡ get_or c.args.hosts.now c.loop-i.i [] =
    c.as_slice.ensures ∙ get_or_read c.args.hosts.now _ _ c.loop-i-test.true c.index-hosts-i.is [] in
    hosts_next c.args.hosts.now c.loop-i.i c.as_slice.result.now c.loop-i.page.items c.put_host.new.page.items _ c.loop-i-test.true host
    c.in_ok-put_host.ensures c.loop-i.invariant

pub returns : goal.returns
unfolding hosts_text
returns c = hosts_end c.args.hosts.now c.loop-i.i c.loop-i.page.items _ c.loop-i-test.false c.loop-i.invariant

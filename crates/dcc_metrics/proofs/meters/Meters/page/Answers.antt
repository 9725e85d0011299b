use Rattle.dcc_metrics.proofs.meters.Meters.page.Goals as goal

pub returns : goal.returns
returns g c =
    let server = rw c.new-page.ensures.items at c.in_ok-put_server.ensures in (
      c.put_server.new.page.items,
      c.put_hosts.new.page.items,
      c.put_acts.new.page.items,
      c.put_work.new.page.items,
      c.put_audits.new.page.items,
      server,
      c.in_ok-put_hosts.ensures,
      c.in_ok-put_acts.ensures,
      c.in_ok-put_work.ensures,
      c.in_ok-put_audits.ensures,
      c.in_ok-put_times.ensures,
    )

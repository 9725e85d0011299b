use Rattle.std.proofs.Common.{◌≡◌, Bool, List, ap, refl}
use Rattle.dcc_port.proofs.Results.{on_ok}
use Rattle.dcc_port.specs.Sheets.{metrics_sheet}
use Rattle.dcc_port.proofs.asking.metrics.Goals as goal

pub returns : goal.returns
returns g c =
    let page = c.in_ok-page.page.items in
    let told = c.in_ok-told.told.items in
    let same = ap (λ (told : List Bool). metrics_sheet page told) c.as_slice.ensures.value in
    on_ok c.put_metrics.result
    (λ is. (
      metrics_sheet page c.as_slice.result.now,
      (page, c.in_ok-page.ensures, (told, c.in_ok-told.ensures.count, c.in_ok-told.ensures.told, same)),
      is,
    ))
    c.put_metrics.ensures

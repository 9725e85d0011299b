use Rattle.std.proofs.Common.{◌≡◌, ℕ, List, Option, Vec, Global, option_map, ap}
use Rattle.dcc_port.proofs.Results.{on_ok}
use Rattle.dcc_port.specs.Found.{page_found}
use Rattle.dcc_port.proofs.asking.ledger.Goals as goal

pub returns : goal.returns
returns g c =
    let found : Option (List ℕ) = option_map (λ (text : Vec ℕ Global). text.items) c.in_ok-page.page in
    on_ok c.put_page.result
    (λ is. (page_found found, (c.in_ok-page.ensures.0, ap page_found c.in_ok-page.ensures.1), is)) c.put_page.ensures

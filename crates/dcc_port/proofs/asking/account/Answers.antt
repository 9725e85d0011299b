use Rattle.std.proofs.Common.{ℕ, List, Option, Vec, Global, option_map, refl}
use Rattle.dcc_port.proofs.Results.{on_ok}
use Rattle.dcc_port.specs.Found.{account_found}
use Rattle.dcc_port.proofs.asking.account.Goals as goal

pub returns : goal.returns
returns g c =
    let found : Option (List ℕ) = option_map (λ (text : Vec ℕ Global). text.items) c.in_ok-text.text in
    on_ok c.put_account.result
    (λ is. (account_found found, (c.in_ok-text.ensures.0, found, c.in_ok-text.ensures.1, refl), is)) c.put_account.ensures

use Rattle.std.proofs.Common.{◌≡◌, ◌++◌, codes, take}
use Rattle.std.specs.List.{flat_map}
use Rattle.dcc_port.specs.Accounts.{grant_text}
use Rattle.dcc_port.proofs.account.put_more_grants.Given as goal

abbrev pub invariant-loop-grant : goal.invariant-loop-grant
invariant-loop-grant l =
    l.text.items ≡ l.initial.text.items ++ flat_map (λ one. codes "," ++ grant_text one) (take l.grant-index l.grants)

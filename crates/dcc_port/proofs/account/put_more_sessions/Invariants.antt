use Rattle.std.proofs.Common.{◌≡◌, ◌++◌, codes, take}
use Rattle.std.specs.List.{flat_map}
use Rattle.dcc_port.specs.Accounts.{session_text}
use Rattle.dcc_port.proofs.account.put_more_sessions.Given as goal

abbrev pub invariant-loop-session : goal.invariant-loop-session
invariant-loop-session l =
    l.text.items ≡ l.initial.text.items ++ flat_map (λ one. codes "," ++ session_text one) (take l.session-index l.sessions)

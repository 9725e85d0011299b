use Rattle.std.proofs.Common.{◌≡◌, ◌++◌, map, take, string_bytes}
use Rattle.dcc_replay.specs.Printed.{refused_of, numbered}
use Rattle.dcc_replay.proofs.printing.put_subs.Given as goal

abbrev pub invariant-loop-sub : goal.invariant-loop-sub
invariant-loop-sub l = string_bytes l.text ≡ string_bytes l.initial.text ++ numbered l.n (map refused_of (take l.sub-index l.subs))

-- Acts without the hosts of their peers.
use Rattle.std.specs.Prelude.{◌≡◌, List, map, None}
use Rattle.dcc_act.specs.declared.act.Act.{Act}
use Rattle.dcc_act.specs.declared.act.Kind.{Kind}
use Rattle.dcc_act.specs.declared.act.Kind.TheVariants.{Initial}

-- an initial request without its peer's host; no other act has a host
abbrev pub unhosted_kind : Kind → Kind
unhosted_kind (Initial request limit host) = Initial request limit None
unhosted_kind kind = kind

abbrev pub unhosted : Act → Act
unhosted act = record act { kind = unhosted_kind act.kind }

-- two acts, and two lists of acts, that differ in hosts alone
abbrev pub IsAlike : Act → Act → Type 0
IsAlike act other = unhosted act ≡ unhosted other

abbrev pub AreAlike : List Act → List Act → Type 0
AreAlike xs ys = map unhosted xs ≡ map unhosted ys

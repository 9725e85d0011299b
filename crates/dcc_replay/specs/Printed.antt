-- The printed form of the outs of a run.
use Rattle.std.specs.Prelude.{ℕ, ◌+◌, ◌==◌, if◌then◌else◌, List, [], ◌∷◌, ◌++◌, length, map, codes, Some, None}
use Rattle.std.specs.Fmt.{decimal}
use Rattle.hex.specs.Hex.{encode_lower}
use Rattle.dcc_act.specs.declared.sub.Sub.{Sub}
use Rattle.dcc_engine.specs.declared.event.Out.{Out}
use Rattle.dcc_shard.specs.Answers.{word_of}

-- the answer's octets in hexadecimal digits, if there are any, behind the peer's number
unfoldable pub answered : Out → List (List ℕ)
answered out = elim out.peer [
  | None ↦ []
  | Some peer ↦ if length out.octets == 0 then [] else (codes "answer " ++ decimal peer ++ codes " " ++ encode_lower out.octets) ∷ []
]

-- the end of the peer's connection
unfoldable pub closed : Out → List (List ℕ)
closed out = elim out.peer [
  | None ↦ []
  | Some peer ↦ if out.close then (codes "close " ++ decimal peer) ∷ [] else []
]

-- the answer to a top-up
unfoldable pub topped_up : Out → List (List ℕ)
topped_up out = elim out.top_up [ None ↦ [] | Some answer ↦ (codes "topup " ++ word_of answer) ∷ [] ]

-- a subscriber whose expiry was refused, by its type and its data
abbrev pub refused_of : Sub → List ℕ
refused_of sub = codes "refused " ++ decimal sub.kind ++ codes ":" ++ sub.name

abbrev pub all_refused : Out → List (List ℕ)
all_refused out = if out.refused_all then (codes "refused " ++ codes "all") ∷ [] else []

-- the subscribers whose expiry a sweep refused
unfoldable pub refused : Out → List (List ℕ)
refused out = map refused_of out.refused ++ all_refused out

-- the lines of a top-up, or of a sweep
abbrev pub told : Out → List (List ℕ)
told out = topped_up out ++ refused out

-- a dash stands for nothing
abbrev pub or_dash : List (List ℕ) → List (List ℕ)
or_dash [] = codes "-" ∷ []
or_dash (phrase ∷ phrases) = phrase ∷ phrases

-- each phrase on a line of its own, behind the event's number
abbrev pub numbered : ℕ → List (List ℕ) → List ℕ
numbered n [] = []
numbered n (phrase ∷ phrases) = (decimal n ++ codes " " ++ phrase ++ 10 ∷ []) ++ numbered n phrases

-- the lines of event n
abbrev pub lines_of_out : ℕ → Out → List ℕ
lines_of_out n out = numbered n (or_dash (answered out ++ closed out ++ told out))

-- the lines of outs, of which the first is the out of event n
unfoldable pub lines_from : ℕ → List Out → List ℕ
lines_from n [] = []
lines_from n (out ∷ outs) = lines_of_out n out ++ lines_from (n + 1) outs

-- the outs of a run, whose events have numbers from 1
unfoldable pub printed : List Out → List ℕ
printed outs = lines_from 1 outs

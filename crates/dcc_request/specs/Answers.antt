-- The result of a call that may want memory, or that lends.
use Rattle.std.specs.Prelude.{◌≡◌, Result, Ok, Err}
use Rattle.dcc_request.specs.declared.stop.Stop.{Stop}
use Rattle.dcc_request.specs.declared.stop.Stop.TheVariants.{Refused, Memory}
use Rattle.dcc_request.specs.Refusals.{Refusal}

-- the result of a call, seen by view, is that of the definition, unless memory ran out
abbrev pub Gives : {X Y : Type 0} → (X → Y) → Result X Stop → Result Y Refusal → Type 0
Gives view (Ok x) given = given ≡ Ok (view x)
Gives view (Err (Refused refusal)) given = given ≡ Err refusal
Gives view (Err Memory) given = Unit {0}

-- the result of a call, with the lent value seen by view
abbrev pub seen : {X Y E : Type 0} → (X → Y) → Result X E → Result Y E
seen view (Ok x) = Ok (view x)
seen view (Err e) = Err e

-- The words of top-ups.
use Rattle.std.specs.Prelude.{ℕ, List, codes}
use Rattle.dcc_client.specs.declared.finding.Told.{Told}
use Rattle.dcc_client.specs.declared.finding.Told.TheVariants.{Done, Ceiling, Refused, Bad}

-- the word that is printed for the answer to a top-up
abbrev pub word_of : Told → List ℕ
word_of Done = codes "done"
word_of Ceiling = codes "ceiling"
word_of Refused = codes "refused"
word_of Bad = codes "bad"

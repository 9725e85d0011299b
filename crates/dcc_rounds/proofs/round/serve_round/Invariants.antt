use Rattle.dcc_running.specs.Books.{book}
use Rattle.dcc_rounds.proofs.round.serve_round.Given as goal

-- the acts that the shards hold
abbrev pub ghosts-serve_over : goal.ghosts-serve_over
ghosts-serve_over g a = record { opening = book a.shards.items }

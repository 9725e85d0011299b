use Rattle.std.proofs.Common.{length}
use Rattle.dcc_running.specs.Books.{book}
use Rattle.dcc_rounds.proofs.Going.{round_answers}
use Rattle.dcc_rounds.proofs.laws.answers_are_to_what_came.Goals as goal

pub returns : goal.returns
returns g c = λ clock setting rounds old new counts round.
    round_answers g.I.Read.remaining g.O.Write.contents g.C.Clock.tells g.L.Listener.is_closed g.L.Listener.attends clock setting (book old) (length old) rounds round.begun round.ended round.gathered round.ran round.all round.finished

-- The live grants that are read to judge one more act, however many sessions are open and acts were made.
use Rattle.std.specs.Prelude.{ℕ, nat_le, List, length, filter, bytes_eq}
use Rattle.dcc_tariff.specs.Terms.{TermsView}
use Rattle.dcc_act.specs.declared.act.Kind.{Kind}
use Rattle.dcc_act.specs.declared.act.Kind.TheVariants as kind
use Rattle.dcc_model.specs.declared.done.Done.{Done}
use Rattle.dcc_model.specs.Sessions.{Sid, Live, deadline, lives}

-- the live grants of a session
abbrev pub many_of : TermsView → List Done → Sid → ℕ
many_of terms past sid = length (filter (λ (held : Live). bytes_eq sid held.sid) (lives terms past))

-- the live grants of the sessions that an expiry at this moment ends
abbrev pub many_over : TermsView → List Done → (moment : ℕ) → ℕ
many_over terms past moment = length (filter (λ (held : Live). nat_le (deadline terms past held.sid) moment) (lives terms past))

-- the most grants that an act may read: a request of a session those of its own session, an expiry those of the sessions that it
-- ends, and a top-up and a one-time event none
abbrev pub most_looks : TermsView → List Done → (moment : ℕ) → Kind → ℕ
most_looks terms past moment (kind.TopUp top_up) = 0
most_looks terms past moment (kind.Initial request limit host) = many_of terms past request.key.sid
most_looks terms past moment (kind.Update request) = many_of terms past request.key.sid
most_looks terms past moment (kind.Termination request) = many_of terms past request.key.sid
most_looks terms past moment (kind.Event event) = 0
most_looks terms past moment kind.Expiry = many_over terms past moment

-- the least grants that an act has to read, each of which counts: a request of a session each of its own session's, and any other
-- act none
abbrev pub least_looks : TermsView → List Done → Kind → ℕ
least_looks terms past (kind.TopUp top_up) = 0
least_looks terms past (kind.Initial request limit host) = many_of terms past request.key.sid
least_looks terms past (kind.Update request) = many_of terms past request.key.sid
least_looks terms past (kind.Termination request) = many_of terms past request.key.sid
least_looks terms past (kind.Event event) = 0
least_looks terms past kind.Expiry = 0

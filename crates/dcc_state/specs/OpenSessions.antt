-- The sessions that are open, each with its live grants.
use Rattle.std.specs.Prelude.{◌≡◌, ℕ, Bool, false, nat_le, if◌then◌else◌, List, [], ◌∷◌, map, filter, find, bytes_eq, Option, Some, None, option_map}
use Rattle.std.specs.List.{list_any}
use Rattle.std.specs.Option.{option_map_or}
use Rattle.dcc_tariff.specs.Terms.{TermsView}
use Rattle.dcc_expiry.specs.Deadlines.{DueView, deadline_of}
use Rattle.dcc_act.specs.declared.act.Kind.{Kind}
use Rattle.dcc_act.specs.declared.act.Kind.TheVariants as kind
use Rattle.dcc_model.specs.declared.done.Done.{Done}
use Rattle.dcc_model.specs.Sessions.{Sid, Live, deadline, is_open, lives}
use Rattle.dcc_session.specs.declared.held.Held.{Held}

-- an open session: its name, its deadline, and its live grants
pub record SessionView : Type 0 where
  pub sid : Sid
  pub deadline : ℕ
  pub grants : List Held

abbrev pub held_of : Live → Held
held_of live = record { key = live.key; grant = live.grant }

abbrev pub is_of : Sid → Live → Bool
is_of sid live = bytes_eq sid live.sid

-- the live grants of a session
abbrev pub grants_of : TermsView → List Done → Sid → List Held
grants_of terms past sid = map held_of (filter (is_of sid) (lives terms past))

-- the open session of this name after these acts, the latest first; none if it isn't open
abbrev pub session_at : TermsView → List Done → Sid → Option SessionView
session_at terms past sid =
    if is_open terms past sid then Some (record { sid = sid; deadline = deadline terms past sid; grants = grants_of terms past sid }) else None

abbrev pub is_session : Sid → SessionView → Bool
is_session sid session = bytes_eq session.sid sid

-- the session of this name among these
abbrev pub session_in : List SessionView → Sid → Option SessionView
session_in sessions sid = find (is_session sid) sessions

-- the deadline of the session of this name
abbrev pub deadline_at : List SessionView → Sid → Option ℕ
deadline_at sessions sid = option_map (λ (session : SessionView). session.deadline) (session_in sessions sid)

-- the kept deadlines are those of these sessions: each name has its session's, and a name without a session has none
abbrev pub KeepsDeadlines : DueView → List SessionView → Type 0
KeepsDeadlines due sessions = (sid : Sid) → deadline_of due sid ≡ deadline_at sessions sid

-- the grants of a session among these
abbrev pub own_in : List SessionView → Sid → List Held
own_in sessions sid = option_map_or (λ (session : SessionView). session.grants) (session_in sessions sid) []

-- the grants of a request's session; an act that is no request of a session has none
abbrev pub own_by : List SessionView → Kind → List Held
own_by sessions (kind.TopUp top_up) = []
own_by sessions (kind.Initial request limit host) = own_in sessions request.key.sid
own_by sessions (kind.Update request) = own_in sessions request.key.sid
own_by sessions (kind.Termination request) = own_in sessions request.key.sid
own_by sessions (kind.Event event) = []
own_by sessions kind.Expiry = []

-- no two of these sessions have one name
abbrev pub AreApart : List SessionView → Type 0
AreApart [] = Unit {0}
AreApart (session ∷ rest) = (list_any (is_session session.sid) rest ≡ false) × AreApart rest

-- these are the sessions that are open after these acts, each once
pub record AreOpen (terms : TermsView) (past : List Done) (sessions : List SessionView) : Type 0 where
  pub found : (sid : Sid) → session_in sessions sid ≡ session_at terms past sid
  pub apart : AreApart sessions

-- the session is due at this moment
abbrev pub is_over_at : ℕ → SessionView → Bool
is_over_at moment session = nat_le session.deadline moment

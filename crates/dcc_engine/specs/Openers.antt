-- The state before an event, and the subscriber of a request that names nobody.
use Rattle.std.specs.Prelude.{ℕ, Bool, if◌then◌else◌, List, [], ◌∷◌, filter, Option, Some, None, option_and_then}
use Rattle.std.specs.List.{list_all}
use Rattle.dcc_tariff.specs.Terms.{TermsView}
use Rattle.dcc_act.specs.declared.act.Act.{Act}
use Rattle.dcc_act.specs.declared.sub.Sub.{Sub}
use Rattle.dcc_act.specs.Subs.{same_sub}
use Rattle.dcc_model.specs.Outcomes.{was_opened_from}
use Rattle.dcc_base.specs.declared.peer.Peer.{Peer}
use Rattle.dcc_dispatch.specs.Settings.{Setting}
use Rattle.dcc_dispatch.specs.Messages.{MessageView}
use Rattle.dcc_dispatch.specs.Dispatches.{session_of_key}
use Rattle.dcc_dispatch.specs.Verdicts.{verdict_of, settled}
use Rattle.dcc_dispatch.specs.declared.verdict.Verdict.{Verdict}

-- The state before an event: the peers, each subscriber's own entries, and a list that has each subscriber who opened a session. The list
-- is there to be searched: a subscriber that stands there twice, or who opened no session, changes nothing.
pub record Before : Type 0 where
  pub peers : ℕ → Option Peer
  pub own : Sub → List Act
  pub subs : List Sub

-- the subscribers who opened a session from a host, by their own entries
abbrev pub openers : TermsView → Before → (host sid : List ℕ) → List Sub
openers terms before host sid = filter (λ sub. was_opened_from terms (before.own sub) host sid) before.subs

-- the subscriber that each of these is
abbrev pub the_one : List Sub → Option Sub
the_one [] = None
the_one (sub ∷ others) = if list_all (same_sub sub) others then Some sub else None

-- the subscriber of a request that names nobody: the only subscriber who opened its session from the host of its peer
abbrev pub opener_of : TermsView → Before → (host : List ℕ) → Act → Option Sub
opener_of terms before host act = option_and_then (λ sid. the_one (openers terms before host sid)) (session_of_key act)

-- the verdict on a charging message from a peer of this host, in the state before it
abbrev pub verdict_in : Setting → Before → ℕ → (host : List ℕ) → MessageView → Verdict
verdict_in setting before moment host message =
    settled setting.identity message (opener_of setting.plan.terms before host) (verdict_of setting moment host message)

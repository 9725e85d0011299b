-- The index of who opened which session from which host.
use Rattle.std.specs.Prelude.{◌≡◌, ◌≢◌, ℕ, Bool, ◌&&◌, if◌then◌else◌, false, bytes_eq, List, Option, Some, None, option_map, MatchOption}
use Rattle.std.specs.Option.{option_map_or}
use Rattle.dcc_tariff.specs.Terms.{TermsView}
use Rattle.dcc_act.specs.declared.act.Act.{Act}
use Rattle.dcc_act.specs.declared.act.Kind.{Kind}
use Rattle.dcc_act.specs.declared.act.Kind.TheVariants.{Initial}
use Rattle.dcc_act.specs.declared.outcome.Outcome.{Outcome}
use Rattle.dcc_act.specs.declared.sub.Sub.{Sub}
use Rattle.dcc_account.specs.declared.account.Account.{Account}
use Rattle.dcc_account.specs.Prepared.{StepView}
use Rattle.dcc_model.specs.Outcomes.{acts, was_opened_from}
use Rattle.dcc_model.specs.Results.{succeeded}
use Rattle.dcc_openers.specs.Found.{noted}
use Rattle.dcc_openers.specs.Openers.{OpenersView, found_at, HasRoomFor}
use Rattle.dcc_openers.specs.declared.found.Found.{Found}
use Rattle.dcc_shard.specs.Openers.{IsFound}
use Rattle.dcc_shard.specs.Shards.{held_in}
use Rattle.dcc_shard.specs.inner.Books.{BooksView}

-- the books, and the index
pub record IndexedView : Type 0 where
  pub books : BooksView
  pub openers : OpenersView

-- under each host and session the index has the subscribers who opened the session from the host, by the accounts
abbrev pub AreOpeners : TermsView → List (Sub × Account) → OpenersView → Type 0
AreOpeners terms rows openers = (host sid : List ℕ) → IsFound (λ sub. was_opened_from terms (held_in rows sub) host sid) (found_at openers host sid)

-- the host and the session that an act opens: if it is an initial request, is new, has succeeded, and its host is known
abbrev pub opening_by : Bool → Outcome → Kind → Option (List ℕ × List ℕ)
opening_by new outcome (Initial request limit host) = if new && succeeded outcome then option_map (λ (h : List ℕ). (h, request.key.sid)) host else None
opening_by new outcome _ = None

abbrev pub opening : StepView → Option (List ℕ × List ℕ)
opening step = opening_by step.is_new step.outcome step.act.kind

-- if a step opens a session from a host, there is room to note this number of sessions of the host, and the name of the session is at hand
abbrev pub IsReady : OpenersView → ℕ → Option (List ℕ × List ℕ) → Option (List ℕ) → Type 0
IsReady openers number opens name = MatchOption opens (name ≡ None) (λ one. HasRoomFor openers one.0 number × (name ≡ Some one.1))

abbrev pub is_opening : (host sid : List ℕ) → List ℕ × List ℕ → Bool
is_opening host sid one = bytes_eq one.0 host && bytes_eq one.1 sid

-- the finding after a step of a subscriber was noted
abbrev pub noted_at : Option (List ℕ × List ℕ) → Sub → OpenersView → (host sid : List ℕ) → Found
noted_at opens sub openers host sid =
    if option_map_or (is_opening host sid) opens false then noted (found_at openers host sid) sub else found_at openers host sid

-- the subscriber has the acts that this list makes; every other subscriber's acts stay
pub record IsPageOf (old new : BooksView) (sub : Sub) (all : List Act) : Type 0 where
  pub own : held_in new.rows sub ≡ acts old.terms all
  pub others : (other : Sub) → other ≢ sub → held_in new.rows other ≡ held_in old.rows other

-- The accounts of a shard.
use Rattle.std.specs.Prelude.{◌≡◌, ◌≢◌, Bool, true, not, ◌&&◌, if◌then◌else◌, List, [], ◌∷◌, ◌++◌, Option}
use Rattle.std.specs.List.{list_any}
use Rattle.std.specs.Map.{lookup}
use Rattle.std.specs.Option.{option_map_or}
use Rattle.dcc_tariff.specs.Terms.{TermsView}
use Rattle.dcc_message.specs.declared.identity.Identity.{Identity}
use Rattle.dcc_act.specs.declared.act.Act.{Act}
use Rattle.dcc_act.specs.declared.sub.Sub.{Sub}
use Rattle.dcc_act.specs.Subs.{same_sub}
use Rattle.dcc_account.specs.declared.account.Account.{Account}
use Rattle.dcc_model.specs.Outcomes.{acts}

-- the terms by which accounts are judged, the identity of the server that answers, and the accounts
pub record ShardView : Type 0 where
  pub terms : TermsView
  pub identity : Identity
  pub rows : List (Sub × Account)

-- the account of a subscriber, if there is one
abbrev pub account_in : List (Sub × Account) → Sub → Option Account
account_in rows sub = lookup (same_sub sub) rows

-- the held acts of a subscriber, in order
abbrev pub held_in : List (Sub × Account) → Sub → List Act
held_in rows sub = option_map_or (λ (account : Account). account.acts) (account_in rows sub) []

abbrev pub held : ShardView → Sub → List Act
held shard sub = held_in shard.rows sub

-- the held acts of a subscriber after one more act: those that the list with this act makes if it was judged, and otherwise those before
abbrev pub held_after : TermsView → Bool → List Act → Act → List Act
held_after terms is_judged before act = if is_judged then acts terms (before ++ act ∷ []) else before

-- the held acts after one more act of a subscriber was judged; the acts of other subscribers stay
abbrev pub held_then : TermsView → Sub → Act → (Sub → List Act) → Sub → List Act
held_then terms sub act before other = if same_sub sub other then acts terms (before other ++ act ∷ []) else before other

-- One act of one subscriber was judged, or nothing changed. The held acts of other subscribers, the terms and the identity stay.
pub record IsStep (old new : ShardView) (is_judged : Bool) (sub : Sub) (act : Act) : Type 0 where
  pub own : held new sub ≡ held_after old.terms is_judged (held old sub) act
  pub others : (other : Sub) → other ≢ sub → held new other ≡ held old other
  pub terms : new.terms ≡ old.terms
  pub identity : new.identity ≡ old.identity

-- whether a subscriber is among these
abbrev pub is_among : Sub → List Sub → Bool
is_among sub subs = list_any (λ one. same_sub one sub) subs

-- whether each of these subscribers stands here once
abbrev pub are_apart : List Sub → Bool
are_apart [] = true
are_apart (sub ∷ subs) = not (is_among sub subs) && are_apart subs

-- the held acts of each subscriber are exactly those that their own list makes
abbrev pub AreOwn : ShardView → Type 0
AreOwn shard = (sub : Sub) → acts shard.terms (held shard sub) ≡ held shard sub

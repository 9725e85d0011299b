-- Shards without accounts.
use Rattle.std.proofs.Common.{◌≡◌, ℕ, zero, suc, ◌<◌, ◌≤◌, List, [], ◌∷◌, ◌++◌, length, get_or, ◌∙◌, arith}
use Rattle.dcc_tariff.specs.Terms.{TermsView}
use Rattle.dcc_message.specs.declared.identity.Identity.{Identity}
use Rattle.dcc_act.specs.declared.act.Act.{Act}
use Rattle.dcc_act.specs.declared.sub.Sub.{Sub}
use Rattle.dcc_shard.specs.Shards.{ShardView, held}
use Rattle.dcc_shard.specs.Stored.{StoredView}
use Rattle.dcc_shard.specs.Routes.{shard_of}
use Rattle.dcc_shard.proofs.Routing.{is_below}

-- a shard under these terms, for this server, that holds nothing
pub record IsEmpty (terms : TermsView) (identity : Identity) (shard : ShardView) : Type 0 where
  pub terms_are : shard.terms ≡ terms
  pub identity_is : shard.identity ≡ identity
  pub nothing : (sub : Sub) → held shard sub ≡ []

-- so is each of these
abbrev pub AreEmpty : {R : Type 0} → TermsView → Identity → List (StoredView R) → Type 0
AreEmpty {R} terms identity shards = (i : ℕ) (none : StoredView R) → i < length shards → IsEmpty terms identity (get_or shards i none).shard

pub with_empty : {R : Type 0} (terms : TermsView) (identity : Identity) (shards : List (StoredView R)) (one : StoredView R) → AreEmpty terms identity shards → IsEmpty terms identity one.shard
    → AreEmpty terms identity (shards ++ one ∷ [])
with_empty terms identity [] one all empty zero none below = empty
with_empty terms identity [] one all empty (suc i) none below = absurd (omega (arith, below))
with_empty terms identity (first ∷ shards) one all empty zero none below = all 0 none (omega arith)
with_empty terms identity (first ∷ shards) one all empty (suc i) none below =
    with_empty terms identity shards one (λ k d lower. all (suc k) d (omega (arith, lower))) empty i none (omega (arith, below))

-- as one they hold nothing
pub nothing_held : {R : Type 0} (terms : TermsView) (identity : Identity) (shards : List (StoredView R)) (all : Sub → List Act) → 1 ≤ length shards → AreEmpty terms identity shards
    → ((sub : Sub) (none : StoredView R) → all sub ≡ held (get_or shards (shard_of sub (length shards)) none).shard sub) → (sub : Sub) → all sub ≡ []
nothing_held terms identity [] all some empty held_is sub = absurd (omega (arith, some))
nothing_held terms identity (one ∷ shards) all some empty held_is sub =
    held_is sub one ∙ (empty (shard_of sub (length (one ∷ shards))) one (is_below (one ∷ shards) some sub)).nothing sub

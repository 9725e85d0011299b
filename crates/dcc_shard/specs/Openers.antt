-- Who opened a session from a host.
use Rattle.std.specs.Prelude.{◌≡◌, ◌≢◌, ℕ, Bool, true, false, List}
use Rattle.dcc_act.specs.declared.sub.Sub.{Sub}
use Rattle.dcc_model.specs.Outcomes.{was_opened_from}
use Rattle.dcc_openers.specs.declared.found.Found.{Found}
use Rattle.dcc_openers.specs.declared.found.Found.TheVariants as found
use Rattle.dcc_shard.specs.Shards.{ShardView, held}

-- the subscribers who pass a test are: nobody; this subscriber alone; or at least two
abbrev pub IsFound : (Sub → Bool) → Found → Type 0
IsFound passes found.None = (sub : Sub) → passes sub ≡ false
IsFound passes (found.One sub) = (passes sub ≡ true) × ((other : Sub) → passes other ≡ true → other ≡ sub)
IsFound passes found.Several = (one : Sub) × (other : Sub) × (one ≢ other) × (passes one ≡ true) × (passes other ≡ true)

-- whether a subscriber opened the session from the host, by its held acts
abbrev pub opened : ShardView → (host sid : List ℕ) → Sub → Bool
opened shard host sid sub = was_opened_from shard.terms (held shard sub) host sid

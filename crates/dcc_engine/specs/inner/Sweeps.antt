-- The state inside a sweep.
use Rattle.std.specs.Prelude.{◌≡◌, Bool, true, not, ◌&&◌, if◌then◌else◌, List, [], ◌∷◌, ◌++◌}
use Rattle.dcc_act.specs.declared.act.Act.{Act}
use Rattle.dcc_act.specs.declared.sub.Sub.{Sub}
use Rattle.dcc_shard.specs.Shards.{ShardView, held, held_after, IsStep, is_among, are_apart}

-- one subscriber's expiry was judged, or the subscriber was added to the refused ones
pub record IsOneSwept (old new : ShardView) (before then_refused : List Sub) (sub : Sub) (act : Act) : Type 0 where
  pub judged : Bool
  pub step : IsStep old new judged sub act
  pub noted : then_refused ≡ (if judged then before else before ++ sub ∷ [])

-- the expiry of each subscriber that is done and not refused was judged; the held acts of all others stay
pub record IsSwept (old new : ShardView) (done refused : List Sub) (act : Act) : Type 0 where
  pub held_is : (sub : Sub) → held new sub ≡ held_after old.terms (is_among sub done && not (is_among sub refused)) (held old sub) act
  pub within : (sub : Sub) → is_among sub refused ≡ true → is_among sub done ≡ true
  pub once : are_apart refused ≡ true
  pub terms : new.terms ≡ old.terms
  pub identity : new.identity ≡ old.identity

-- What a shard holds that was stopped and opened again.
use Rattle.std.specs.Prelude.{◌≡◌, ◌⊎◌, Bool, true, false, List, ◌∷◌, ◌++◌, map}
use Rattle.dcc_tariff.specs.Terms.{TermsView}
use Rattle.dcc_act.specs.declared.act.Act.{Act}
use Rattle.dcc_act.specs.declared.sub.Sub.{Sub}
use Rattle.dcc_model.specs.Keys.{same_key}
use Rattle.dcc_model.specs.Outcomes.{after, is_new}
use Rattle.dcc_store.specs.Books.{Held}
use Rattle.dcc_shard.specs.Shards.{are_apart}
use Rattle.dcc_shard.specs.Stored.{GoesOnFrom, held_then_all}

-- each subscriber has the same acts
abbrev pub AreAlike : Held → Held → Type 0
AreAlike one other = (sub : Sub) → one sub ≡ other sub

-- Where the records hadn't stopped, what is held again is what was held. Where they had, it is this, or this with all acts of one batch
-- more, which are of different subscribers: so each subscriber has its acts, and at most one act more. What is repeated of what was held
-- comes to what it came to first, and isn't made again.
pub record HoldsAgain (was_stopped : Bool) (terms : TermsView) (before again : Held) : Type 0 where
  pub going : was_stopped ≡ false → AreAlike before again
  pub beyond : was_stopped ≡ true
      → ∥ ((batch : List (Sub × Act)) × (are_apart (map (λ one. one.0) batch) ≡ true) × (AreAlike before again ⊎ AreAlike (held_then_all terms batch before) again)) ∥₁
  pub each : (sub : Sub) → GoesOnFrom (before sub) (again sub)
  pub repeats : (sub : Sub) (earlier later : List Act) (act repeat : Act) → before sub ≡ earlier ++ act ∷ later → is_new terms earlier act ≡ true → same_key repeat.kind act.kind ≡ true
      → (after terms (again sub) repeat ≡ after terms earlier act) × (is_new terms (again sub) repeat ≡ false)

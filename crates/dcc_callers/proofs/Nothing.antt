-- Shards that hold no acts.
use Rattle.std.proofs.Common.{◌≡◌, ℕ, ◌<◌, List, [], length, get_or, sym, ap, ◌∙◌, inl, inr}
use Rattle.std.proofs.lemmas.Option.{slice_get_cases}
use Rattle.std.specs.Prelude.{Option}
use Rattle.dcc_act.specs.declared.sub.Sub.{Sub}
use Rattle.dcc_running.specs.Books.{book, held_by}
use Rattle.dcc_shard.specs.Routes.{shard_of}
use Rattle.dcc_shard.specs.Shards.{held}
use Rattle.dcc_shard.specs.Stored.{StoredView}

pub nothing_in : {R : Type 0} (parts : List (StoredView R)) → ((i : ℕ) (none : StoredView R) (sub : Sub) → i < length parts → held (get_or parts i none).shard sub ≡ [])
    → (sub : Sub) → book parts sub ≡ []
nothing_in {R} parts each sub =
    let r = shard_of sub (length parts) in
    elim (slice_get_cases parts r).1 [
      | inl found ↦
          ap (λ (o : Option (StoredView R)). held_by o sub) found.2
          ∙ (ap (λ (p : StoredView R). held p.shard sub) (sym found.3) ∙ each r found.0 sub found.1)
      | inr past ↦ ap (λ (o : Option (StoredView R)). held_by o sub) past.1
    ]

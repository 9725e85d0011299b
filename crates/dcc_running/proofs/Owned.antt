-- The acts of books are those that they themselves make.
use Rattle.std.proofs.Common.{◌≡◌, ℕ, ◌<◌, List, length, get_or, Option, sym, ap, subst, ◌∙◌, inl, inr}
use Rattle.std.proofs.lemmas.Option.{slice_get_cases}
use Rattle.dcc_tariff.specs.Terms.{TermsView}
use Rattle.dcc_message.specs.declared.identity.Identity.{Identity}
use Rattle.dcc_act.specs.declared.sub.Sub.{Sub}
use Rattle.dcc_model.specs.Laws.{NoActs}
use Rattle.dcc_model.specs.Outcomes.{acts}
use Rattle.dcc_shard.specs.Routes.{shard_of}
use Rattle.dcc_shard.specs.Shards.{AreOwn, held}
use Rattle.dcc_shard.specs.Stored.{StoredView}
use Rattle.dcc_running.specs.Books.{AreShards, book, held_by}

is_own : {R : Type 0} → TermsView → Sub → Option (StoredView R) → Type 0
is_own terms sub part = acts terms (held_by part sub) ≡ held_by part sub

pub owned : {R : Type 0} (terms : TermsView) (identity : Identity) (parts : List (StoredView R)) → AreShards terms identity parts → NoActs
    → ((i : ℕ) (none : StoredView R) → i < length parts → AreOwn (get_or parts i none).shard)
    → (sub : Sub) → acts terms (book parts sub) ≡ book parts sub
unfolding is_own
owned {R} terms identity parts are none_acts each sub =
    let r = shard_of sub (length parts) in
    elim (slice_get_cases parts r).1 [
      | inl found ↦
          let part = found.0 in
          let here : get_or parts r part ≡ part = found.3 in
          let t : part.shard.terms ≡ terms = ap (λ (p : StoredView R). p.shard.terms) (sym here) ∙ are.terms_are r part found.1 in
          let own : acts part.shard.terms (held part.shard sub) ≡ held part.shard sub =
          let P = λ (p : StoredView R). acts p.shard.terms (held p.shard sub) ≡ held p.shard sub in subst P here (each r part found.1 sub) in
          subst (is_own terms sub) (sym found.2) (ap (λ (t : TermsView). acts t (held part.shard sub)) (sym t) ∙ own)
      | inr past ↦ subst (is_own terms sub) (sym past.1) (none_acts terms)
    ]

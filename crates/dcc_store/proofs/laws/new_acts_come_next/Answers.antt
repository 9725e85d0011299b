use Rattle.std.proofs.Common.{◌≡◌, ℕ, ◌+◌, List, [], ◌∷◌, ◌++◌, length, sym, ap, ◌∙◌}
use Rattle.std.specs.Prelude.{ℤ, ◌+ℤ◌}
use Rattle.std.proofs.lemmas.List.{length-append}
use Rattle.dcc_act.specs.declared.entry.Entry.{Entry}
use Rattle.dcc_model.specs.Outcomes.{funds}
use Rattle.dcc_model.specs.Entries.{entries, sum_of}
use Rattle.dcc_store.proofs.Sums.{sum-append, kept_with}
use Rattle.dcc_store.proofs.laws.new_acts_come_next.Goals as goal

pub returns-clause-account : goal.returns-clause-account
returns-clause-account c = λ terms before act more next.
    let add_up = c.funds_are_accounted_for.ensures.entries in
    let money : funds terms (before ++ act ∷ []) ≡ funds terms before +ℤ sum_of more =
    sym (add_up terms (before ++ act ∷ [])) ∙ ap sum_of next.entries_are ∙ sum-append (entries terms before) more ∙ ap (λ (n : ℤ). n +ℤ sum_of more) (add_up terms before) in
    ap (λ (es : List Entry). kept_with (before ++ act ∷ []) es (length (before ++ act ∷ [])) (funds terms (before ++ act ∷ []))) next.entries_are
    ∙ ap (λ (n : ℕ). kept_with (before ++ act ∷ []) (entries terms before ++ more) n (funds terms (before ++ act ∷ []))) (length-append before (act ∷ []))
    ∙ ap (λ (n : ℤ). kept_with (before ++ act ∷ []) (entries terms before ++ more) (length before + 1) n) money

use Rattle.std.proofs.Common.{◌≡◌, ℕ, suc, true, false, ltb, List, [], ◌∷◌, length, sym, ap, arith, ◌∙◌}
use Rattle.std.proofs.lemmas.Bool.{false≢true}
use Rattle.std.proofs.lemmas.Bool.Decides.{nat_tests}
use Rattle.dcc_shard.proofs.books.has_acts.Goals as goal

-- what is not empty, and what is, over variables
some : {A : Type 0} (n : ℕ) (xs held : List A) → n ≡ length xs → xs ≡ held → ltb 0 n ≡ true → held ≡ [] → ⊥
some n xs held is are more none = false≢true (sym (ap (ltb 0) (is ∙ ap length (are ∙ none))) ∙ more)

above : (k : ℕ) → ltb 0 (suc k) ≡ true
above k = grind (arith, nat_tests)

none : {A : Type 0} (n : ℕ) (xs held : List A) → n ≡ length xs → xs ≡ held → ltb 0 n ≡ false → held ≡ []
none n [] held is are no_more = sym are
none n (x ∷ xs) held is are no_more = absurd (false≢true (sym no_more ∙ ap (ltb 0) is ∙ above (length xs)))

pub returns-clause-some : goal.returns-clause-some
returns-clause-some c = some c.len.result c.acts.result.now.acts c.args.account.now.acts c.len.ensures.value c.acts.ensures.acts

pub returns-clause-none : goal.returns-clause-none
returns-clause-none c = none c.len.result c.acts.result.now.acts c.args.account.now.acts c.len.ensures.value c.acts.ensures.acts

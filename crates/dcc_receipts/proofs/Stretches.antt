-- Receipts that are true stay true, since acts are only added.
use Rattle.std.proofs.Common.{◌≡◌, Bool, ℕ, ◌-◌, ◌<◌, ◌≤◌, zero, suc, true, false, ◌&&◌, ◌||◌, ◌==◌, not, List, [], ◌∷◌, ◌++◌, length, slice_get, refl, sym, ap, ◌∙◌, inl, inr, arith}
use Rattle.std.proofs.lemmas.Bool.{cases_Bool}
use Rattle.std.proofs.lemmas.Bool.Decides.{nat_tests}
use Rattle.std.specs.Prelude.{Option, Some, None, nat_lt}
use Rattle.dcc_tariff.specs.Terms.{TermsView}
use Rattle.dcc_message.specs.declared.identity.Identity.{Identity}
use Rattle.dcc_act.specs.declared.act.Act.{Act}
use Rattle.dcc_act.specs.declared.outcome.Outcome.{Outcome}
use Rattle.dcc_model.specs.Laws.{LaterChangesNothing}
use Rattle.dcc_model.specs.Outcomes.{outcome}
use Rattle.dcc_receipts.specs.Audit.{agrees, came_to, is_answered, is_there, tells_of}
use Rattle.dcc_receipts.specs.Stretches.{TrueStayTrue}
use Rattle.dcc_receipts.specs.declared.receipt.Receipt.{Receipt}

-- an act stands in a list once acts are added
still_there : (all more : List Act) (k : ℕ) (act : Act) → slice_get all k ≡ Some act → (slice_get (all ++ more) k ≡ Some act) × (k < length all)
still_there [] more k act is = absurd cc
still_there (x ∷ xs) more zero act is = (is, omega arith)
still_there (x ∷ xs) more (suc k) act is = let rest = still_there xs more k act is in (rest.0, omega (arith, rest.1))

both_of : (a b : Bool) → (a && b) ≡ true → (a ≡ true) × (b ≡ true)
both_of true b is = (refl, is)
both_of false b is = absurd cc

-- a receipt with a place: its act stands in the list, so nothing that is added changes its outcome
placed : LaterChangesNothing → (identity : Identity) (terms : TermsView) (opened : ℕ) (all more : List Act) (r : Receipt) → (r.place == 0) ≡ false
    → (o : Option Act) → slice_get all (r.place - 1) ≡ o → ((is_there o r && (not r.fresh || nat_lt opened r.place)) && tells_of identity terms r (outcome terms all r.place)) ≡ true
    → ((is_there (slice_get (all ++ more) (r.place - 1)) r && (not r.fresh || nat_lt opened r.place)) && tells_of identity terms r (outcome terms (all ++ more) r.place)) ≡ true
placed later identity terms opened all more r at None is all_of = absurd cc
placed later identity terms opened all more r at (Some act) is all_of =
    let there = still_there all more (r.place - 1) act is in
    let upto : r.place ≤ length all = grind (arith, nat_tests) in
    rw (there.0, later terms all more r.place upto) all_of

pub stay_true : LaterChangesNothing → TrueStayTrue
stay_true later identity terms opened all more r is = elim (cases_Bool (r.place == 0)) [
  | inl none ↦ rw none (rw none at is)
  | inr at ↦ rw at (placed later identity terms opened all more r at (slice_get all (r.place - 1)) refl (rw at at is))
]

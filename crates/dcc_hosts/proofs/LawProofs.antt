-- The laws of hosts.
use Rattle.std.proofs.Common.{◌≡◌, ℕ, zero, suc, ℤ, pos, List, map, take, reverse, Option, Some, None, refl, sym, ap, ◌∙◌, option_map}
use Rattle.std.specs.Prelude.{slice_get}
use Rattle.dcc_tariff.specs.Terms.{TermsView}
use Rattle.dcc_act.specs.declared.act.Act.{Act}
use Rattle.dcc_act.specs.declared.outcome.Outcome.{Outcome}
use Rattle.dcc_model.specs.declared.done.Done.{Done}
use Rattle.dcc_model.specs.declared.judgement.Standing.{Standing}
use Rattle.dcc_model.specs.Money.{funds_of, overrun_of, free_of}
use Rattle.dcc_model.specs.Outcomes.{judged, is_made, act_made, place_of, kept_of, history, after, is_new, place, outcome, acts, funds, overrun, free, standing_of, standing, kept}
use Rattle.dcc_model.specs.Entries.{entries_of, entries}
use Rattle.dcc_hosts.specs.Hosts.{unhosted}
use Rattle.dcc_hosts.specs.Laws.{AfterIsUnhosted, NewIsUnhosted, PlaceIsUnhosted, OutcomesAreUnhosted, ActsAreUnhosted, KeptAreUnhosted, AccountIsUnhosted}
use Rattle.dcc_hosts.specs.Laws.{AfterIsAlike, NewIsAlike, PlaceIsAlike, OutcomesAreAlike, ActsAreAlike, KeptAreAlike, AccountIsAlike}
use Rattle.dcc_hosts.proofs.Blind.{without}
use Rattle.dcc_hosts.proofs.Money.{funds_same, overrun_same, free_same}
use Rattle.dcc_hosts.proofs.Outcomes.{judged_same, is_made_same, kept_same}
use Rattle.dcc_hosts.proofs.Histories.{reverse_unhosted, past_unhosted, made_without, place_same, entries_same, take_unhosted, get_unhosted}

pub after_unhosted : AfterIsUnhosted
unfolding after
after_unhosted terms xs act = ap (λ (past : List Done). judged terms past (unhosted act)) (past_unhosted terms xs) ∙ judged_same terms (history terms (reverse xs)) act

pub new_unhosted : NewIsUnhosted
unfolding is_new
new_unhosted terms xs act = ap (λ (past : List Done). is_made terms past (unhosted act)) (past_unhosted terms xs) ∙ is_made_same terms (history terms (reverse xs)) act

pub place_unhosted : PlaceIsUnhosted
unfolding place
place_unhosted terms xs act = ap (λ (past : List Done). place_of terms past (unhosted act)) (past_unhosted terms xs) ∙ place_same terms (history terms (reverse xs)) act

after_found : (terms : TermsView) (before : List Act) (found : Option Act) → option_map (after terms (map unhosted before)) (option_map unhosted found) ≡ option_map (after terms before) found
after_found terms before None = refl
after_found terms before (Some act) = ap (λ (comes_to : Outcome). Some comes_to) (after_unhosted terms before act)

pub outcomes_unhosted : OutcomesAreUnhosted
unfolding outcome
outcomes_unhosted terms xs zero = refl
outcomes_unhosted terms xs (suc n) =
    ap (λ (before : List Act). option_map (after terms before) (slice_get (map unhosted xs) n)) (take_unhosted n xs)
    ∙ ap (λ (found : Option Act). option_map (after terms (map unhosted (take n xs))) found) (get_unhosted xs n)
    ∙ after_found terms (take n xs) (slice_get xs n)

pub acts_unhosted : ActsAreUnhosted
unfolding acts
acts_unhosted terms xs =
    ap (λ (past : List Done). reverse (map act_made past)) (past_unhosted terms xs)
    ∙ ap (λ (zs : List Act). reverse zs) (made_without (history terms (reverse xs)))
    ∙ reverse_unhosted (map act_made (history terms (reverse xs)))

pub kept_unhosted : KeptAreUnhosted
unfolding kept
kept_unhosted terms xs key = ap (λ (past : List Done). kept_of past key) (past_unhosted terms xs) ∙ kept_same (history terms (reverse xs)) key

abbrev standing_by : ℤ → ℤ → ℕ → Standing
standing_by funds free overrun = record { funds = funds; free = free; overrun = pos overrun }

standing_same : (terms : TermsView) (past : List Done) → standing_of terms (without past) ≡ standing_of terms past
standing_same terms past =
    ap (λ (f : ℤ). standing_by f (free_of terms (without past)) (overrun_of terms (without past))) (funds_same terms past)
    ∙ ap (λ (f : ℤ). standing_by (funds_of terms past) f (overrun_of terms (without past))) (free_same terms past)
    ∙ ap (λ (n : ℕ). standing_by (funds_of terms past) (free_of terms past) n) (overrun_same terms past)

pub account_unhosted : AccountIsUnhosted
unfolding funds overrun free standing entries
account_unhosted terms xs =
    let past = history terms (reverse xs) in
    let is = past_unhosted terms xs in
    record {
      same_funds = ap (λ (p : List Done). funds_of terms p) is ∙ funds_same terms past;
      same_overrun = ap (λ (p : List Done). overrun_of terms p) is ∙ overrun_same terms past;
      same_free = ap (λ (p : List Done). free_of terms p) is ∙ free_same terms past;
      same_standing = ap (λ (p : List Done). standing_of terms p) is ∙ standing_same terms past;
      same_entries = ap (λ (p : List Done). entries_of terms p) is ∙ entries_same terms past;
    }

pub after_alike : AfterIsAlike
after_alike terms xs ys act other alike is =
    sym (after_unhosted terms xs act)
    ∙ ap (λ (zs : List Act). after terms zs (unhosted act)) alike
    ∙ ap (λ (a : Act). after terms (map unhosted ys) a) is
    ∙ after_unhosted terms ys other

pub new_alike : NewIsAlike
new_alike terms xs ys act other alike is =
    sym (new_unhosted terms xs act)
    ∙ ap (λ (zs : List Act). is_new terms zs (unhosted act)) alike
    ∙ ap (λ (a : Act). is_new terms (map unhosted ys) a) is
    ∙ new_unhosted terms ys other

pub place_alike : PlaceIsAlike
place_alike terms xs ys act other alike is =
    sym (place_unhosted terms xs act)
    ∙ ap (λ (zs : List Act). place terms zs (unhosted act)) alike
    ∙ ap (λ (a : Act). place terms (map unhosted ys) a) is
    ∙ place_unhosted terms ys other

pub outcomes_alike : OutcomesAreAlike
outcomes_alike terms xs ys k alike =
    sym (outcomes_unhosted terms xs k) ∙ ap (λ (zs : List Act). outcome terms zs k) alike ∙ outcomes_unhosted terms ys k

pub acts_alike : ActsAreAlike
acts_alike terms xs ys alike = sym (acts_unhosted terms xs) ∙ ap (λ (zs : List Act). acts terms zs) alike ∙ acts_unhosted terms ys

pub kept_alike : KeptAreAlike
kept_alike terms xs ys key alike = sym (kept_unhosted terms xs key) ∙ ap (λ (zs : List Act). kept terms zs key) alike ∙ kept_unhosted terms ys key

pub account_alike : AccountIsAlike
account_alike terms xs ys alike =
    let a = account_unhosted terms xs in
    let b = account_unhosted terms ys in
    record {
      same_funds = sym a.same_funds ∙ ap (λ (zs : List Act). funds terms zs) alike ∙ b.same_funds;
      same_overrun = sym a.same_overrun ∙ ap (λ (zs : List Act). overrun terms zs) alike ∙ b.same_overrun;
      same_free = sym a.same_free ∙ ap (λ (zs : List Act). free terms zs) alike ∙ b.same_free;
      same_standing = sym a.same_standing ∙ ap (λ (zs : List Act). standing terms zs) alike ∙ b.same_standing;
      same_entries = sym a.same_entries ∙ ap (λ (zs : List Act). entries terms zs) alike ∙ b.same_entries;
    }

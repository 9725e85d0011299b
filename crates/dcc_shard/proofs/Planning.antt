-- The plans of calls.
use Rattle.std.proofs.Common.{◌≡◌, ℕ, Bool, true, false, List, [], ◌∷◌, ◌++◌, length, Option, Some, None, refl, sym, ap, ◌∙◌, append_assoc, arith}
use Rattle.std.specs.Prelude.{is_some, is_none}
use Rattle.std.specs.List.{AllZip, AllByRecursion}
use Rattle.dcc_tariff.specs.Terms.{TermsView}
use Rattle.dcc_act.specs.declared.act.Act.{Act}
use Rattle.dcc_act.specs.declared.act.Kind.{Kind}
use Rattle.dcc_act.specs.declared.act.Kind.TheVariants as kind
use Rattle.dcc_act.specs.declared.outcome.Outcome.{Outcome}
use Rattle.dcc_act.specs.declared.outcome.Outcome.TheVariants as outcomes
use Rattle.dcc_model.specs.Keys.{ticket, is_expiry}
use Rattle.dcc_model.specs.Laws.{TopUpsAreAdded, ExpiriesEnd, UnknownHasNoPlace}
use Rattle.dcc_model.specs.Outcomes.{after, place, is_new, is_unknown, IsOfTopUp, IsOfExpiry}
use Rattle.dcc_shard.specs.Answers.{told, ended}
use Rattle.dcc_shard.specs.inner.Plans.{is_of_way, has_reply}
use Rattle.dcc_shard.specs.declared.plan.Way.{Way}
use Rattle.dcc_shard.specs.declared.plan.Way.TheVariants as ways

-- one more at the end of both lists
pub zip_more : {A B : Type 0} (R : A → B → Type 0) (xs : List A) (ys : List B) (x : A) (y : B) → AllZip R xs ys → R x y → AllZip R (xs ++ x ∷ []) (ys ++ y ∷ [])
zip_more R [] [] x y all more = (more, tt)
zip_more R [] (b ∷ ys) x y all more = absurd all
zip_more R (a ∷ xs) [] x y all more = absurd all
zip_more R (a ∷ xs) (b ∷ ys) x y all more = (all.0, zip_more R xs ys x y all.1 more)

pub zip_length : {A B : Type 0} (R : A → B → Type 0) (xs : List A) (ys : List B) → AllZip R xs ys → length xs ≡ length ys
zip_length R [] [] all = refl
zip_length R [] (b ∷ ys) all = absurd all
zip_length R (a ∷ xs) [] all = absurd all
zip_length R (a ∷ xs) (b ∷ ys) all = let more = zip_length R xs ys all.1 in omega (arith, more)

pub all_more : {A : Type 0} (P : A → Type 0) (xs : List A) (x : A) → AllByRecursion P xs → P x → AllByRecursion P (xs ++ x ∷ [])
all_more P [] x all more = (more, tt)
all_more P (a ∷ xs) x all more = (all.0, all_more P xs x all.1 more)

-- a top-up and an expiry have a reply, whatever the acts before
told_there : (outcome : Outcome) (at : Option ℕ) (new : Bool) → IsOfTopUp outcome → is_none at ≡ is_unknown outcome → is_some (told outcome at new) ≡ true
told_there outcomes.Added (Some k) new is there = refl
told_there outcomes.Added None new is there = absurd cc
told_there outcomes.Ceiling (Some k) new is there = refl
told_there outcomes.Ceiling None new is there = absurd cc
told_there (outcomes.Unknown request key) at new is there = absurd is
told_there (outcomes.Answered answer) at new is there = absurd is
told_there (outcomes.Expired sessions) at new is there = absurd is

ended_there : (outcome : Outcome) (at : Option ℕ) → IsOfExpiry outcome → is_some (ended outcome at) ≡ true
ended_there outcomes.Added at is = absurd is
ended_there outcomes.Ceiling at is = absurd is
ended_there (outcomes.Unknown request key) at is = absurd is
ended_there (outcomes.Answered answer) at is = absurd is
ended_there (outcomes.Expired sessions) (Some k) is = refl
ended_there (outcomes.Expired sessions) None is = refl

no_expiry : (k : Kind) → is_some (ticket k) ≡ true → is_expiry k ≡ false
no_expiry (kind.TopUp top_up) is = refl
no_expiry (kind.Initial request limit host) is = refl
no_expiry (kind.Update request) is = refl
no_expiry (kind.Termination request) is = refl
no_expiry (kind.Event event) is = refl
no_expiry kind.Expiry is = absurd cc

pub reply_there : TopUpsAreAdded → ExpiriesEnd → UnknownHasNoPlace → (terms : TermsView) (before : List Act) (act : Act) (way : Way) → is_of_way way act ≡ true
    → has_reply (after terms before act) (place terms before act) (is_new terms before act) way ≡ true
reply_there added ends unknown terms before act (ways.Request header proxies) is = refl
reply_there added ends unknown terms before act ways.TopUp is =
    told_there (after terms before act) (place terms before act) (is_new terms before act) (added terms before act is) (unknown terms before act (no_expiry act.kind is))
reply_there added ends unknown terms before act ways.Expiry is = ended_there (after terms before act) (place terms before act) (ends terms before act is)

-- one more of a list was taken
pub taken : {A : Type 0} (yielded rest next all : List A) (x : A) → yielded ++ rest ≡ all → rest ≡ x ∷ next → (yielded ++ x ∷ []) ++ next ≡ all
taken {A} yielded rest next all x whole is = append_assoc yielded (x ∷ []) next ∙ ap (λ (tail : List A). yielded ++ tail) (sym is) ∙ whole

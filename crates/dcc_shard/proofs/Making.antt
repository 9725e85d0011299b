-- The calls of a batch, made or refused.
use Rattle.std.proofs.Common.{◌≡◌, ℕ, Bool, true, false, not, ◌&&◌, ◌||◌, List, [], ◌∷◌, ◌++◌, map, refl, sym, ap, ap₂, subst, ◌∙◌, inl, inr}
use Rattle.std.specs.Prelude.{if◌then◌else◌, MatchBool}
use Rattle.std.proofs.lemmas.Bool.{cases_Bool}
use Rattle.std.specs.List.{AllZip, AllByRecursion}
use Rattle.dcc_tariff.specs.Terms.{TermsView}
use Rattle.dcc_act.specs.declared.act.Act.{Act}
use Rattle.dcc_act.specs.declared.sub.Sub.{Sub}
use Rattle.dcc_act.specs.Subs.{same_sub, SameAreEqual}
use Rattle.dcc_model.specs.Outcomes.{acts, is_new}
use Rattle.dcc_model.specs.Laws.{OneMoreAct}
use Rattle.dcc_openers.specs.Openers.{OpenersView}
use Rattle.dcc_message.specs.declared.identity.Identity.{Identity}
use Rattle.dcc_account.specs.declared.account.Account.{Account}
use Rattle.dcc_store.specs.Books.{Held}
use Rattle.dcc_store.specs.Contents.{Content}
use Rattle.dcc_store.specs.Stops.{LeavesOnly, LeavesEither}
use Rattle.dcc_shard.specs.Shards.{ShardView, held, held_in, held_then, is_among, are_apart}
use Rattle.dcc_shard.specs.Stored.{held_then_all}
use Rattle.dcc_shard.specs.Batches.{sub_of, act_of, held_behind, AreReplies, is_judged_reply, is_one_judged, IsReplyToldApart, IsReplyBounded, AreKept}
use Rattle.dcc_shard.specs.inner.Books.{BooksView}
use Rattle.dcc_shard.specs.inner.Pending.{step_of}
use Rattle.dcc_shard.specs.inner.Plans.{IsReplied, IsFormed, IsRefusal, IsPlan, IsStanding, IsInstead, AreMade, steps_in, subs_in, reply_in, shard_of_books}
use Rattle.dcc_shard.specs.Answers.{session_of_act}
use Rattle.dcc_shard.specs.declared.call.Call.{Call}
use Rattle.dcc_shard.specs.declared.call.Reply.{Reply}
use Rattle.dcc_shard.specs.declared.plan.Plan.{Plan}
use Rattle.dcc_shard.specs.declared.plan.Plan.TheVariants as plans
use Rattle.dcc_shard.proofs.Batching.{neither, first_apart}
use Rattle.dcc_shard.proofs.Committing.{idle}

-- the subscribers of planned steps are among those of the calls, and are different if those are
among_planned : (shard : ShardView) (calls : List Call) (all : List Plan) (sub : Sub) → AllZip (IsPlan shard) calls all → is_among sub (map sub_of calls) ≡ false → is_among sub (subs_in all) ≡ false
among_planned shard [] [] sub zip apart = refl
among_planned shard [] (plan ∷ all) sub zip apart = absurd zip
among_planned shard (call ∷ calls) [] sub zip apart = absurd zip
among_planned shard (call ∷ calls) (plans.Refused reply ∷ all) sub zip apart =
    among_planned shard calls all sub zip.1 (neither (same_sub (sub_of call) sub) (is_among sub (map sub_of calls)) apart).1
among_planned shard (call ∷ calls) (plans.Step one ready way reply ∷ all) sub zip apart =
    let both = neither (same_sub (sub_of call) sub) (is_among sub (map sub_of calls)) apart in
    let beside : same_sub one sub ≡ false = ap (λ (s : Sub). same_sub s sub) zip.0.sub_is ∙ both.0 in
    let rest = among_planned shard calls all sub zip.1 both.1 in
    rw beside rest

pub planned_apart : (shard : ShardView) (calls : List Call) (all : List Plan) → AllZip (IsPlan shard) calls all → are_apart (map sub_of calls) ≡ true → are_apart (subs_in all) ≡ true
planned_apart shard [] [] zip apart = refl
planned_apart shard [] (plan ∷ all) zip apart = absurd zip
planned_apart shard (call ∷ calls) [] zip apart = absurd zip
planned_apart shard (call ∷ calls) (plans.Refused reply ∷ all) zip apart =
    planned_apart shard calls all zip.1 (first_apart (is_among (sub_of call) (map sub_of calls)) (are_apart (map sub_of calls)) apart).1
planned_apart shard (call ∷ calls) (plans.Step one ready way reply ∷ all) zip apart =
    let both = first_apart (is_among (sub_of call) (map sub_of calls)) (are_apart (map sub_of calls)) apart in
    let none : is_among one (subs_in all) ≡ false = ap (λ (s : Sub). is_among s (subs_in all)) zip.0.sub_is ∙ among_planned shard calls all (sub_of call) zip.1 both.0 in
    let rest = planned_apart shard calls all zip.1 both.1 in
    rw none rest

-- a reply of a judged call, or of one that wasn't
abbrev pub IsAny : ShardView → Call → Reply → Type 0
IsAny shard call reply = (judged : Bool) × IsReplied shard judged call reply

any_planned : (shard : ShardView) (calls : List Call) (all : List Plan) → AllZip (IsPlan shard) calls all → AllZip (IsAny shard) calls (map reply_in all)
any_planned shard [] [] zip = tt
any_planned shard [] (plan ∷ all) zip = absurd zip
any_planned shard (call ∷ calls) [] zip = absurd zip
any_planned shard (call ∷ calls) (plans.Refused reply ∷ all) zip = ((false, zip.0), any_planned shard calls all zip.1)
any_planned shard (call ∷ calls) (plans.Step one ready way reply ∷ all) zip = ((true, zip.0.replied), any_planned shard calls all zip.1)

any_refused : (shard : ShardView) (calls : List Call) (replies : List Reply) → AllZip (IsReplied shard false) calls replies → AllZip (IsAny shard) calls replies
any_refused shard [] [] zip = tt
any_refused shard [] (reply ∷ replies) zip = absurd zip
any_refused shard (call ∷ calls) [] zip = absurd zip
any_refused shard (call ∷ calls) (reply ∷ replies) zip = ((false, zip.0), any_refused shard calls replies zip.1)

replies_of : (shard : ShardView) (calls : List Call) (replies : List Reply) → AllZip (IsAny shard) calls replies → AreReplies shard calls replies
replies_of shard [] [] zip = tt
replies_of shard [] (reply ∷ replies) zip = absurd zip
replies_of shard (call ∷ calls) [] zip = absurd zip
replies_of shard (call ∷ calls) (reply ∷ replies) zip = (zip.0.1.is, replies_of shard calls replies zip.1)

apart_of : (shard : ShardView) (calls : List Call) (replies : List Reply) → AllZip (IsAny shard) calls replies → AllByRecursion IsReplyToldApart replies
apart_of shard [] [] zip = tt
apart_of shard [] (reply ∷ replies) zip = absurd zip
apart_of shard (call ∷ calls) [] zip = absurd zip
apart_of shard (call ∷ calls) (reply ∷ replies) zip = (zip.0.1.formed.apart, apart_of shard calls replies zip.1)

bounded_of : (shard : ShardView) (calls : List Call) (replies : List Reply) → AllZip (IsAny shard) calls replies → AllByRecursion IsReplyBounded replies
bounded_of shard [] [] zip = tt
bounded_of shard [] (reply ∷ replies) zip = absurd zip
bounded_of shard (call ∷ calls) [] zip = absurd zip
bounded_of shard (call ∷ calls) (reply ∷ replies) zip = (zip.0.1.formed.bounded, bounded_of shard calls replies zip.1)

-- where all are refused, nothing was judged
none_judged : (shard : ShardView) (calls : List Call) (replies : List Reply) → AllZip (IsReplied shard false) calls replies → is_one_judged replies ≡ false
none_judged shard [] [] zip = refl
none_judged shard [] (reply ∷ replies) zip = absurd zip
none_judged shard (call ∷ calls) [] zip = absurd zip
none_judged shard (call ∷ calls) (reply ∷ replies) zip = ap₂ (λ (a b : Bool). a || b) zip.0.formed.judged_is (none_judged shard calls replies zip.1)

none_behind : (shard : ShardView) (terms : TermsView) (calls : List Call) (replies : List Reply) → AllZip (IsReplied shard false) calls replies → (before : Held)
    → held_behind terms calls (map is_judged_reply replies) before ≡ before
none_behind shard terms [] [] zip before = refl
none_behind shard terms [] (reply ∷ replies) zip before = absurd zip
none_behind shard terms (call ∷ calls) [] zip before = absurd zip
none_behind shard terms (call ∷ calls) (reply ∷ replies) zip before =
    ap (λ (m : Bool). held_behind terms calls (map is_judged_reply replies) (if m then held_then terms (sub_of call) (act_of call) before else before)) zip.0.formed.judged_is
    ∙ none_behind shard terms calls replies zip.1 before

-- what is held behind the calls, of which the planned ones were judged, is what is held after the planned steps
steps_behind : (shard : ShardView) (terms : TermsView) (calls : List Call) (all : List Plan) → AllZip (IsPlan shard) calls all → (before : Held)
    → held_behind terms calls (map is_judged_reply (map reply_in all)) before ≡ held_then_all terms (steps_in all) before
steps_behind shard terms [] [] zip before = refl
steps_behind shard terms [] (plan ∷ all) zip before = absurd zip
steps_behind shard terms (call ∷ calls) [] zip before = absurd zip
steps_behind shard terms (call ∷ calls) (plans.Refused reply ∷ all) zip before =
    ap (λ (m : Bool). held_behind terms calls (map is_judged_reply (map reply_in all)) (if m then held_then terms (sub_of call) (act_of call) before else before)) zip.0.formed.judged_is
    ∙ steps_behind shard terms calls all zip.1 before
steps_behind shard terms (call ∷ calls) (plans.Step one ready way reply ∷ all) zip before =
    ap (λ (m : Bool). held_behind terms calls (map is_judged_reply (map reply_in all)) (if m then held_then terms (sub_of call) (act_of call) before else before)) zip.0.replied.formed.judged_is
    ∙ ap₂ (λ (s : Sub) (a : Act). held_behind terms calls (map is_judged_reply (map reply_in all)) (held_then terms s a before)) (sym zip.0.sub_is) (sym zip.0.act_is)
    ∙ steps_behind shard terms calls all zip.1 (held_then terms one (step_of ready.pending).act before)

-- the replies of planned calls if the append is refused
any_instead : (shard : ShardView) (going : Bool) (calls : List Call) (all : List Plan) (replies : List Reply) → AllZip (IsPlan shard) calls all → AllZip (IsInstead shard.identity going) all replies
    → AllZip (IsAny shard) calls replies
any_instead shard going [] [] [] zip instead = tt
any_instead shard going [] [] (reply ∷ replies) zip instead = absurd instead
any_instead shard going [] (plan ∷ all) replies zip instead = absurd zip
any_instead shard going (call ∷ calls) [] replies zip instead = absurd zip
any_instead shard going (call ∷ calls) (plans.Refused one ∷ all) [] zip instead = absurd instead
any_instead shard going (call ∷ calls) (plans.Step one ready way kept ∷ all) [] zip instead = absurd instead
any_instead shard going (call ∷ calls) (plans.Refused one ∷ all) (reply ∷ replies) zip instead =
    ((false, subst (IsReplied shard false call) (sym instead.0) zip.0), any_instead shard going calls all replies zip.1 instead.1)
any_instead shard going (call ∷ calls) (plans.Step one ready way kept ∷ all) (reply ∷ replies) zip instead =
    let step = step_of ready.pending in
    let P : Bool → Type 0 = λ b. MatchBool b (reply ≡ kept) (IsRefusal shard.identity (session_of_act step.act) way reply × IsFormed false reply) in
    let rest = any_instead shard going calls all replies zip.1 instead.1 in
    elim (cases_Bool (going && not step.is_new)) [
      | inl t ↦ let is : reply ≡ kept = subst P t instead.0 in ((true, subst (IsReplied shard true call) (sym is) zip.0.replied), rest)
      | inr f ↦
          let is : IsRefusal shard.identity (session_of_act step.act) way reply × IsFormed false reply = subst P f instead.0 in
          ((false, record { is = zip.0.refused reply is.0; formed = is.1 }), rest)
    ]

-- once the records are stopped, none is judged
none_instead : (shard : ShardView) (calls : List Call) (all : List Plan) (replies : List Reply) → AllZip (IsPlan shard) calls all → AllZip (IsInstead shard.identity false) all replies
    → is_one_judged replies ≡ false
none_instead shard [] [] [] zip instead = refl
none_instead shard [] [] (reply ∷ replies) zip instead = absurd instead
none_instead shard [] (plan ∷ all) replies zip instead = absurd zip
none_instead shard (call ∷ calls) [] replies zip instead = absurd zip
none_instead shard (call ∷ calls) (plans.Refused one ∷ all) [] zip instead = absurd instead
none_instead shard (call ∷ calls) (plans.Step one ready way kept ∷ all) [] zip instead = absurd instead
none_instead shard (call ∷ calls) (plans.Refused one ∷ all) (reply ∷ replies) zip instead =
    ap₂ (λ (a b : Bool). a || b) (ap is_judged_reply instead.0 ∙ zip.0.formed.judged_is) (none_instead shard calls all replies zip.1 instead.1)
none_instead shard (call ∷ calls) (plans.Step one ready way kept ∷ all) (reply ∷ replies) zip instead =
    ap₂ (λ (a b : Bool). a || b) instead.0.1.judged_is (none_instead shard calls all replies zip.1 instead.1)

-- the second of two that both hold, of which it is said that it doesn't
not_new : (going new : Bool) → (going && not new) ≡ true → new ≡ false
not_new true true both = absurd cc
not_new true false both = refl
not_new false new both = absurd cc

-- acts that aren't new change nothing
idle_then : SameAreEqual → OneMoreAct → (terms : TermsView) (before all : Held) (sub : Sub) (act : Act) → ((s : Sub) → all s ≡ before s) → acts terms (before sub) ≡ before sub
    → is_new terms (before sub) act ≡ false → (s : Sub) → held_then terms sub act all s ≡ before s
idle_then same more terms before all sub act alike own old s = elim (cases_Bool (same_sub sub s)) [
  | inl t ↦
      let e : sub ≡ s = (same sub s).0 t in
      let there : held_then terms sub act all s ≡ acts terms (all s ++ act ∷ []) = rw t refl in
      let P : Sub → Type 0 = λ o. before o ≡ acts terms (before o ++ act ∷ []) in
      let stays : before s ≡ acts terms (before s ++ act ∷ []) = subst P e (idle more terms before sub act own old) in
      there ∙ ap (λ (xs : List Act). acts terms (xs ++ act ∷ [])) (alike s) ∙ sym stays
  | inr f ↦ let there : held_then terms sub act all s ≡ all s = rw f refl in there ∙ alike s
]

-- so what is held behind calls of which only such ones are judged is what was held
pub idle_behind : SameAreEqual → OneMoreAct → (identity : Identity) (books : BooksView) (openers : OpenersView) (number : ℕ) (going : Bool)
    → ((sub : Sub) → acts books.terms (held_in books.rows sub) ≡ held_in books.rows sub) → (calls : List Call) (all : List Plan) (replies : List Reply)
    → AllZip (IsPlan (shard_of_books identity books)) calls all → AllByRecursion (IsStanding books openers number) all → AllZip (IsInstead identity going) all replies
    → (behind : Held) → ((sub : Sub) → behind sub ≡ held_in books.rows sub) → (sub : Sub) → held_behind books.terms calls (map is_judged_reply replies) behind sub ≡ held_in books.rows sub
idle_behind same more identity books openers number going own [] [] [] zip standing instead behind alike sub = alike sub
idle_behind same more identity books openers number going own [] [] (reply ∷ replies) zip standing instead behind alike sub = absurd instead
idle_behind same more identity books openers number going own [] (plan ∷ all) replies zip standing instead behind alike sub = absurd zip
idle_behind same more identity books openers number going own (call ∷ calls) [] replies zip standing instead behind alike sub = absurd zip
idle_behind same more identity books openers number going own (call ∷ calls) (plans.Refused one ∷ all) [] zip standing instead behind alike sub = absurd instead
idle_behind same more identity books openers number going own (call ∷ calls) (plans.Step one ready way kept ∷ all) [] zip standing instead behind alike sub = absurd instead
idle_behind same more identity books openers number going own (call ∷ calls) (plans.Refused one ∷ all) (reply ∷ replies) zip standing instead behind alike sub =
    let unjudged : is_judged_reply reply ≡ false = ap is_judged_reply instead.0 ∙ zip.0.formed.judged_is in
    ap (λ (m : Bool). held_behind books.terms calls (map is_judged_reply replies) (if m then held_then books.terms (sub_of call) (act_of call) behind else behind) sub) unjudged
    ∙ idle_behind same more identity books openers number going own calls all replies zip.1 standing.1 instead.1 behind alike sub
idle_behind same more identity books openers number going own (call ∷ calls) (plans.Step one ready way kept ∷ all) (reply ∷ replies) zip standing instead behind alike sub =
    let step = step_of ready.pending in
    let P : Bool → Type 0 = λ b. MatchBool b (reply ≡ kept) (IsRefusal identity (session_of_act step.act) way reply × IsFormed false reply) in
    let rest = idle_behind same more identity books openers number going own calls all replies zip.1 standing.1 instead.1 in
    elim (cases_Bool (going && not step.is_new)) [
      | inl t ↦
          let is : reply ≡ kept = subst P t instead.0 in
          let judged : is_judged_reply reply ≡ true = ap is_judged_reply is ∙ zip.0.replied.formed.judged_is in
          let old : is_new books.terms (held_in books.rows one) step.act ≡ false = sym standing.0.0.new_is ∙ not_new going step.is_new t in
          ap (λ (m : Bool). held_behind books.terms calls (map is_judged_reply replies) (if m then held_then books.terms (sub_of call) (act_of call) behind else behind) sub) judged
          ∙ ap₂ (λ (s : Sub) (a : Act). held_behind books.terms calls (map is_judged_reply replies) (held_then books.terms s a behind) sub) (sym zip.0.sub_is) (sym zip.0.act_is)
          ∙ rest (held_then books.terms one step.act behind) (idle_then same more books.terms (held_in books.rows) behind one step.act alike (own one) old) sub
      | inr f ↦
          let is : IsRefusal identity (session_of_act step.act) way reply × IsFormed false reply = subst P f instead.0 in
          ap (λ (m : Bool). held_behind books.terms calls (map is_judged_reply replies) (if m then held_then books.terms (sub_of call) (act_of call) behind else behind) sub) is.1.judged_is
          ∙ rest behind alike sub
    ]

not_both : (b : Bool) → b ≡ true → b ≡ false → ⊥
not_both true t f = cc
not_both false t f = cc

-- the effect on the records of an append for the planned steps, and of none
kept_of_steps : (shard : ShardView) (calls : List Call) (all : List Plan) (before after : Content → Type 0) (was is : Bool) (faults_before faults_after : ℕ) → AllZip (IsPlan shard) calls all
    → LeavesEither shard.terms (held shard) (held_then_all shard.terms (steps_in all) (held shard)) after → (faults_after ≡ faults_before → is ≡ false) → was ≡ false
    → AreKept shard.terms (held shard) calls before after was is faults_before faults_after
kept_of_steps shard calls all before after was is fb fa zip either faults going = record {
  crash = λ same.
      let P : Held → Type 0 = λ h. LeavesEither shard.terms (held shard) h after in
      ∣ (map is_judged_reply (map reply_in all), subst P (sym (steps_behind shard shard.terms calls all zip (held shard))) either) ∣₁;
  frozen = λ stopped. absurd (not_both was stopped going);
  faults = λ same. faults same ∙ sym going;
}

pub made_by_steps : (shard : ShardView) (new : BooksView) (calls : List Call) (all : List Plan) (replies : List Reply) (before after : Content → Type 0) (was is : Bool) (faults_before faults_after : ℕ)
    → AllZip (IsPlan shard) calls all → replies ≡ map reply_in all
    → ((sub : Sub) → held_in new.rows sub ≡ held_then_all shard.terms (steps_in all) (held shard) sub) → new.terms ≡ shard.terms
    → LeavesEither shard.terms (held shard) (held_then_all shard.terms (steps_in all) (held shard)) after → (faults_after ≡ faults_before → is ≡ false) → was ≡ false → is ≡ false
    → AreMade shard new calls replies before after was is faults_before faults_after
made_by_steps shard new calls all replies before after was is fb fa zip same acts terms either faults going still =
    let P : List Reply → Type 0 = λ rs. AreMade shard new calls rs before after was is fb fa in
    let any = any_planned shard calls all zip in
    subst P (sym same) (record {
      replies_are = replies_of shard calls (map reply_in all) any;
      apart = apart_of shard calls (map reply_in all) any;
      bounded = bounded_of shard calls (map reply_in all) any;
      acts = λ sub. acts sub ∙ sym (ap (λ (h : Held). h sub) (steps_behind shard shard.terms calls all zip (held shard)));
      terms = terms;
      kept = kept_of_steps shard calls all before after was is fb fa zip either faults going;
      going = λ judged. still;
      stopped = λ stopped. absurd (not_both was stopped going);
    })

pub made_instead : (shard : ShardView) (new : BooksView) (calls : List Call) (all given : List Plan) (replies : List Reply) (before after : Content → Type 0) (was is : Bool) (faults_before faults_after : ℕ)
    (still : Bool) → AllZip (IsPlan shard) calls all → given ≡ all → AllZip (IsInstead shard.identity still) given replies → still ≡ not is
    → ((sub : Sub) → held_behind shard.terms calls (map is_judged_reply replies) (held shard) sub ≡ held shard sub) → new.rows ≡ shard.rows → new.terms ≡ shard.terms
    → LeavesEither shard.terms (held shard) (held_then_all shard.terms (steps_in all) (held shard)) after → (faults_after ≡ faults_before → is ≡ false) → was ≡ false
    → AreMade shard new calls replies before after was is faults_before faults_after
made_instead shard new calls all given replies before after was is fb fa still zip same instead goes idle_acts rows terms either faults going =
    let P : List Plan → Type 0 = λ ps. AllZip (IsInstead shard.identity still) ps replies in
    let here = subst P same instead in
    let any = any_instead shard still calls all replies zip here in
    let Q : Bool → Type 0 = λ b. AllZip (IsInstead shard.identity b) all replies in
    record {
      replies_are = replies_of shard calls replies any;
      apart = apart_of shard calls replies any;
      bounded = bounded_of shard calls replies any;
      acts = λ sub. ap (λ (r : List (Sub × Account)). held_in r sub) rows ∙ sym (idle_acts sub);
      terms = terms;
      kept = kept_of_steps shard calls all before after was is fb fa zip either faults going;
      going = λ judged. elim (cases_Bool is) [
        | inl stops ↦
            let gone : still ≡ false = goes ∙ ap not stops in
            absurd (not_both (is_one_judged replies) judged (none_instead shard calls all replies zip (subst Q gone here)))
        | inr goes_on ↦ goes_on
      ];
      stopped = λ stopped. absurd (not_both was stopped going);
    }

-- nothing was planned
pub made_none : (shard : ShardView) (new : BooksView) (calls : List Call) (replies : List Reply) (leaves : Content → Type 0) (stopped : Bool) (faults : ℕ)
    → AllZip (IsReplied shard false) calls replies → new.rows ≡ shard.rows → new.terms ≡ shard.terms → (stopped ≡ false → LeavesOnly shard.terms (held shard) leaves)
    → AreMade shard new calls replies leaves leaves stopped stopped faults faults
made_none shard new calls replies leaves stopped faults refused rows terms kept =
    let any = any_refused shard calls replies refused in
    record {
      replies_are = replies_of shard calls replies any;
      apart = apart_of shard calls replies any;
      bounded = bounded_of shard calls replies any;
      acts = λ sub. ap (λ (r : List (Sub × Account)). held_in r sub) rows ∙ sym (ap (λ (h : Held). h sub) (none_behind shard shard.terms calls replies refused (held shard)));
      terms = terms;
      kept = record {
        crash = λ going. ∣ ([], λ found left. inl (kept going found left)) ∣₁;
        frozen = λ is. (is, λ found left. left);
        faults = λ same. refl;
      };
      going = λ judged. absurd (not_both (is_one_judged replies) judged (none_judged shard calls replies refused));
      stopped = λ is. none_judged shard calls replies refused;
    }

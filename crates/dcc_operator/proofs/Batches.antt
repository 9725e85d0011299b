-- Top-ups as calls of a batch.
use Rattle.std.proofs.lemmas.List.{length-append}
use Rattle.std.proofs.Common.{suc, append_assoc, append-nil, ◌≡◌, ◌≢◌, ℕ, ◌+◌, Bool, true, false, ◌||◌, ◌&&◌, not, List, [], ◌∷◌, ◌++◌, map, length, refl, sym, ap, subst, ◌∙◌, inl, inr}
use Rattle.std.proofs.lemmas.Bool.{cases_Bool}
use Rattle.std.specs.List.{AllZip, list_any, list_all}
use Rattle.dcc_tariff.specs.Terms.{TermsView}
use Rattle.dcc_act.specs.declared.act.Act.{Act}
use Rattle.dcc_act.specs.declared.sub.Sub.{Sub}
use Rattle.dcc_act.specs.Subs.{same_sub, SameAreEqual}
use Rattle.dcc_store.specs.Books.{Held}
use Rattle.dcc_shard.specs.Answers.{is_judged_top_up}
use Rattle.dcc_shard.specs.Batches.{sub_of, has_request_act, IsReply, is_judged_reply, held_behind}
use Rattle.dcc_shard.specs.Shards.{ShardView, IsStep, held, held_after, is_among, are_apart}
use Rattle.dcc_shard.specs.declared.call.Reply.{Reply}
use Rattle.dcc_shard.specs.declared.call.Reply.TheVariants as replies
use Rattle.dcc_operator.specs.declared.commands.TopUpAsk.{TopUpAsk}
use Rattle.dcc_operator.specs.Many.{IsToldBehind, held_behind_one, AreToppedUp, act_of}
use Rattle.dcc_model.specs.Outcomes as Outcomes
use Rattle.dcc_shard.specs.declared.answers.TopUpAnswer.{TopUpAnswer}
use Rattle.dcc_operator.specs.inner.Batches.{call_of, subs_of, answers_in, IsMadeOf}

-- a subscriber is among those of top-ups if one of them is the subscriber's
pub any_sub : (sub : Sub) (asks : List TopUpAsk) → list_any (λ one. same_sub one sub) (map (λ (ask : TopUpAsk). ask.sub) asks) ≡ list_any (λ (ask : TopUpAsk). same_sub ask.sub sub) asks
any_sub sub [] = refl
any_sub sub (ask ∷ asks) = ap (λ (rest : Bool). same_sub ask.sub sub || rest) (any_sub sub asks)

-- the subscribers of the calls are those of the top-ups
pub subs_are : (asks : List TopUpAsk) → map sub_of (map call_of asks) ≡ subs_of asks
subs_are [] = refl
subs_are (ask ∷ asks) = ap (λ (subs : List Sub). ask.sub ∷ subs) (subs_are asks)

-- no call of a top-up is a request
pub none_asks : (asks : List TopUpAsk) → list_all has_request_act (map call_of asks) ≡ true
none_asks [] = refl
none_asks (ask ∷ asks) = none_asks asks

and_true : (a b : Bool) → (a && b) ≡ true → (a ≡ true) × (b ≡ true)
and_true true b is = (refl, is)
and_true false b is = absurd (let e = is in cc)

not_true : (a : Bool) → not a ≡ true → a ≡ false
not_true true is = absurd (let e = is in cc)
not_true false is = refl

or_right : (a b : Bool) → b ≡ true → (a || b) ≡ true
or_right true b is = refl
or_right false b is = is

-- a subscriber that is among others is not one that is not among them
not_same : SameAreEqual → (sub other : Sub) (subs : List Sub) → is_among sub subs ≡ false → is_among other subs ≡ true → same_sub sub other ≡ false
not_same law sub other subs out among = elim (cases_Bool (same_sub sub other)) [
  | inl is ↦ absurd (let e : is_among sub subs ≡ true = subst (λ (one : Sub). is_among one subs ≡ true) (sym ((law sub other).0 is)) among in let f = sym e ∙ out in cc)
  | inr is ↦ is
]

-- the acts of other subscribers stay behind a top-up
stays : (terms : TermsView) (ask : TopUpAsk) (answer : _) (before : Held) (other : Sub) → same_sub ask.sub other ≡ false → held_behind_one terms ask answer before other ≡ before other
stays terms ask answer before other apart = elim (cases_Bool (is_judged_top_up answer)) [
  | inl is ↦ rw (is, apart) refl
  | inr is ↦ rw is refl
]

-- top-ups of different subscribers are answered by the shard as it was as they are one after another
pub made_together : SameAreEqual → (shard : ShardView) (before : Held) (asks : List TopUpAsk) (all : List Reply) → are_apart (subs_of asks) ≡ true
    → ((sub : Sub) → is_among sub (subs_of asks) ≡ true → before sub ≡ held shard sub)
    → AllZip (IsReply shard) (map call_of asks) all
    → AreToppedUp shard.terms asks (answers_in all) before (held_behind shard.terms (map call_of asks) (map is_judged_reply all) before)
made_together law shard before [] [] apart known given = λ sub. refl
made_together law shard before [] (reply ∷ all) apart known given = absurd given
made_together law shard before (ask ∷ asks) [] apart known given = absurd given
made_together law shard before (ask ∷ asks) (replies.Request answer ∷ all) apart known given = absurd given.0
made_together law shard before (ask ∷ asks) (replies.Expiry answer ∷ all) apart known given = absurd given.0
made_together law shard before (ask ∷ asks) (replies.TopUp answer ∷ all) apart known given =
    let parts = and_true (not (is_among ask.sub (subs_of asks))) (are_apart (subs_of asks)) apart in
    let out : is_among ask.sub (subs_of asks) ≡ false = not_true (is_among ask.sub (subs_of asks)) parts.0 in
    let own : same_sub ask.sub ask.sub ≡ true = (law ask.sub ask.sub).1 refl in (
      subst (λ (acts : List Act). IsToldBehind shard.terms acts ask answer) (sym (known ask.sub (rw own refl))) given.0,
      made_together law shard (held_behind_one shard.terms ask answer before) asks all parts.1
          (λ sub among. stays shard.terms ask answer before sub (not_same law ask.sub sub (subs_of asks) out among) ∙ known sub (or_right (same_sub ask.sub sub) (is_among sub (subs_of asks)) among)) given.1,
    )

alike_one : (terms : TermsView) (ask : TopUpAsk) (answer : TopUpAnswer) (one other : Held) → ((sub : Sub) → one sub ≡ other sub)
    → (sub : Sub) → held_behind_one terms ask answer one sub ≡ held_behind_one terms ask answer other sub
alike_one terms ask answer one other alike sub = elim (cases_Bool (is_judged_top_up answer)) [
  | inl is ↦ rw is (elim (cases_Bool (same_sub ask.sub sub)) [
    | inl own ↦ rw own (ap (λ (acts : List Act). Outcomes.acts terms (acts ++ act_of ask ∷ [])) (alike sub))
    | inr not_own ↦ rw not_own (alike sub)
  ])
  | inr is ↦ rw is (alike sub)
]

-- books that hold the same acts of each subscriber are topped up alike
alike_made : (terms : TermsView) (asks : List TopUpAsk) (answers : List TopUpAnswer) (one other last : Held) → ((sub : Sub) → one sub ≡ other sub)
    → AreToppedUp terms asks answers one last → AreToppedUp terms asks answers other last
alike_made terms [] [] one other last alike made = λ sub. made sub ∙ alike sub
alike_made terms [] (answer ∷ answers) one other last alike made = made
alike_made terms (ask ∷ asks) [] one other last alike made = made
alike_made terms (ask ∷ asks) (answer ∷ answers) one other last alike made = (
  subst (λ (acts : List Act). IsToldBehind terms acts ask answer) (alike ask.sub) made.0,
  alike_made terms asks answers (held_behind_one terms ask answer one) (held_behind_one terms ask answer other) last (alike_one terms ask answer one other alike) made.1,
)

-- top-ups behind others are made behind them
joined : (terms : TermsView) (asks more : List TopUpAsk) (answers others : List TopUpAnswer) (first mid last : Held)
    → AreToppedUp terms asks answers first mid → AreToppedUp terms more others mid last → AreToppedUp terms (asks ++ more) (answers ++ others) first last
joined terms [] more [] others first mid last made next = alike_made terms more others mid first last (λ sub. made sub) next
joined terms [] more (answer ∷ answers) others first mid last made next = absurd made
joined terms (ask ∷ asks) more [] others first mid last made next = absurd made
joined terms (ask ∷ asks) more (answer ∷ answers) others first mid last made next =
    (made.0, joined terms asks more answers others (held_behind_one terms ask answer first) mid last made.1 next)

-- the same in a shard, whose terms and identity stay
pub made_more : (old mid new : ShardView) (asks more : List TopUpAsk) (before between after : List TopUpAnswer) → IsMadeOf old mid asks before between → IsMadeOf mid new more between after
    → IsMadeOf old new (asks ++ more) before after
made_more old mid new asks more before between after one next = record {
  answers = one.answers ++ next.answers;
  added = next.added ∙ ap (λ (all : List TopUpAnswer). all ++ next.answers) one.added ∙ append_assoc before one.answers next.answers;
  made = joined old.terms asks more one.answers next.answers (held old) (held mid) (held new) one.made (subst (λ (terms : TermsView). AreToppedUp terms more next.answers (held mid) (held new)) one.terms next.made);
  terms = next.terms ∙ one.terms;
  identity = next.identity ∙ one.identity;
}

-- no top-up is made
pub made_none : (shard : ShardView) (before : List TopUpAnswer) → IsMadeOf shard shard [] before before
made_none shard before = record { answers = []; added = sym (append-nil before); made = λ sub. refl; terms = refl; identity = refl }

-- a step of a top-up leaves what is held behind it
pub step_behind : SameAreEqual → (old new : ShardView) (ask : TopUpAsk) (answer : TopUpAnswer) → IsStep old new (is_judged_top_up answer) ask.sub (act_of ask)
    → (sub : Sub) → held new sub ≡ held_behind_one old.terms ask answer (held old) sub
step_behind law old new ask answer step sub = elim (cases_Bool (same_sub ask.sub sub)) [
  | inl own ↦ (
      let is : ask.sub ≡ sub = (law ask.sub sub).0 own in
      let here : held new sub ≡ held_after old.terms (is_judged_top_up answer) (held old sub) (act_of ask) =
      subst (λ (one : Sub). held new one ≡ held_after old.terms (is_judged_top_up answer) (held old one) (act_of ask)) is step.own in
      elim (cases_Bool (is_judged_top_up answer)) [
        | inl judged ↦ rw (judged, own) (rw judged at here)
        | inr not_judged ↦ rw not_judged (rw not_judged at here)
      ])
  | inr apart ↦ (
      let other : sub ≢ ask.sub = λ is. let e : same_sub ask.sub sub ≡ true = (law ask.sub sub).1 (sym is) in let f = sym e ∙ apart in cc in
      step.others sub other ∙ sym (stays old.terms ask answer (held old) sub apart))
]

-- each top-up has an answer
pub as_many : (terms : TermsView) (asks : List TopUpAsk) (answers : List TopUpAnswer) (first last : Held) → AreToppedUp terms asks answers first last → length answers ≡ length asks
as_many terms [] [] first last made = refl
as_many terms [] (answer ∷ answers) first last made = absurd made
as_many terms (ask ∷ asks) [] first last made = absurd made
as_many terms (ask ∷ asks) (answer ∷ answers) first last made = ap suc (as_many terms asks answers (held_behind_one terms ask answer first) last made.1)

-- there are as many answers more as top-ups
pub made_length : (old new : ShardView) (asks : List TopUpAsk) (before after : List TopUpAnswer) → IsMadeOf old new asks before after → length after ≡ length before + length asks
made_length old new asks before after made =
    ap length made.added ∙ (length-append before made.answers ∙ ap (λ (n : ℕ). length before + n) (as_many old.terms asks made.answers (held old) (held new) made.made))

-- the last acts, subscriber by subscriber
pub ending : (terms : TermsView) (asks : List TopUpAsk) (answers : List TopUpAnswer) (first last other : Held) → ((sub : Sub) → other sub ≡ last sub)
    → AreToppedUp terms asks answers first last → AreToppedUp terms asks answers first other
ending terms [] [] first last other alike made = λ sub. alike sub ∙ made sub
ending terms [] (answer ∷ answers) first last other alike made = made
ending terms (ask ∷ asks) [] first last other alike made = made
ending terms (ask ∷ asks) (answer ∷ answers) first last other alike made = (made.0, ending terms asks answers (held_behind_one terms ask answer first) last other alike made.1)

-- there are as many replies as top-ups
pub as_replies : (shard : ShardView) (asks : List TopUpAsk) (all : List Reply) → AllZip (IsReply shard) (map call_of asks) all → length all ≡ length asks
as_replies shard [] [] given = refl
as_replies shard [] (reply ∷ all) given = absurd given
as_replies shard (ask ∷ asks) [] given = absurd given
as_replies shard (ask ∷ asks) (reply ∷ all) given = ap suc (as_replies shard asks all given.1)

-- Steps and batches only add acts to those that a shard holds of a subscriber.
use Rattle.std.proofs.Common.{◌≡◌, ◌≤◌, Bool, true, false, ◌&&◌, if◌then◌else◌, List, [], ◌∷◌, ◌++◌, length, refl, sym, ap, subst, ◌∙◌, inl, inr, append-nil}
use Rattle.std.proofs.lemmas.Bool.{cases_Bool}
use Rattle.std.proofs.lemmas.List.{append_assoc}
use Rattle.std.specs.List.{list_all}
use Rattle.std.specs.Prelude.{map}
use Rattle.dcc_tariff.specs.Terms.{TermsView}
use Rattle.dcc_act.specs.declared.act.Act.{Act}
use Rattle.dcc_act.specs.declared.sub.Sub.{Sub}
use Rattle.dcc_act.specs.Subs.{same_sub, SameAreEqual}
use Rattle.dcc_model.specs.Laws.{ActsAreActs, OneMoreAct}
use Rattle.dcc_model.specs.Outcomes.{acts, is_new}
use Rattle.dcc_store.specs.Books.{Held}
use Rattle.dcc_shard.specs.Batches.{BatchesLeaveOthers, IsBatch, act_of, held_behind, is_judged_reply, sub_of}
use Rattle.dcc_shard.specs.Shards.{AreOwn, IsStep, ShardView, held, held_after, held_then, is_among}
use Rattle.dcc_shard.specs.declared.call.Call.{Call}
use Rattle.dcc_shard.specs.declared.call.Reply.{Reply}
use Rattle.dcc_shard.specs.Stored.{StoredView}
use Rattle.dcc_receipts.specs.Stretches.{TrueStayTrue}
use Rattle.dcc_receipts.specs.declared.receipt.Receipt.{Receipt}
use Rattle.dcc_running.specs.Audited.{is_true}
use Rattle.dcc_running.specs.Books.{BeginWith}
use Rattle.dcc_running.specs.declared.lock.Place.{Place}
use Rattle.dcc_running.specs.inner.Touches.{Touched, is_touched}
use Rattle.dcc_running.specs.inner.Wards.{AreSettled, AreTold, BatchesGrow, Grows, IsBegun, StepsGrow}

pub begin_alike : (xs ys : List Act) → ys ≡ xs → BeginWith xs ys
begin_alike xs ys same = ([], same ∙ sym (append-nil xs))

pub begin_on : (xs ys zs : List Act) → BeginWith xs ys → BeginWith ys zs → BeginWith xs zs
begin_on xs ys zs one two = (one.0 ++ two.0, two.1 ∙ (ap (λ (l : List Act). l ++ two.0) one.1 ∙ append_assoc xs one.0 two.0))

grown : OneMoreAct → (terms : TermsView) (xs : List Act) (act : Act) → acts terms xs ≡ xs → BeginWith xs (acts terms (xs ++ act ∷ []))
grown more terms xs act own =
    elim (cases_Bool (is_new terms xs act)) [
      | inl new ↦ (
        act ∷ [],
        more terms xs act ∙ (ap (λ b. if b then acts terms xs ++ act ∷ [] else acts terms xs) new ∙ ap (λ (l : List Act). l ++ act ∷ []) own),
      )
      | inr old ↦
          begin_alike xs (acts terms (xs ++ act ∷ [])) (more terms xs act ∙ (ap (λ b. if b then acts terms xs ++ act ∷ [] else acts terms xs) old ∙ own))
    ]

after : OneMoreAct → (terms : TermsView) (judged : Bool) (xs ys : List Act) (act : Act) → acts terms xs ≡ xs → ys ≡ held_after terms judged xs act → BeginWith xs ys
after more terms true xs ys act own is = subst (λ (l : List Act). BeginWith xs l) (sym is) (grown more terms xs act own)
after more terms false xs ys act own is = begin_alike xs ys is

pub both_of : (a b : Bool) → (a && b) ≡ true → (a ≡ true) × (b ≡ true)
both_of true b is = (refl, is)
both_of false b is = absurd cc

pub not_both : (b : Bool) → b ≡ true → b ≡ false → ⊥
not_both true t f = cc
not_both false t f = cc

steps_add : SameAreEqual → OneMoreAct → (old : ShardView) → AreOwn old → (new : ShardView) (judged : Bool) (one : Sub) (act : Act) → IsStep old new judged one act
    → (sub : Sub) → BeginWith (held old sub) (held new sub)
steps_add same more old own new judged one act step sub =
    elim (cases_Bool (same_sub sub one)) [
      | inl here ↦
          let e : sub ≡ one = (same sub one).0 here in
          subst (λ (s : Sub). BeginWith (held old s) (held new s)) (sym e) (after more old.terms judged (held old one) (held new one) act (own one) step.own)
      | inr other ↦
          begin_alike (held old sub) (held new sub) (step.others sub (λ e. not_both (same_sub sub one) ((same sub one).1 e) other))
    ]

pub steps_grow : SameAreEqual → OneMoreAct → (old : ShardView) → AreOwn old → StepsGrow old
steps_grow same more old own new judged one act step = record {
  acts = λ sub. steps_add same more old own new judged one act step sub;
  terms = step.terms;
  identity = step.identity;
}

then_grows : OneMoreAct → (terms : TermsView) (one : Sub) (act : Act) (all : Held) (sub : Sub) → acts terms (all sub) ≡ all sub
    → BeginWith (all sub) (held_then terms one act all sub)
then_grows more terms one act all sub own =
    elim (cases_Bool (same_sub one sub)) [
      | inl here ↦ rw here (grown more terms (all sub) act own)
      | inr other ↦ rw other (begin_alike (all sub) (all sub) refl)
    ]

then_own : ActsAreActs → (terms : TermsView) (one : Sub) (act : Act) (all : Held) (sub : Sub) → acts terms (all sub) ≡ all sub
    → acts terms (held_then terms one act all sub) ≡ held_then terms one act all sub
then_own whole terms one act all sub own =
    elim (cases_Bool (same_sub one sub)) [
      | inl here ↦ rw here (whole terms (all sub ++ act ∷ []))
      | inr other ↦ rw other own
    ]

behind_grows : OneMoreAct → ActsAreActs → (terms : TermsView) (calls : List Call) (marks : List Bool) (all : Held) → ((sub : Sub) → acts terms (all sub) ≡ all sub)
    → (sub : Sub) → BeginWith (all sub) (held_behind terms calls marks all sub)
behind_grows more whole terms [] marks all own sub = begin_alike (all sub) (all sub) refl
behind_grows more whole terms (call ∷ calls) [] all own sub = begin_alike (all sub) (all sub) refl
behind_grows more whole terms (call ∷ calls) (false ∷ marks) all own sub = behind_grows more whole terms calls marks all own sub
behind_grows more whole terms (call ∷ calls) (true ∷ marks) all own sub =
    let next : Held = held_then terms (sub_of call) (act_of call) all in
    begin_on (all sub) (next sub) (held_behind terms calls marks next sub) (then_grows more terms (sub_of call) (act_of call) all sub (own sub))
    (behind_grows more whole terms calls marks next (λ other. then_own whole terms (sub_of call) (act_of call) all other (own other)) sub)

pub batches_grow : OneMoreAct → ActsAreActs → (old : ShardView) → AreOwn old → BatchesGrow old
batches_grow more whole old own new calls replies batch = record {
  acts = λ sub. subst (λ (l : List Act). BeginWith (held old sub) l) (sym (batch.acts sub))
      (behind_grows more whole old.terms calls (map is_judged_reply replies) (held old) own sub);
  terms = batch.terms;
  identity = batch.identity;
}

-- a shard whose acts only grew still begins with the acts at opening
pub still_begun : {R : Type 0} (opening : Held) (place : Place) (old new : StoredView R) → IsBegun opening place old
    → Grows old.shard new.shard → IsBegun opening place new
still_begun {R} opening place old new begun grows sub here =
    begin_on (opening sub) (held old.shard sub) (held new.shard sub) (begun sub here) (grows.acts sub)

one_told : TrueStayTrue → (opening : Held) (old new : ShardView) → Grows old new → (r : Receipt) → is_true old.identity old.terms opening (held old) r ≡ true
    → is_true new.identity new.terms opening (held new) r ≡ true
one_told stay opening old new grows r is =
    let more = grows.acts r.sub in
    rw (grows.terms, grows.identity, more.1) (stay old.identity old.terms (length (opening r.sub)) (held old r.sub) more.0 r is)

each_told : TrueStayTrue → (opening : Held) (old new : ShardView) → Grows old new → (told : List Receipt)
    → list_all (is_true old.identity old.terms opening (held old)) told ≡ true → list_all (is_true new.identity new.terms opening (held new)) told ≡ true
each_told stay opening old new grows [] are = refl
each_told stay opening old new grows (r ∷ rest) are =
    let both = both_of (is_true old.identity old.terms opening (held old) r) (list_all (is_true old.identity old.terms opening (held old)) rest) are in
    rw (one_told stay opening old new grows r both.0) (each_told stay opening old new grows rest both.1)

-- receipts that were true of a shard whose acts only grew are true of it
pub still_told : {R : Type 0} → TrueStayTrue → (opening : Held) (old new : StoredView R) (told : List Receipt) → AreTold opening old told → Grows old.shard new.shard
    → AreTold opening new told
still_told {R} stay opening old new told are grows = each_told stay opening old.shard new.shard grows told are

-- what no step changes: the acts of a subscriber of whom no call is counted
pub still_settled : {R : Type 0} → SameAreEqual → (opening : Held) (place : Place) (old new : StoredView R) (touched : Touched) (told : List Receipt) (judged : Bool) (one : Sub) (act : Act)
    → AreSettled opening place old touched told → IsStep old.shard new.shard judged one act → is_touched touched one ≡ true → AreSettled opening place new touched told
still_settled same opening place old new touched told judged one act are step counted sub here untouched at low high =
    let stays : held new.shard sub ≡ held old.shard sub =
    step.others sub (λ e. not_both (is_touched touched sub) (ap (λ (s : Sub). is_touched touched s) e ∙ counted) untouched) in
    are sub here untouched at low (subst (λ (l : List Act). at ≤ length l) stays high)

-- the same of a batch
pub batch_settled : {R : Type 0} → BatchesLeaveOthers → (opening : Held) (place : Place) (old new : StoredView R) (touched : Touched) (told : List Receipt) (calls : List Call) (replies : List Reply)
    → AreSettled opening place old touched told → IsBatch old.shard new.shard calls replies
    → ((sub : Sub) → is_among sub (map sub_of calls) ≡ true → is_touched touched sub ≡ true) → AreSettled opening place new touched told
batch_settled others opening place old new touched told calls replies are batch counted sub here untouched at low high =
    elim (cases_Bool (is_among sub (map sub_of calls))) [
      | inl among ↦ absurd (not_both (is_touched touched sub) (counted sub among) untouched)
      | inr apart ↦
          let stays : held new.shard sub ≡ held old.shard sub =
          batch.acts sub ∙ others old.shard.terms calls (map is_judged_reply replies) (held old.shard) sub apart in
          are sub here untouched at low (subst (λ (l : List Act). at ≤ length l) stays high)
    ]

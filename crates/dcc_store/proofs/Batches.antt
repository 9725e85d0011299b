-- Batches: the acts of each subscriber once they are added.
use Rattle.std.proofs.Common.{◌≡◌, Bool, true, false, cond, ◌&&◌, not, List, [], ◌∷◌, ◌++◌, refl, sym, subst, ap, ◌∙◌, inl, inr}
use Rattle.std.proofs.lemmas.Bool.{cases_Bool, and_parts}
use Rattle.dcc_tariff.specs.Terms.{TermsView}
use Rattle.dcc_act.specs.declared.act.Act.{Act}
use Rattle.dcc_act.specs.declared.sub.Sub.{Sub}
use Rattle.dcc_act.specs.Subs.{same_sub, SameAreEqual}
use Rattle.dcc_store.specs.Books.{Held, with_act}
use Rattle.dcc_store.specs.Batches.{AdditionView, subs_of, with_all, is_none_of, are_apart, AreNext}
use Rattle.dcc_store.specs.Laws.{BooksGrow, NextIsFound, BatchesLeaveOthers, BatchesGrowEach, BatchesAreTheirActs, BatchesJoin, BooksGrowByBatches, BatchesAreFound, RestIsNext}

-- both tests hold
first_of_two : (a b : Bool) → a && b ≡ true → a ≡ true
first_of_two a b both = (and_parts a b both).0

second_of_two : (a b : Bool) → a && b ≡ true → b ≡ true
second_of_two a b both = (and_parts a b both).1

not_true : (a : Bool) → not a ≡ true → a ≡ false
not_true a is =
    elim (cases_Bool a) [ inl holds ↦ let e : false ≡ true = sym (ap not holds) ∙ is in absurd (cc e) | inr none ↦ none ]

-- subscribers that differ one way differ the other way
turned : SameAreEqual → (a b : Sub) → same_sub a b ≡ false → same_sub b a ≡ false
turned same a b apart =
    elim (cases_Bool (same_sub b a)) [
      | inl one ↦ let e : b ≡ a = (same b a).0 one in let f : same_sub a b ≡ true = (same a b).1 (sym e) in absurd (cc (f, apart))
      | inr none ↦ none
    ]

-- the act of one subscriber leaves the acts of another
other_stays : (sub other : Sub) (act : Act) (held : Held) → same_sub sub other ≡ false → with_act sub act held other ≡ held other
other_stays sub other act held apart = rw apart refl

own_grows : SameAreEqual → (sub : Sub) (act : Act) (held : Held) → with_act sub act held sub ≡ held sub ++ act ∷ []
own_grows same sub act held = let e : same_sub sub sub ≡ true = (same sub sub).1 refl in rw e refl

-- a batch leaves the acts of those of whom it has none
pub others_stay : SameAreEqual → BatchesLeaveOthers
others_stay same [] held sub none = refl
others_stay same (one ∷ batch) held sub none =
    others_stay same batch (with_act one.sub one.act held) sub (second_of_two _ _ none)
    ∙ other_stays one.sub sub one.act held (turned same sub one.sub (not_true _ (first_of_two _ _ none)))

-- the batches whose first parts are the same act
pub joined : BatchesJoin
joined [] more held = refl
joined (one ∷ batch) more held = joined batch more (with_act one.sub one.act held)

-- acts added to books that agree on a subscriber agree on it
pub alike : (batch : List AdditionView) (held other : Held) (sub : Sub) → held sub ≡ other sub → with_all batch held sub ≡ with_all batch other sub
alike [] held other sub e = e
alike (one ∷ batch) held other sub e =
    alike batch (with_act one.sub one.act held) (with_act one.sub one.act other) sub (ap (λ (acts : List Act). cond (same_sub one.sub sub) (acts ++ one.act ∷ []) acts) e)

pub first_alone : SameAreEqual → BatchesAreTheirActs
first_alone same one batch held sub apart =
    elim (cases_Bool (same_sub one.sub sub)) [
      | inl here ↦
          let e : one.sub ≡ sub = (same one.sub sub).0 here in
          let none : is_none_of sub (subs_of batch) ≡ true = let P : Sub → Type 0 = λ s. is_none_of s (subs_of batch) ≡ true in subst P e (first_of_two _ _ apart) in
          rw here (others_stay same batch (with_act one.sub one.act held) sub none ∙ rw here refl)
      | inr gone ↦ rw gone (alike batch (with_act one.sub one.act held) held sub (rw gone refl))
    ]

-- the subscribers of a part are none of those behind it, and a part in front leaves them apart
apart_behind : (before : List AdditionView) (batch : List AdditionView) → are_apart (subs_of (before ++ batch)) ≡ true → are_apart (subs_of batch) ≡ true
apart_behind [] batch apart = apart
apart_behind (one ∷ before) batch apart = apart_behind before batch (second_of_two _ _ apart)

none_behind : (sub : Sub) (before : List AdditionView) (one : AdditionView) (behind : List AdditionView) → is_none_of sub (subs_of (before ++ one ∷ behind)) ≡ true
    → same_sub sub one.sub ≡ false
none_behind sub [] one behind none = not_true _ (first_of_two _ _ none)
none_behind sub (first ∷ before) one behind none = none_behind sub before one behind (second_of_two _ _ none)

pub each_grows : SameAreEqual → BatchesGrowEach
each_grows same [] one behind held apart =
    others_stay same behind (with_act one.sub one.act held) one.sub (first_of_two _ _ apart) ∙ own_grows same one.sub one.act held
each_grows same (first ∷ before) one behind held apart =
    each_grows same before one behind (with_act first.sub first.act held) (second_of_two _ _ apart)
    ∙ ap (λ (acts : List Act). acts ++ one.act ∷ []) (other_stays first.sub one.sub first.act held (none_behind first.sub before one behind (first_of_two _ _ apart)))

-- the parts that remain may come next once another subscriber's act is added
still_next : (terms : TermsView) (sub : Sub) (act : Act) (batch : List AdditionView) (held : Held) → is_none_of sub (subs_of batch) ≡ true
    → AreNext terms batch held → AreNext terms batch (with_act sub act held)
still_next terms sub act [] held none next = tt
still_next terms sub act (one ∷ batch) held none next =
    let gone : same_sub sub one.sub ≡ false = not_true _ (first_of_two _ _ none) in
    (rw gone next.0, still_next terms sub act batch held (second_of_two _ _ none) next.1)

pub rest_next : RestIsNext
rest_next terms one batch held apart next = still_next terms one.sub one.act batch held (first_of_two _ _ apart) next

pub books_grow : BooksGrow → BooksGrowByBatches
books_grow grow terms [] held apart book next = book
books_grow grow terms (one ∷ batch) held apart book next =
    books_grow grow terms batch (with_act one.sub one.act held) (second_of_two _ _ apart) (grow terms one.sub one.act one.entries held book next.0)
    (rest_next terms one batch held apart next.1)

pub found_next : NextIsFound → BatchesAreFound
found_next finds terms [] held content is next = tt
found_next finds terms (one ∷ batch) held content is next =
    (finds terms one.sub one.act one.entries held content is next.0, found_next finds terms batch held content is next.1)

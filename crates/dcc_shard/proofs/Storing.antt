-- What an append does to the records, and what a stop then leaves.
use Rattle.std.proofs.Common.{◌≡◌, ◌≢◌, ◌⊎◌, ℕ, ◌+◌, ◌≤◌, Bool, true, false, List, [], ◌∷◌, ◌++◌, length, map, take, length-append, Result, Ok, Err, refl, sym, ap, subst, ◌∙◌, arith, inl, inr}
use Rattle.std.proofs.lemmas.Bool.{cases_Bool}
use Rattle.std.proofs.lemmas.List.{take_at, take_all}
use Rattle.std.proofs.Math.Logic.{∥∥₁_map, ∥∥₁_elim}
use Rattle.std.proofs.Props.{props}
use Rattle.dcc_tariff.specs.Terms.{TermsView}
use Rattle.dcc_act.specs.declared.act.Act.{Act}
use Rattle.dcc_act.specs.declared.entry.Entry.{Entry}
use Rattle.dcc_act.specs.declared.sub.Sub.{Sub}
use Rattle.dcc_act.specs.Subs.{SameAreEqual}
use Rattle.dcc_model.specs.Outcomes.{acts, is_new}
use Rattle.dcc_model.specs.Laws.{OneMoreAct}
use Rattle.dcc_store.specs.Books.{Held, no_acts, with_act}
use Rattle.dcc_store.specs.Contents.{Content, Kept, IsContentOf, IsNext}
use Rattle.dcc_store.specs.Stops.{LeavesOnly, LeavesEither}
use Rattle.dcc_store.specs.Laws.{ContentHasOneBook, AlikeBooksHaveOneContent, NewIsNext, NextIsFound, OwnGrows, OthersStay}
use Rattle.dcc_store.specs.declared.fault.StoreFault.{StoreFault}
use Rattle.dcc_store.specs.declared.fault.StoreFault.TheVariants.{Memory, Device, Stopped}
use Rattle.dcc_shard.specs.Shards.{held_in, held_then, are_apart}
use Rattle.dcc_shard.specs.Stored.{IsKept, IsLeft, LeavesHeld, LeavesBatch, held_then_all}
use Rattle.dcc_shard.specs.inner.Books.{BooksView, IsStepOfBooks}
use Rattle.dcc_shard.specs.inner.Pending.{step_of, IsPending}
use Rattle.dcc_shard.specs.declared.pending.Pending.{Pending}
use Rattle.dcc_shard.proofs.Subs.{same_sub-same, same_sub-other, one_or_other}
use Rattle.dcc_shard.proofs.Batching.{one_more_of_each}

-- the act of a pending step that is new may come next
pub next_of : NewIsNext → (books : BooksView) (sub : Sub) (pending : Pending) → acts books.terms (held_in books.rows sub) ≡ held_in books.rows sub
    → IsPending books sub (step_of pending).act pending → (step_of pending).is_new ≡ true
    → IsNext books.terms (held_in books.rows sub) (step_of pending).act (step_of pending).entries
next_of law books sub pending own is made =
    law books.terms (held_in books.rows sub) (step_of pending).act (step_of pending).entries own (sym is.new_is ∙ made) is.entries_are

-- what may come next in the books may come next in whatever a stop leaves
pub next_in_found : NextIsFound → (terms : TermsView) (held : Held) (sub : Sub) (act : Act) (more : List Entry) (leaves : Content → Type 0) → LeavesOnly terms held leaves
    → IsNext terms (held sub) act more → (found : Content) → leaves found → IsNext terms (found sub).acts act more
next_in_found law terms held sub act more leaves only next found left = law terms sub act more held found (only found left) next

pub alike_only : AlikeBooksHaveOneContent → (terms : TermsView) (one other : Held) (leaves : Content → Type 0) → ((sub : Sub) → one sub ≡ other sub) → LeavesOnly terms one leaves
    → LeavesOnly terms other leaves
alike_only law terms one other leaves same only found left = law terms one other found same (only found left)

-- what is held after a step of an act that is new, and of one that isn't
pub held_with : SameAreEqual → OneMoreAct → OwnGrows → OthersStay → (old new : BooksView) (sub : Sub) (act : Act) → acts old.terms (held_in old.rows sub) ≡ held_in old.rows sub
    → is_new old.terms (held_in old.rows sub) act ≡ true → IsStepOfBooks old new sub act → (other : Sub) → with_act sub act (held_in old.rows) other ≡ held_in new.rows other
held_with same more grows stays old new sub act own made step other =
    elim (one_or_other same other sub) [
      | inl e ↦
          let at_sub : with_act sub act (held_in old.rows) sub ≡ held_in new.rows sub =
          grows sub act (held_in old.rows) ∙ ap (λ (xs : List Act). xs ++ act ∷ []) (sym own)
          ∙ sym (more old.terms (held_in old.rows sub) act ∙ rw made refl) ∙ sym step.own in
          let P : Sub → Type 0 = λ s. with_act sub act (held_in old.rows) s ≡ held_in new.rows s in
          subst P (sym e) at_sub
      | inr apart ↦ stays sub other act (held_in old.rows) apart ∙ sym (step.others other apart)
    ]

pub held_same : SameAreEqual → OneMoreAct → (old new : BooksView) (sub : Sub) (act : Act) → acts old.terms (held_in old.rows sub) ≡ held_in old.rows sub
    → is_new old.terms (held_in old.rows sub) act ≡ false → IsStepOfBooks old new sub act → (other : Sub) → held_in old.rows other ≡ held_in new.rows other
held_same same more old new sub act own made step other =
    elim (one_or_other same other sub) [
      | inl e ↦
          let at_sub : held_in old.rows sub ≡ held_in new.rows sub =
          sym own ∙ sym (more old.terms (held_in old.rows sub) act ∙ rw made refl) ∙ sym step.own in
          let P : Sub → Type 0 = λ s. held_in old.rows s ≡ held_in new.rows s in
          subst P (sym e) at_sub
      | inr apart ↦ sym (step.others other apart)
    ]

-- an act that is new is made, so what is held with it is what is held then
pub with_then : SameAreEqual → OneMoreAct → OwnGrows → OthersStay → (terms : TermsView) (held : Held) (sub : Sub) (act : Act) → acts terms (held sub) ≡ held sub → is_new terms (held sub) act ≡ true
    → (other : Sub) → with_act sub act held other ≡ held_then terms sub act held other
with_then same more grows stays terms held sub act own made other =
    elim (one_or_other same other sub) [
      | inl e ↦
          let then_sub : held_then terms sub act held sub ≡ acts terms (held sub ++ act ∷ []) = rw (same_sub-same same sub) refl in
          let at_sub : with_act sub act held sub ≡ held_then terms sub act held sub =
          grows sub act held ∙ ap (λ (xs : List Act). xs ++ act ∷ []) (sym own) ∙ sym (more terms (held sub) act ∙ rw made refl) ∙ sym then_sub in
          let P : Sub → Type 0 = λ s. with_act sub act held s ≡ held_then terms sub act held s in
          subst P (sym e) at_sub
      | inr apart ↦
          let then_other : held_then terms sub act held other ≡ held other = rw (same_sub-other same sub other (λ e. apart (sym e))) refl in
          stays sub other act held apart ∙ sym then_other
    ]

-- what an append says of itself
pub record Appended {X : Type 0} (terms : TermsView) (held : Held) (sub : Sub) (act : Act) (result : Result X StoreFault) (before after : Content → Type 0) (was is : Bool) (faults_before faults_after : ℕ)
    : Type 0 where
  pub crash : LeavesOnly terms held before → LeavesEither terms held (with_act sub act held) after
  pub device : result ≡ Err Device → (was ≡ false) × (is ≡ true) × (faults_after ≡ faults_before + 1)
  pub going : result ≢ Err Device → (is ≡ was) × (faults_after ≡ faults_before)
  pub frozen : was ≡ true → (result ≡ Err Stopped) × ((found : Content) → after found → before found)

-- by the clauses of an append, under terms and with an act that are these
pub appended_of : {X : Type 0} (terms given_terms : TermsView) (held : Held) (sub : Sub) (act given : Act) (result : Result X StoreFault) (before after : Content → Type 0) (was is : Bool)
    (faults_before faults_after : ℕ) → given_terms ≡ terms → given ≡ act
    → ((all : Held) → LeavesOnly given_terms all before → LeavesEither given_terms all (with_act sub given all) after)
    → (result ≡ Err Device → (was ≡ false) × (is ≡ true) × (faults_after ≡ faults_before + 1))
    → (result ≢ Err Device → (is ≡ was) × (faults_after ≡ faults_before))
    → (was ≡ true → (result ≡ Err Stopped) × ((found : Content) → after found → before found))
    → Appended terms held sub act result before after was is faults_before faults_after
appended_of terms given_terms held sub act given result before after was is fb fa same_terms same_act crash device going frozen = record {
  crash = λ only.
      let P : TermsView → Type 0 = λ t. LeavesOnly t held before → LeavesEither t held (with_act sub given held) after in
      let Q : Act → Type 0 = λ a. LeavesEither terms held (with_act sub a held) after in
      subst Q same_act (subst P same_terms (crash held) only);
  device = device;
  going = going;
  frozen = frozen;
}

-- once the act is stored, a stop leaves what is then held
pub stored_only : AlikeBooksHaveOneContent → (terms given_terms : TermsView) (held new : Held) (sub : Sub) (act given : Act) (before after : Content → Type 0) → given_terms ≡ terms → given ≡ act
    → ((all : Held) → LeavesOnly given_terms all before → LeavesOnly given_terms (with_act sub given all) after) → ((other : Sub) → with_act sub act held other ≡ new other)
    → LeavesOnly terms held before → LeavesOnly terms new after
stored_only law terms given_terms held new sub act given before after same_terms same_act stored alike only =
    let P : TermsView → Type 0 = λ t. LeavesOnly t held before → LeavesOnly t (with_act sub given held) after in
    let Q : Act → Type 0 = λ a. LeavesOnly terms (with_act sub a held) after in
    alike_only law terms (with_act sub act held) new after alike (subst Q same_act (subst P same_terms (stored held) only))

device_or_not : {X : Type 0} (result : Result X StoreFault) → (result ≡ Err Device) ⊎ (result ≢ Err Device)
device_or_not (Ok x) = inr (λ is. absurd cc)
device_or_not (Err Memory) = inr (λ is. absurd cc)
device_or_not (Err Device) = inl refl
device_or_not (Err Stopped) = inr (λ is. absurd cc)

not_device : {X : Type 0} (result : Result X StoreFault) → result ≡ Err Stopped → result ≢ Err Device
not_device result is device = absurd cc

pub kept_by_append : {X : Type 0} (terms : TermsView) (held : Held) (sub : Sub) (act : Act) (result : Result X StoreFault) (before after : Content → Type 0) (was is : Bool) (faults_before faults_after : ℕ)
    → Appended terms held sub act result before after was is faults_before faults_after → (was ≡ false → LeavesOnly terms held before)
    → AlikeBooksHaveOneContent → ((other : Sub) → with_act sub act held other ≡ held_then terms sub act held other)
    → IsKept terms held sub act before after was is faults_before faults_after
kept_by_append terms held sub act result before after was is fb fa appended kept law alike = record {
  crash = λ going found left. elim (appended.crash (kept going) found left) [
    | inl as_before ↦ inl as_before
    | inr with_it ↦ inr (law terms (with_act sub act held) (held_then terms sub act held) found alike with_it)
  ];
  frozen = λ stopped.
      let was_frozen = appended.frozen stopped in
      ((appended.going (not_device result was_frozen.0)).0 ∙ stopped, was_frozen.1);
  faults = λ same. elim (device_or_not result) [
    | inl d ↦ absurd (let more = (appended.device d).2 in omega (arith, same, more))
    | inr n ↦ (appended.going n).0
  ];
}

-- nothing was appended
pub kept_without : (terms : TermsView) (held : Held) (sub : Sub) (act : Act) (leaves : Content → Type 0) (stopped : Bool) (faults : ℕ) → (stopped ≡ false → LeavesOnly terms held leaves)
    → IsKept terms held sub act leaves leaves stopped stopped faults faults
kept_without terms held sub act leaves stopped faults kept = record {
  crash = λ going found left. inl (kept going found left);
  frozen = λ is. (is, λ found left. left);
  faults = λ same. refl;
}

-- what is held, or this with the acts of the append that failed; and so where it is what is held alone
pub batch_left : (terms : TermsView) (held : Held) (batch : List (Sub × Act)) (leaves : Content → Type 0) → are_apart (map (λ (one : Sub × Act). one.0) batch) ≡ true
    → LeavesEither terms held (held_then_all terms batch held) leaves → LeavesBatch terms held leaves
batch_left terms held batch leaves apart either = ∣ (batch, apart, either) ∣₁

pub one_more_left : (terms : TermsView) (held : Held) (sub : Sub) (act : Act) (leaves : Content → Type 0) → LeavesEither terms held (held_then terms sub act held) leaves
    → LeavesBatch terms held leaves
one_more_left terms held sub act leaves either = batch_left terms held ((sub, act) ∷ []) leaves refl either

pub only_in_batch : (terms : TermsView) (held : Held) (leaves : Content → Type 0) → LeavesOnly terms held leaves → LeavesBatch terms held leaves
only_in_batch terms held leaves only = batch_left terms held [] leaves refl (λ found left. inl (only found left))

all_there : (xs ys : List Act) → ys ≡ xs → (take (length xs) ys ≡ xs) × (length ys ≤ length xs + 1)
all_there xs ys same = rw same (take_all (length xs) xs (omega (arith)), omega (arith))

one_beyond : (xs ys : List Act) (act : Act) → ys ≡ xs ++ act ∷ [] → (take (length xs) ys ≡ xs) × (length ys ≤ length xs + 1)
one_beyond xs ys act same =
    let longer : length (xs ++ act ∷ []) ≡ length xs + 1 = length-append xs (act ∷ []) in
    rw same (take_at xs (act ∷ []) (length xs) refl, omega (arith, longer))

-- whatever a stop leaves begins with what is held
pub held_left : SameAreEqual → OneMoreAct → (terms : TermsView) (held : Held) (stopped : Bool) (leaves : Content → Type 0) → ((sub : Sub) → acts terms (held sub) ≡ held sub)
    → (stopped ≡ false → LeavesOnly terms held leaves) → (stopped ≡ true → LeavesBatch terms held leaves) → LeavesHeld held leaves
held_left same more terms held stopped leaves own going beyond found sub left = elim (cases_Bool stopped) [
  | inr goes ↦ all_there (held sub) (found sub).acts (ap (λ (k : Kept). k.acts) (going goes found left sub))
  | inl stops ↦ ∥∥₁_elim (beyond stops) (hlevel props) (λ batch. elim (batch.2 found left) [
    | inl as_before ↦ all_there (held sub) (found sub).acts (ap (λ (k : Kept). k.acts) (as_before sub))
    | inr with_it ↦
        let acts_are : (found sub).acts ≡ held_then_all terms batch.0 held sub = ap (λ (k : Kept). k.acts) (with_it sub) in
        elim (one_more_of_each same more terms batch.0 held sub batch.1 (own sub)) [
          | inl grown ↦ one_beyond (held sub) (found sub).acts grown.0 (acts_are ∙ grown.1)
          | inr stays ↦ all_there (held sub) (found sub).acts (acts_are ∙ stays)
        ]
  ])
]

-- a content of a book that is alike is left too
pub alike_left : AlikeBooksHaveOneContent → (given terms : TermsView) (one other : Held) (leaves : Content → Type 0) → given ≡ terms → ((sub : Sub) → one sub ≡ other sub) → IsLeft given one leaves
    → IsLeft terms other leaves
alike_left law given terms one other leaves same_terms same left =
    ∥∥₁_map left (λ found.
    let P : TermsView → Type 0 = λ t. IsContentOf t one found.0 in
    let r : (content : Content) × IsContentOf terms other content × leaves content = (found.0, law terms one other found.0 same (subst P same_terms found.1), found.2) in
    r)

-- where no content but that of no acts is left, nothing is held
pub empty_left : ContentHasOneBook → (terms : TermsView) (held : Held) (content : Content) (leaves : Content → Type 0) → IsContentOf terms no_acts content
    → ((found : Content) → leaves found → (sub : Sub) → found sub ≡ content sub) → IsLeft terms held leaves → (sub : Sub) → held sub ≡ []
empty_left law terms held content leaves empty same left sub =
    ∥∥₁_elim left (hlevel props) (λ found. law terms held no_acts found.0 found.1 (λ s. same found.0 found.2 s ∙ empty s) sub)

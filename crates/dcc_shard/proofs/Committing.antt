-- The append of the new acts of planned steps, and what a stop then leaves.
use Rattle.std.proofs.Common.{◌≡◌, ℕ, true, false, List, [], ◌∷◌, ◌++◌, length, refl, sym, ap, subst, ◌∙◌, arith, inl, inr}
use Rattle.std.specs.Prelude.{if◌then◌else◌}
use Rattle.std.specs.List.{AllByRecursion}
use Rattle.std.proofs.lemmas.Bool.{cases_Bool}
use Rattle.dcc_tariff.specs.Terms.{TermsView}
use Rattle.dcc_act.specs.declared.act.Act.{Act}
use Rattle.dcc_act.specs.declared.sub.Sub.{Sub}
use Rattle.dcc_act.specs.Subs.{same_sub, SameAreEqual}
use Rattle.dcc_model.specs.Outcomes.{acts, is_new}
use Rattle.dcc_model.specs.Laws.{OneMoreAct}
use Rattle.dcc_openers.specs.Openers.{OpenersView}
use Rattle.dcc_store.specs.Batches as batches
use Rattle.dcc_store.specs.Batches.{AdditionView, subs_of, with_all, is_none_of, AreNext}
use Rattle.dcc_store.specs.Books.{Held}
use Rattle.dcc_store.specs.Contents.{Content}
use Rattle.dcc_store.specs.Stops.{LeavesOnly, LeavesEither}
use Rattle.dcc_store.specs.Laws.{AlikeBooksHaveOneContent, NewIsNext, BatchesAreTheirActs, BatchesLeaveOthers}
use Rattle.dcc_shard.specs.Shards.{held_in, is_among, are_apart}
use Rattle.dcc_shard.specs.Stored.{held_then_all}
use Rattle.dcc_shard.specs.inner.Books.{BooksView}
use Rattle.dcc_shard.specs.inner.Pending.{step_of}
use Rattle.dcc_shard.specs.inner.Plans.{IsStanding, steps_in, subs_in, additions_in}
use Rattle.dcc_shard.specs.declared.plan.Plan.{Plan}
use Rattle.dcc_shard.specs.declared.plan.Plan.TheVariants as plans
use Rattle.dcc_shard.proofs.Batching.{neither, first_apart, turned, then_first}
use Rattle.dcc_shard.proofs.Storing.{next_of}

-- the subscribers of the new acts are among those of the steps, and are different if those are
none_of_news : SameAreEqual → (all : List Plan) (sub : Sub) → is_among sub (subs_in all) ≡ false → is_none_of sub (subs_of (additions_in all)) ≡ true
none_of_news same [] sub apart = refl
none_of_news same (plans.Refused reply ∷ all) sub apart = none_of_news same all sub apart
none_of_news same (plans.Step one ready way reply ∷ all) sub apart =
    let both = neither (same_sub one sub) (is_among sub (subs_in all)) apart in
    let beside : same_sub sub one ≡ false = turned same one sub both.0 in
    let rest = none_of_news same all sub both.1 in
    elim (cases_Bool (step_of ready.pending).is_new) [
      | inl t ↦ rw t (rw beside rest)
      | inr f ↦ rw f rest
    ]

pub apart_news : SameAreEqual → (all : List Plan) → are_apart (subs_in all) ≡ true → batches.are_apart (subs_of (additions_in all)) ≡ true
apart_news same [] apart = refl
apart_news same (plans.Refused reply ∷ all) apart = apart_news same all apart
apart_news same (plans.Step one ready way reply ∷ all) apart =
    let both = first_apart (is_among one (subs_in all)) (are_apart (subs_in all)) apart in
    let none : is_none_of one (subs_of (additions_in all)) ≡ true = none_of_news same all one both.0 in
    let rest = apart_news same all both.1 in
    elim (cases_Bool (step_of ready.pending).is_new) [
      | inl t ↦ rw t (rw none rest)
      | inr f ↦ rw f rest
    ]

-- the new acts may come next
pub news_are_next : NewIsNext → (books : BooksView) (openers : OpenersView) (number : ℕ) → ((sub : Sub) → acts books.terms (held_in books.rows sub) ≡ held_in books.rows sub)
    → (all : List Plan) → AllByRecursion (IsStanding books openers number) all → AreNext books.terms (additions_in all) (held_in books.rows)
news_are_next law books openers number own [] standing = tt
news_are_next law books openers number own (plans.Refused reply ∷ all) standing = news_are_next law books openers number own all standing.1
news_are_next law books openers number own (plans.Step sub ready way reply ∷ all) standing =
    let rest = news_are_next law books openers number own all standing.1 in
    elim (cases_Bool (step_of ready.pending).is_new) [
      | inl t ↦ rw t (next_of law books sub ready.pending (own sub) standing.0.0 t, rest)
      | inr f ↦ rw f rest
    ]

-- the acts of a subscriber with one more, which is new or isn't
grown : OneMoreAct → (terms : TermsView) (held : Held) (sub : Sub) (act : Act) → acts terms (held sub) ≡ held sub → is_new terms (held sub) act ≡ true
    → held sub ++ act ∷ [] ≡ acts terms (held sub ++ act ∷ [])
grown more terms held sub act own made = ap (λ (xs : List Act). xs ++ act ∷ []) (sym own) ∙ sym (more terms (held sub) act ∙ rw made refl)

pub idle : OneMoreAct → (terms : TermsView) (held : Held) (sub : Sub) (act : Act) → acts terms (held sub) ≡ held sub → is_new terms (held sub) act ≡ false
    → held sub ≡ acts terms (held sub ++ act ∷ [])
idle more terms held sub act own made = sym own ∙ sym (more terms (held sub) act ∙ rw made refl)

-- what is held with the new acts is what is held after all the steps
pub news_then : SameAreEqual → OneMoreAct → BatchesAreTheirActs → BatchesLeaveOthers → (books : BooksView) (openers : OpenersView) (number : ℕ)
    → ((sub : Sub) → acts books.terms (held_in books.rows sub) ≡ held_in books.rows sub) → (all : List Plan) → AllByRecursion (IsStanding books openers number) all → are_apart (subs_in all) ≡ true
    → (other : Sub) → with_all (additions_in all) (held_in books.rows) other ≡ held_then_all books.terms (steps_in all) (held_in books.rows) other
news_then same more first others books openers number own [] standing apart other = refl
news_then same more first others books openers number own (plans.Refused reply ∷ all) standing apart other =
    news_then same more first others books openers number own all standing.1 apart other
news_then same more first others books openers number own (plans.Step sub ready way reply ∷ all) standing apart other =
    let step = step_of ready.pending in
    let act = step.act in
    let held = held_in books.rows in
    let both = first_apart (is_among sub (subs_in all)) (are_apart (subs_in all)) apart in
    let rest : with_all (additions_in all) held other ≡ held_then_all books.terms (steps_in all) held other = news_then same more first others books openers number own all standing.1 both.1 other in
    let after_all : held_then_all books.terms ((sub, act) ∷ steps_in all) held other ≡ (if same_sub sub other then acts books.terms (held other ++ act ∷ []) else held_then_all books.terms (steps_in all) held other) =
    then_first same books.terms (sub, act) (steps_in all) held other apart in
    let none : is_none_of sub (subs_of (additions_in all)) ≡ true = none_of_news same all sub both.0 in
    let alone = apart_news same all both.1 in
    elim (cases_Bool step.is_new) [
      | inl t ↦
          let one : AdditionView = record { sub = sub; act = act; entries = step.entries } in
          let both_apart : batches.are_apart (subs_of (one ∷ additions_in all)) ≡ true = rw none alone in
          let news : with_all (one ∷ additions_in all) held other ≡ (if same_sub sub other then held other ++ act ∷ [] else with_all (additions_in all) held other) =
          first one (additions_in all) held other both_apart in
          let made : is_new books.terms (held sub) act ≡ true = sym standing.0.0.new_is ∙ t in
          let whole : with_all (one ∷ additions_in all) held other ≡ held_then_all books.terms ((sub, act) ∷ steps_in all) held other =
          elim (cases_Bool (same_sub sub other)) [
            | inl s ↦
                let e : sub ≡ other = (same sub other).0 s in
                let P : Sub → Type 0 = λ o. held o ++ act ∷ [] ≡ acts books.terms (held o ++ act ∷ []) in
                let own_grown : held other ++ act ∷ [] ≡ acts books.terms (held other ++ act ∷ []) = subst P e (grown more books.terms held sub act (own sub) made) in
                let left : with_all (one ∷ additions_in all) held other ≡ held other ++ act ∷ [] = news ∙ rw s refl in
                let right : held_then_all books.terms ((sub, act) ∷ steps_in all) held other ≡ acts books.terms (held other ++ act ∷ []) = after_all ∙ rw s refl in
                left ∙ own_grown ∙ sym right
            | inr f ↦
                let left : with_all (one ∷ additions_in all) held other ≡ with_all (additions_in all) held other = news ∙ rw f refl in
                let right : held_then_all books.terms ((sub, act) ∷ steps_in all) held other ≡ held_then_all books.terms (steps_in all) held other = after_all ∙ rw f refl in
                left ∙ rest ∙ sym right
          ] in
          rw t whole
      | inr old ↦
          let made : is_new books.terms (held sub) act ≡ false = sym standing.0.0.new_is ∙ old in
          let whole : with_all (additions_in all) held other ≡ held_then_all books.terms ((sub, act) ∷ steps_in all) held other =
          elim (cases_Bool (same_sub sub other)) [
            | inl s ↦
                let e : sub ≡ other = (same sub other).0 s in
                let P : Sub → Type 0 = λ o. held o ≡ acts books.terms (held o ++ act ∷ []) in
                let own_idle : held other ≡ acts books.terms (held other ++ act ∷ []) = subst P e (idle more books.terms held sub act (own sub) made) in
                let Q : Sub → Type 0 = λ o. is_none_of o (subs_of (additions_in all)) ≡ true in
                let left : with_all (additions_in all) held other ≡ held other = others (additions_in all) held other (subst Q e none) in
                let right : held_then_all books.terms ((sub, act) ∷ steps_in all) held other ≡ acts books.terms (held other ++ act ∷ []) = after_all ∙ rw s refl in
                left ∙ own_idle ∙ sym right
            | inr f ↦
                let right : held_then_all books.terms ((sub, act) ∷ steps_in all) held other ≡ held_then_all books.terms (steps_in all) held other = after_all ∙ rw f refl in
                rest ∙ sym right
          ] in
          rw old whole
    ]

-- a list without elements
pub no_more : {A : Type 0} (xs : List A) → length xs ≡ 0 → xs ≡ []
no_more [] none = refl
no_more (x ∷ xs) none = absurd (omega (arith, none))

-- what a stop leaves of the append: what was held, or what is held after all the steps
pub either_then : AlikeBooksHaveOneContent → (terms given : TermsView) (held : Held) (all given_all : List Plan) (leaves : Content → Type 0) → given ≡ terms → given_all ≡ all
    → ((other : Sub) → with_all (additions_in all) held other ≡ held_then_all terms (steps_in all) held other) → LeavesEither given held (with_all (additions_in given_all) held) leaves
    → LeavesEither terms held (held_then_all terms (steps_in all) held) leaves
either_then law terms given held all given_all leaves same_terms same_plans alike either =
    let P : TermsView → Type 0 = λ t. LeavesEither t held (with_all (additions_in given_all) held) leaves in
    let Q : List Plan → Type 0 = λ ps. LeavesEither terms held (with_all (additions_in ps) held) leaves in
    let here : LeavesEither terms held (with_all (additions_in all) held) leaves = subst Q same_plans (subst P same_terms either) in
    λ found left. elim (here found left) [
      | inl as_before ↦ inl as_before
      | inr with_it ↦ inr (law terms (with_all (additions_in all) held) (held_then_all terms (steps_in all) held) found alike with_it)
    ]

-- once the new acts are stored, a stop leaves what is then held
pub stored_then : AlikeBooksHaveOneContent → (terms given : TermsView) (held new : Held) (all given_all : List Plan) (leaves : Content → Type 0) → given ≡ terms → given_all ≡ all
    → ((other : Sub) → with_all (additions_in all) held other ≡ new other) → LeavesOnly given (with_all (additions_in given_all) held) leaves → LeavesOnly terms new leaves
stored_then law terms given held new all given_all leaves same_terms same_plans alike only =
    let P : TermsView → Type 0 = λ t. LeavesOnly t (with_all (additions_in given_all) held) leaves in
    let Q : List Plan → Type 0 = λ ps. LeavesOnly terms (with_all (additions_in ps) held) leaves in
    let here : LeavesOnly terms (with_all (additions_in all) held) leaves = subst Q same_plans (subst P same_terms only) in
    λ found left. law terms (with_all (additions_in all) held) new found alike (here found left)

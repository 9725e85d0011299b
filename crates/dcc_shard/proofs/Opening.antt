-- Who opened which session from which host, after one more act.
use Rattle.std.proofs.Common.{◌≡◌, ◌≢◌, ℕ, Bool, true, false, ◌&&◌, ◌||◌, List, [], ◌∷◌, ◌++◌, Some, None, refl, sym, ap, subst, ◌∙◌, inl, inr, bytes_eq}
use Rattle.std.specs.Option.{option_map_or}
use Rattle.std.proofs.lemmas.Bool.{cases_Bool}
use Rattle.dcc_tariff.specs.Terms.{TermsView}
use Rattle.dcc_act.specs.declared.act.Act.{Act}
use Rattle.dcc_act.specs.declared.act.Kind.{Kind}
use Rattle.dcc_act.specs.declared.act.Kind.TheVariants.{TopUp, Initial, Update, Termination, Event, Expiry}
use Rattle.dcc_act.specs.declared.outcome.Outcome.{Outcome}
use Rattle.dcc_act.specs.declared.sub.Sub.{Sub}
use Rattle.dcc_act.specs.Subs.{same_sub, SameAreEqual}
use Rattle.dcc_account.specs.Prepared.{StepView}
use Rattle.dcc_model.specs.Outcomes.{after, is_new, was_opened_from}
use Rattle.dcc_model.specs.Laws.{OpenersStay, OneMoreOpens}
use Rattle.dcc_model.specs.Results.{succeeded}
use Rattle.dcc_model.specs.Sessions.{opens_from}
use Rattle.dcc_openers.specs.Found.{noted}
use Rattle.dcc_openers.specs.Openers.{OpenersView, found_at}
use Rattle.dcc_openers.specs.declared.found.Found.{Found}
use Rattle.dcc_openers.specs.declared.found.Found.TheVariants as found
use Rattle.dcc_shard.specs.Openers.{IsFound}
use Rattle.dcc_shard.specs.Shards.{held_in}
use Rattle.dcc_shard.specs.inner.Books.{BooksView, IsStepOfBooks}
use Rattle.dcc_shard.specs.inner.Indexed.{AreOpeners, opening_by, opening, is_opening, noted_at}
use Rattle.dcc_shard.proofs.Subs.{same_sub-same, same_sub-other, one_or_other}
use Rattle.dcc_shard.proofs.BookRows.{Rows}

pub and_false : (b : Bool) → (b && false) ≡ false
and_false true = refl
and_false false = refl

pub and_true : (b : Bool) → (b && true) ≡ b
and_true true = refl
and_true false = refl

and_swap : (a b : Bool) → (a && b) ≡ (b && a)
and_swap true b = sym (and_true b)
and_swap false b = sym (and_false b)

pub or_true : (b : Bool) → (b || true) ≡ true
or_true true = refl
or_true false = refl

-- an act opens a session from a host just where that is what it opens
opening_is : (new : Bool) (outcome : Outcome) (moment : ℕ) (kind : Kind) (h s : List ℕ)
    → (new && opens_from (record { act = record { moment = moment; kind = kind }; outcome = outcome }) h s) ≡ option_map_or (is_opening h s) (opening_by new outcome kind) false
opening_is new outcome moment (TopUp top_up) h s = and_false new
opening_is new outcome moment (Update request) h s = and_false new
opening_is new outcome moment (Termination request) h s = and_false new
opening_is new outcome moment (Event event) h s = and_false new
opening_is new outcome moment Expiry h s = and_false new
opening_is false outcome moment (Initial request limit host) h s = refl
opening_is true outcome moment (Initial request limit None) h s =
    elim (cases_Bool (succeeded outcome)) [
      | inl t ↦ rw t (and_false (bytes_eq request.key.sid s))
      | inr f ↦ rw f refl
    ]
opening_is true outcome moment (Initial request limit (Some host)) h s =
    elim (cases_Bool (succeeded outcome)) [
      | inl t ↦ rw t (and_swap (bytes_eq request.key.sid s) (bytes_eq host h))
      | inr f ↦ rw f refl
    ]

-- what a step opens is what its act opens after those that are held
opens_as : (terms : TermsView) (held : List Act) (step : StepView) → step.outcome ≡ after terms held step.act → step.is_new ≡ is_new terms held step.act → (h s : List ℕ)
    → (is_new terms held step.act && opens_from (record { act = step.act; outcome = after terms held step.act }) h s) ≡ option_map_or (is_opening h s) (opening step) false
opens_as terms held step outcome_is new_is h s =
    ap (λ (new : Bool). new && opens_from (record { act = step.act; outcome = after terms held step.act }) h s) (sym new_is)
    ∙ ap (λ (outcome : Outcome). step.is_new && opens_from (record { act = step.act; outcome = outcome }) h s) (sym outcome_is)
    ∙ opening_is step.is_new step.outcome step.act.moment step.act.kind h s

-- so after a step its subscriber opened that too, and the others what they had opened
passes_after : SameAreEqual → OpenersStay → OneMoreOpens → (old new : BooksView) (sub : Sub) (step : StepView) → IsStepOfBooks old new sub step.act
    → step.outcome ≡ after old.terms (held_in old.rows sub) step.act → step.is_new ≡ is_new old.terms (held_in old.rows sub) step.act → (h s : List ℕ) (other : Sub)
    → was_opened_from new.terms (held_in new.rows other) h s ≡ ((same_sub sub other && option_map_or (is_opening h s) (opening step) false) || was_opened_from old.terms (held_in old.rows other) h s)
passes_after same stay more old new sub step done outcome_is new_is h s other =
    let opens = option_map_or (is_opening h s) (opening step) false in
    let terms_are : was_opened_from new.terms (held_in new.rows other) h s ≡ was_opened_from old.terms (held_in new.rows other) h s =
    ap (λ (terms : TermsView). was_opened_from terms (held_in new.rows other) h s) done.terms in
    elim (one_or_other same other sub) [
      | inl e ↦
          let own : was_opened_from old.terms (held_in new.rows sub) h s ≡ (opens || was_opened_from old.terms (held_in old.rows sub) h s) =
          ap (λ (xs : List Act). was_opened_from old.terms xs h s) done.own ∙ stay old.terms (held_in old.rows sub ++ step.act ∷ []) h s ∙ more old.terms (held_in old.rows sub) step.act h s
          ∙ ap (λ (b : Bool). b || was_opened_from old.terms (held_in old.rows sub) h s) (opens_as old.terms (held_in old.rows sub) step outcome_is new_is h s) in
          terms_are ∙ rw (e, same_sub-same same sub) own
      | inr apart ↦
          terms_are ∙ ap (λ (xs : List Act). was_opened_from old.terms xs h s) (done.others other apart)
          ∙ rw (same_sub-other same sub other (λ e. apart (sym e))) refl
    ]

-- who is found of those who pass is who is found of those who pass the same
pub found_same : (p q : Sub → Bool) (who : Found) → IsFound p who → ((other : Sub) → q other ≡ p other) → IsFound q who
found_same p q found.None none like = λ other. like other ∙ none other
found_same p q (found.One first) one like = (like first ∙ one.0, λ other h. one.1 other (sym (like other) ∙ h))
found_same p q found.Several two like = (two.0, two.1, two.2, like two.0 ∙ two.3, like two.1 ∙ two.4)

-- and with one subscriber more, who is noted
found_more : SameAreEqual → (p q : Sub → Bool) (sub : Sub) (who : Found) → IsFound p who → ((other : Sub) → q other ≡ (same_sub sub other || p other)) → IsFound q (noted who sub)
found_more same p q sub found.None none more = (
  more sub ∙ rw (same_sub-same same sub) refl,
  λ other h. elim (cases_Bool (same_sub sub other)) [
    | inl t ↦ sym ((same sub other).0 t)
    | inr f ↦ (let no : false ≡ true = sym (more other ∙ rw f (none other)) ∙ h in absurd cc)
  ],
)
found_more same p q sub (found.One first) one more =
    let own : q sub ≡ true = more sub ∙ rw (same_sub-same same sub) refl in
    elim (cases_Bool (same_sub first sub)) [
      | inl t ↦
          rw t (
            own,
            λ other h. elim (cases_Bool (same_sub sub other)) [
              | inl u ↦ sym ((same sub other).0 u)
              | inr f ↦ (let still : p other ≡ true = sym (more other ∙ rw f refl) ∙ h in one.1 other still ∙ (same first sub).0 t)
            ],
          )
      | inr f ↦
          let apart : first ≢ sub = λ e. (let no : same_sub first sub ≡ true = (same first sub).1 e in absurd cc) in
          let before : q first ≡ true = more first ∙ ap (λ (b : Bool). same_sub sub first || b) one.0 ∙ or_true (same_sub sub first) in
          rw f (first, sub, apart, before, own)
    ]
found_more same p q sub found.Several two more =
    let still : (other : Sub) → p other ≡ true → q other ≡ true = λ other h. more other ∙ ap (λ (b : Bool). same_sub sub other || b) h ∙ or_true (same_sub sub other) in
    (two.0, two.1, two.2, still two.0 two.3, still two.1 two.4)

-- the index is that of the books after a step whose session was noted
pub openers_after : SameAreEqual → OpenersStay → OneMoreOpens → (old new : BooksView) (sub : Sub) (step : StepView) (before now : OpenersView) → AreOpeners old.terms old.rows before
    → IsStepOfBooks old new sub step.act → step.outcome ≡ after old.terms (held_in old.rows sub) step.act → step.is_new ≡ is_new old.terms (held_in old.rows sub) step.act
    → ((h s : List ℕ) → found_at now h s ≡ noted_at (opening step) sub before h s) → AreOpeners new.terms new.rows now
openers_after same stay more old new sub step before now are done outcome_is new_is noted_is h s =
    let p : Sub → Bool = λ other. was_opened_from old.terms (held_in old.rows other) h s in
    let q : Sub → Bool = λ other. was_opened_from new.terms (held_in new.rows other) h s in
    let opens = option_map_or (is_opening h s) (opening step) false in
    let passes = passes_after same stay more old new sub step done outcome_is new_is h s in
    let there = noted_is h s in
    elim (cases_Bool opens) [
      | inl t ↦
          let is : found_at now h s ≡ noted (found_at before h s) sub = there ∙ rw t refl in
          subst (IsFound q) (sym is) (found_more same p q sub (found_at before h s) (are h s)
          (λ other. passes other ∙ ap (λ (b : Bool). (same_sub sub other && b) || p other) t ∙ ap (λ (b : Bool). b || p other) (and_true (same_sub sub other))))
      | inr f ↦
          let is : found_at now h s ≡ found_at before h s = there ∙ rw f refl in
          subst (IsFound q) (sym is) (found_same p q (found_at before h s) (are h s)
          (λ other. passes other ∙ ap (λ (b : Bool). (same_sub sub other && b) || p other) f ∙ ap (λ (b : Bool). b || p other) (and_false (same_sub sub other))))
    ]

-- without acts nothing was opened
pub nothing_opened : (terms : TermsView) (h s : List ℕ) → was_opened_from terms [] h s ≡ false
unfolding was_opened_from
nothing_opened terms h s = refl

pub no_openers : (books : BooksView) (openers : OpenersView) → books.rows ≡ [] → ((h s : List ℕ) → found_at openers h s ≡ found.None) → AreOpeners books.terms books.rows openers
no_openers books openers empty none h s =
    let q : Sub → Bool = λ sub. was_opened_from books.terms (held_in books.rows sub) h s in
    subst (IsFound q) (sym (none h s)) (λ sub. ap (λ (rows : Rows). was_opened_from books.terms (held_in rows sub) h s) empty ∙ nothing_opened books.terms h s)

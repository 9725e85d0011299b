-- Planned steps can be installed as long as the accounts of their subscribers stay and there is room.
use Rattle.std.proofs.Common.{◌≡◌, ◌≢◌, ℕ, ◌+◌, ◌<◌, ◌≤◌, true, false, List, [], ◌∷◌, ◌++◌, length, Option, Some, None, refl, sym, ap, ap₂, subst, ◌∙◌, arith, inl, inr}
use Rattle.std.specs.List.{AllByRecursion}
use Rattle.dcc_tariff.specs.Terms.{TermsView}
use Rattle.dcc_message.specs.declared.identity.Identity.{Identity}
use Rattle.dcc_act.specs.declared.act.Act.{Act}
use Rattle.dcc_act.specs.declared.sub.Sub.{Sub}
use Rattle.dcc_act.specs.Subs.{same_sub, SameAreEqual}
use Rattle.dcc_account.specs.declared.account.Account.{Account}
use Rattle.dcc_model.specs.Outcomes.{acts, after, place, is_new}
use Rattle.dcc_model.specs.Entries.{entries}
use Rattle.dcc_openers.specs.Openers.{OpenersView, HasRoomFor, UsesOneRoom}
use Rattle.dcc_shard.specs.Shards.{ShardView, account_in, held_in, held_then, is_among, are_apart}
use Rattle.dcc_shard.specs.Stored.{held_then_all}
use Rattle.dcc_shard.specs.inner.Books.{BooksView, KeptView, StayApart, IsStepOfBooks}
use Rattle.dcc_shard.specs.inner.Indexed.{opening, IsReady}
use Rattle.dcc_shard.specs.inner.Pending.{step_of, Stands, IsPending}
use Rattle.dcc_shard.specs.inner.Plans.{IsStanding, IsSameWithRoom, StayBeside, steps_in, subs_in, shard_of_books}
use Rattle.dcc_shard.specs.declared.pending.Pending.{Pending}
use Rattle.dcc_shard.specs.declared.pending.Pending.TheVariants.{Known, First}
use Rattle.dcc_shard.specs.declared.plan.Plan.{Plan}
use Rattle.dcc_shard.specs.declared.plan.Plan.TheVariants as plans
use Rattle.dcc_shard.proofs.BookRows.{acts_held}
use Rattle.dcc_shard.proofs.Subs.{same_sub-same, same_sub-other, one_or_other}
use Rattle.dcc_shard.proofs.Batching.{neither, first_apart, local_then}

-- the books as far as one subscriber goes: its account and the terms stay, and there is room if there was
pub record StaysFor (old new : BooksView) (sub : Sub) : Type 0 where
  pub account : account_in new.rows sub ≡ account_in old.rows sub
  pub terms : new.terms ≡ old.terms
  pub room : 0 < old.room → 0 < new.room

stands_still : (old new : BooksView) (sub : Sub) (pending : Pending) → StaysFor old new sub → Stands old sub pending → Stands new sub pending
stands_still old new sub (Known step) stays it = (it.0, stays.account ∙ it.1, it.2)
stands_still old new sub (First account step) stays it = (stays.account ∙ it.0, it.1 ∙ sym stays.terms, it.2, it.3, stays.room it.4)

-- what is reckoned of a subscriber's acts under the terms stays
reckoned : {X : Type 0} (f : TermsView → List Act → X) (old new : BooksView) (sub : Sub) → StaysFor old new sub → f old.terms (held_in old.rows sub) ≡ f new.terms (held_in new.rows sub)
reckoned f old new sub stays = ap₂ f (sym stays.terms) (ap acts_held (sym stays.account))

pub pending_still : (old new : BooksView) (sub : Sub) (act : Act) (pending : Pending) → StaysFor old new sub → IsPending old sub act pending → IsPending new sub act pending
pending_still old new sub act pending stays is = record {
  stands = stands_still old new sub pending stays is.stands;
  act_is = is.act_is;
  outcome_is = is.outcome_is ∙ reckoned (λ terms xs. after terms xs act) old new sub stays;
  place_is = is.place_is ∙ reckoned (λ terms xs. place terms xs act) old new sub stays;
  new_is = is.new_is ∙ reckoned (λ terms xs. is_new terms xs act) old new sub stays;
  entries_are =
      sym (reckoned (λ terms xs. entries terms (xs ++ act ∷ [])) old new sub stays) ∙ is.entries_are
      ∙ reckoned (λ terms xs. entries terms xs ++ (step_of pending).entries) old new sub stays;
}

ready_still : (old new : OpenersView) (had number : ℕ) (opens : Option (List ℕ × List ℕ)) (name : Option (List ℕ)) → ((host : List ℕ) → HasRoomFor old host had → HasRoomFor new host number)
    → IsReady old had opens name → IsReady new number opens name
ready_still old new had number None name room is = is
ready_still old new had number (Some one) name room is = (room one.0 is.0, is.1)

-- the subscriber of a planned step, if there is a step
abbrev pub StaysForPlan : BooksView → BooksView → Plan → Type 0
StaysForPlan old new (plans.Refused reply) = Unit {0}
StaysForPlan old new (plans.Step sub ready way reply) = StaysFor old new sub

pub standing_still : (old new : BooksView) (before now : OpenersView) (had number : ℕ) → ((host : List ℕ) → HasRoomFor before host had → HasRoomFor now host number) → (plan : Plan)
    → StaysForPlan old new plan → IsStanding old before had plan → IsStanding new now number plan
standing_still old new before now had number room (plans.Refused reply) stays it = tt
standing_still old new before now had number room (plans.Step sub ready way reply) stays it = (
  pending_still old new sub (step_of ready.pending).act ready.pending stays it.0,
  ready_still before now had number (opening (step_of ready.pending)) ready.opens room it.1,
)

-- so where all stays
stays_same : (old new : BooksView) (plan : Plan) → new.terms ≡ old.terms → new.rows ≡ old.rows → old.room ≤ new.room → StaysForPlan old new plan
stays_same old new (plans.Refused reply) terms rows room = tt
stays_same old new (plans.Step sub ready way reply) terms rows room = record { account = ap (λ (r : List (Sub × Account)). account_in r sub) rows; terms = terms; room = λ was. omega (arith, was, room) }

pub standing_same : {R : Type 0} (old new : KeptView R) (number : ℕ) (all : List Plan) → IsSameWithRoom old new → AllByRecursion (IsStanding old.books old.openers number) all
    → AllByRecursion (IsStanding new.books new.openers number) all
standing_same old new number [] same standing = tt
standing_same old new number (plan ∷ all) same standing = (
  standing_still old.books new.books old.openers new.openers number number (λ host. same.openers host number) plan (stays_same old.books new.books plan same.terms same.rows same.room) standing.0,
  standing_same old new number all same standing.1,
)

-- all stays over two parts of the way
pub same_on : {R : Type 0} (old mid new : KeptView R) → IsSameWithRoom old mid → IsSameWithRoom mid new → IsSameWithRoom old new
same_on old mid new a b = record {
  terms = b.terms ∙ a.terms;
  rows = b.rows ∙ a.rows;
  room = (let x = a.room in let y = b.room in omega (arith, x, y));
  openers = λ host number there. b.openers host number (a.openers host number there);
  records = b.records ∙ a.records;
}

-- and where one subscriber's step was installed, of whom there is no further step
pub standing_apart : SameAreEqual → (old new : BooksView) (before now : OpenersView) (had number : ℕ) (sub : Sub) → ((host : List ℕ) → HasRoomFor before host had → HasRoomFor now host number)
    → StayApart old.rows new.rows sub → new.terms ≡ old.terms → (all : List Plan) → 0 < new.room → is_among sub (subs_in all) ≡ false → AllByRecursion (IsStanding old before had) all
    → AllByRecursion (IsStanding new now number) all
standing_apart same old new before now had number sub room stays terms [] there apart standing = tt
standing_apart same old new before now had number sub room stays terms (plans.Refused reply ∷ all) there apart standing =
    (tt, standing_apart same old new before now had number sub room stays terms all there apart standing.1)
standing_apart same old new before now had number sub room stays terms (plans.Step one ready way reply ∷ all) there apart standing =
    let both = neither (same_sub one sub) (is_among sub (subs_in all)) apart in
    let beside : one ≢ sub = λ e. (let is : same_sub one sub ≡ true = (same one sub).1 e in let not : same_sub one sub ≡ false = both.0 in absurd cc) in
    let plan : Plan = plans.Step one ready way reply in (
      standing_still old new before now had number room plan (record { account = stays one beside; terms = terms; room = λ was. there }) standing.0,
      standing_apart same old new before now had number sub room stays terms all there both.1 standing.1,
    )

pub same_shard : {R : Type 0} (identity : Identity) (old new : KeptView R) → IsSameWithRoom old new → shard_of_books identity new.books ≡ shard_of_books identity old.books
same_shard identity old new same = ap₂ (λ (terms : TermsView) (rows : List (Sub × Account)). let s : ShardView = record { terms = terms; identity = identity; rows = rows } in s) same.terms same.rows

-- and where all accounts stay
standing_all : (old new : BooksView) (before now : OpenersView) (had number : ℕ) → ((host : List ℕ) → HasRoomFor before host had → HasRoomFor now host number)
    → new.rows ≡ old.rows → new.terms ≡ old.terms → 0 < new.room → (all : List Plan) → AllByRecursion (IsStanding old before had) all → AllByRecursion (IsStanding new now number) all
standing_all old new before now had number room rows terms there [] standing = tt
standing_all old new before now had number room rows terms there (plans.Refused reply ∷ all) standing = (tt, standing_all old new before now had number room rows terms there all standing.1)
standing_all old new before now had number room rows terms there (plans.Step one ready way reply ∷ all) standing = (
  standing_still old new before now had number room (plans.Step one ready way reply)
      (record { account = ap (λ (r : List (Sub × Account)). account_in r one) rows; terms = terms; room = λ was. there }) standing.0,
  standing_all old new before now had number room rows terms there all standing.1,
)

-- the steps behind one that was installed stand, with the room for one less
pub standing_next : SameAreEqual → (old new : BooksView) (before now : OpenersView) (plan : Plan) (next : List Plan) → StayBeside old.rows new.rows plan → new.terms ≡ old.terms
    → old.room ≤ new.room + 1 → UsesOneRoom before now → length next + 1 ≤ old.room → are_apart (subs_in (plan ∷ next)) ≡ true
    → AllByRecursion (IsStanding old before (length next + 1)) next → AllByRecursion (IsStanding new now (length next)) next
standing_next same old new before now plan [] beside terms less openers room apart standing = tt
standing_next same old new before now (plans.Refused reply) (one ∷ next) beside terms less openers room apart standing =
    standing_all old new before now (length (one ∷ next) + 1) (length (one ∷ next)) (λ host. openers host (length (one ∷ next))) beside terms (omega (arith, less, room)) (one ∷ next) standing
standing_next same old new before now (plans.Step sub ready way reply) (one ∷ next) beside terms less openers room apart standing =
    let both = first_apart (is_among sub (subs_in (one ∷ next))) (are_apart (subs_in (one ∷ next))) apart in
    standing_apart same old new before now (length (one ∷ next) + 1) (length (one ∷ next)) sub (λ host. openers host (length (one ∷ next))) beside terms (one ∷ next) (omega (arith, less, room)) both.0 standing

pub apart_next : (plan : Plan) (next : List Plan) → are_apart (subs_in (plan ∷ next)) ≡ true → are_apart (subs_in next) ≡ true
apart_next (plans.Refused reply) next apart = apart
apart_next (plans.Step sub ready way reply) next apart = (first_apart (is_among sub (subs_in next)) (are_apart (subs_in next)) apart).1

-- room for several is room for one
pub standing_one : (books : BooksView) (openers : OpenersView) (number : ℕ) (plan : Plan) → 1 ≤ number → IsStanding books openers number plan → IsStanding books openers 1 plan
standing_one books openers number (plans.Refused reply) some it = tt
standing_one books openers number (plans.Step sub ready way reply) some it = (
  it.0,
  ready_still openers openers number 1 (opening (step_of ready.pending)) ready.opens (λ host there. record { names = there.names; is = there.is; room = (let room = there.room in omega (arith, room, some)) }) it.1,
)

-- what is held after one installed step and the steps behind it
pub held_next : (terms : TermsView) (old new : BooksView) (plan : Plan) (next : List Plan) → old.terms ≡ terms
    → ((sub : Sub) → held_in new.rows sub ≡ held_then_all old.terms (steps_in (plan ∷ [])) (held_in old.rows) sub)
    → (sub : Sub) → held_then_all terms (steps_in next) (held_in new.rows) sub ≡ held_then_all terms (steps_in (plan ∷ next)) (held_in old.rows) sub
held_next terms old new (plans.Refused reply) next is held = λ sub. local_then terms (steps_in next) (held_in new.rows) (held_in old.rows) sub (held sub)
held_next terms old new (plans.Step one ready way reply) next is held =
    let act = (step_of ready.pending).act in
    λ sub. local_then terms (steps_in next) (held_in new.rows) (held_then terms one act (held_in old.rows)) sub (held sub ∙ ap (λ (t : TermsView). held_then t one act (held_in old.rows) sub) is)

-- what is held after the step of one subscriber
pub held_after_step : SameAreEqual → (old new : BooksView) (sub : Sub) (act : Act) → IsStepOfBooks old new sub act → (other : Sub) → held_in new.rows other ≡ held_then old.terms sub act (held_in old.rows) other
held_after_step same old new sub act step other = elim (one_or_other same other sub) [
  | inl e ↦
      let own : held_then old.terms sub act (held_in old.rows) sub ≡ acts old.terms (held_in old.rows sub ++ act ∷ []) = rw (same_sub-same same sub) refl in
      let P : Sub → Type 0 = λ s. held_in new.rows s ≡ held_then old.terms sub act (held_in old.rows) s in
      subst P (sym e) (step.own ∙ sym own)
  | inr apart ↦
      let beside : same_sub sub other ≡ false = same_sub-other same sub other (λ e. apart (sym e)) in
      step.others other apart ∙ sym (rw beside refl)
]

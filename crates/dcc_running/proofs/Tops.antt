-- The greatest places of seats and subscribers, and the order of a seat's receipts over audits.
use Rattle.std.proofs.Common.{◌≡◌, ℕ, Bool, true, false, cond, not, ◌&&◌, ◌||◌, ◌==◌, nat_lt, max, if◌then◌else◌, List, [], ◌∷◌, ◌++◌, length, length-append, Option, Some, None, refl, sym, ap, ap₂, ◌∙◌, inl, inr, arith}
use Rattle.std.proofs.lemmas.Bool.{cases_Bool}
use Rattle.std.proofs.lemmas.Grind.{common_steps}
use Rattle.std.specs.declared.snapshot.Snapshot.{Snapshot}
use Rattle.std.proofs.lemmas.List.{append_assoc, append-nil, map-append}
use Rattle.std.proofs.lemmas.List.Elements.{filter-append}
use Rattle.dcc_act.specs.declared.sub.Sub.{Sub}
use Rattle.dcc_act.specs.Subs.{same_sub, SameAreEqual}
use Rattle.dcc_tariff.specs.Terms.{TermsView}
use Rattle.dcc_message.specs.declared.identity.Identity.{Identity}
use Rattle.dcc_act.specs.declared.act.Act.{Act}
use Rattle.dcc_store.specs.Books.{Held}
use Rattle.std.specs.List.{list_all}
use Rattle.std.specs.Prelude.{◌-◌, slice_get}
use Rattle.std.proofs.lemmas.List.Folds.{list_all-append}
use Rattle.dcc_running.specs.Audited.{AreTrue, are_true, is_true}
use Rattle.dcc_running.specs.Books.{BooksView, book, told_in}
use Rattle.dcc_receipts.specs.Audit.{agrees, is_answered, is_there, own, in_order}
use Rattle.dcc_receipts.specs.Tops.{OrdersAgree, follows, in_order_by, top_after}
use Rattle.dcc_receipts.specs.declared.receipt.Receipt.{Receipt}
use Rattle.dcc_running.specs.Told.{of_seat}
use Rattle.dcc_running.proofs.Growth.{both_of}
use Rattle.dcc_running.specs.inner.Told.{AreTops, Tops, are_placed, is_placed, numbers, top_in}

own_both : (sub : Sub) (a b : List Receipt) → own sub (a ++ b) ≡ own sub a ++ own sub b
own_both sub a b = filter-append (λ (r : Receipt). same_sub r.sub sub) a b

own_mine : (sub : Sub) (r : Receipt) → same_sub r.sub sub ≡ true → own sub (r ∷ []) ≡ r ∷ []
own_mine sub r mine = rw mine refl

own_other : (sub : Sub) (r : Receipt) → same_sub r.sub sub ≡ false → own sub (r ∷ []) ≡ []
own_other sub r other = rw other refl

-- one receipt more
seat_more : (seat one : ℕ) (r : Receipt) (seats : List ℕ) (receipts : List Receipt) → length seats ≡ length receipts
    → of_seat seat (seats ++ one ∷ []) (receipts ++ r ∷ []) ≡ of_seat seat seats receipts ++ cond (one == seat) (r ∷ []) []
seat_more seat one r [] [] as_many = refl
seat_more seat one r [] (x ∷ receipts) as_many = absurd (omega (arith, as_many))
seat_more seat one r (s ∷ seats) [] as_many = absurd (omega (arith, as_many))
seat_more seat one r (s ∷ seats) (x ∷ receipts) as_many =
    let rest = seat_more seat one r seats receipts (omega (arith, as_many)) in
    elim (cases_Bool (s == seat)) [
      | inl here ↦ rw here (ap (λ (xs : List Receipt). x ∷ xs) rest)
      | inr elsewhere ↦ rw elsewhere rest
    ]

first_by : (fresh : Bool) (place : ℕ) → not fresh || nat_lt 0 place ≡ true → (if fresh then nat_lt 0 place else nat_lt 0 place || (0 == 0)) ≡ true
first_by true place placed = placed
first_by false place placed = grind (arith, common_steps)

first_follows : (r : Receipt) → is_placed r ≡ true → follows (Some 0) r ≡ true
first_follows r placed = first_by r.fresh r.place placed

own_placed : (sub : Sub) (receipts : List Receipt) → are_placed receipts ≡ true → are_placed (own sub receipts) ≡ true
own_placed sub [] placed = refl
own_placed sub (r ∷ rest) placed =
    let both = both_of (is_placed r) (are_placed rest) placed in
    elim (cases_Bool (same_sub r.sub sub)) [
      | inl mine ↦ rw (mine, both.0) (own_placed sub rest both.1)
      | inr other ↦ rw other (own_placed sub rest both.1)
    ]

-- a receipt that follows the greatest place comes before the others
behind : (top : Option ℕ) (r : Receipt) (rest : List Receipt) → follows top r ≡ true → in_order_by (Some (top_after top r)) rest ≡ in_order_by top (r ∷ rest)
behind top r rest is = sym (ap (λ b. b && in_order_by (Some (top_after top r)) rest) is)

-- from place 0 on fresh receipts that have places are in order as from no place on
from_none : (rest : List Receipt) → are_placed rest ≡ true → in_order_by (Some 0) rest ≡ in_order_by None rest
from_none [] placed = refl
from_none (r ∷ rest) placed =
    let is : follows (Some 0) r ≡ true = first_follows r (both_of (is_placed r) (are_placed rest) placed).0 in
    let top : max 0 r.place ≡ r.place = grind (arith, common_steps) in
    ap (λ b. b && in_order_by (Some (max 0 r.place)) rest) is ∙ ap (λ n. in_order_by (Some n) rest) top

-- a receipt without a place changes nothing
nothing_more : (top : Option ℕ) (r : Receipt) (rest : List Receipt) → r.place ≡ 0 → follows top r ≡ true → are_placed rest ≡ true
    → in_order_by top rest ≡ in_order_by top (r ∷ rest)
nothing_more None r rest at is placed = sym (from_none rest placed) ∙ ap (λ n. in_order_by (Some n) rest) (sym at)
nothing_more (Some top) r rest at is placed =
    let same : top ≡ max top r.place = grind (arith, common_steps) in
    ap (λ n. in_order_by (Some n) rest) same ∙ sym (ap (λ b. b && in_order_by (Some (max top r.place)) rest) is)

-- the seat and the subscriber have one receipt more
mine_more : (seat : ℕ) (sub : Sub) (r : Receipt) (old new : List Receipt) (rest : List Receipt) → new ≡ old ++ r ∷ [] → same_sub r.sub sub ≡ true
    → own sub old ++ (r ∷ rest) ≡ own sub new ++ rest
mine_more seat sub r old new rest is mine =
    let o : own sub new ≡ own sub old ++ r ∷ [] = ap (own sub) is ∙ (own_both sub old (r ∷ []) ∙ ap (λ (xs : List Receipt). own sub old ++ xs) (own_mine sub r mine)) in
    sym (ap (λ (xs : List Receipt). xs ++ rest) o ∙ append_assoc (own sub old) (r ∷ []) rest)

other_more : (sub : Sub) (r : Receipt) (old new : List Receipt) → new ≡ old ++ r ∷ [] → same_sub r.sub sub ≡ false → own sub new ≡ own sub old
other_more sub r old new is other =
    ap (own sub) is ∙ (own_both sub old (r ∷ []) ∙ (ap (λ (xs : List Receipt). own sub old ++ xs) (own_other sub r other) ∙ append-nil (own sub old)))

tops_more : SameAreEqual → (tops new : Tops) (seats : List ℕ) (receipts : List Receipt) (one : ℕ) (r : Receipt) → length seats ≡ length receipts
    → is_placed r ≡ true → AreTops tops seats receipts → follows (top_in tops one r.sub) r ≡ true
    → ((seat : ℕ) (other : Sub) → top_in new seat other ≡ cond ((one == seat) && same_sub r.sub other) (Some (top_after (top_in tops one r.sub) r)) (top_in tops seat other))
    → AreTops new (seats ++ one ∷ []) (receipts ++ r ∷ [])
tops_more same tops new seats receipts one r as_many here_placed are is updates seat sub rest placed =
    let u = updates seat sub in
    let m = seat_more seat one r seats receipts as_many in
    let old = of_seat seat seats receipts in
    let now = of_seat seat (seats ++ one ∷ []) (receipts ++ r ∷ []) in
    elim (cases_Bool (one == seat)) [
      | inl here ↦
          let more : now ≡ old ++ r ∷ [] = m ∙ ap (λ b. old ++ cond b (r ∷ []) []) here in
          elim (cases_Bool (same_sub r.sub sub)) [
            | inl mine ↦
                let at : one ≡ seat = grind (arith, common_steps) in
                let who : r.sub ≡ sub = (same r.sub sub).0 mine in
                let top : top_in new seat sub ≡ Some (top_after (top_in tops one r.sub) r) =
                u ∙ ap₂ (λ a b. cond (a && b) (Some (top_after (top_in tops one r.sub) r)) (top_in tops seat sub)) here mine in
                let there : top_in tops one r.sub ≡ top_in tops seat sub = ap₂ (λ n s. top_in tops n s) at who in
                ap (λ t. in_order_by t rest) top
                ∙ (behind (top_in tops one r.sub) r rest is
                ∙ (ap (λ t. in_order_by t (r ∷ rest)) there
                ∙ (are seat sub (r ∷ rest) (rw (here_placed, placed) refl) ∙ ap (λ (xs : List Receipt). in_order_by None xs) (mine_more seat sub r old now rest more mine))))
            | inr other ↦
                let top : top_in new seat sub ≡ top_in tops seat sub =
                u ∙ ap₂ (λ a b. cond (a && b) (Some (top_after (top_in tops one r.sub) r)) (top_in tops seat sub)) here other in
                ap (λ t. in_order_by t rest) top
                ∙ (are seat sub rest placed ∙ ap (λ (xs : List Receipt). in_order_by None (xs ++ rest)) (sym (other_more sub r old now more other)))
          ]
      | inr elsewhere ↦
          let as_before : now ≡ old = m ∙ (ap (λ b. old ++ cond b (r ∷ []) []) elsewhere ∙ append-nil old) in
          let top : top_in new seat sub ≡ top_in tops seat sub =
          u ∙ ap (λ b. cond (b && same_sub r.sub sub) (Some (top_after (top_in tops one r.sub) r)) (top_in tops seat sub)) elsewhere in
          ap (λ t. in_order_by t rest) top ∙ (are seat sub rest placed ∙ ap (λ (xs : List Receipt). in_order_by None (own sub xs ++ rest)) (sym as_before))
    ]

-- the same for a receipt without a place, which leaves nothing
tops_same : SameAreEqual → (tops new : Tops) (seats : List ℕ) (receipts : List Receipt) (one : ℕ) (r : Receipt) → length seats ≡ length receipts
    → is_placed r ≡ true → r.place ≡ 0 → AreTops tops seats receipts → follows (top_in tops one r.sub) r ≡ true
    → ((seat : ℕ) (other : Sub) → top_in new seat other ≡ top_in tops seat other)
    → AreTops new (seats ++ one ∷ []) (receipts ++ r ∷ [])
tops_same same tops new seats receipts one r as_many here_placed at_none are is alike seat sub rest placed =
    let m = seat_more seat one r seats receipts as_many in
    let old = of_seat seat seats receipts in
    let now = of_seat seat (seats ++ one ∷ []) (receipts ++ r ∷ []) in
    ap (λ t. in_order_by t rest) (alike seat sub) ∙ elim (cases_Bool (one == seat)) [
      | inl here ↦
          let more : now ≡ old ++ r ∷ [] = m ∙ ap (λ b. old ++ cond b (r ∷ []) []) here in
          elim (cases_Bool (same_sub r.sub sub)) [
            | inl mine ↦
                let at : one ≡ seat = grind (arith, common_steps) in
                let who : r.sub ≡ sub = (same r.sub sub).0 mine in
                let there : top_in tops one r.sub ≡ top_in tops seat sub = ap₂ (λ n s. top_in tops n s) at who in
                nothing_more (top_in tops seat sub) r rest at_none (ap (λ t. follows t r) (sym there) ∙ is) placed
                ∙ (are seat sub (r ∷ rest) (rw (here_placed, placed) refl) ∙ ap (λ (xs : List Receipt). in_order_by None xs) (mine_more seat sub r old now rest more mine))
            | inr other ↦ are seat sub rest placed ∙ ap (λ (xs : List Receipt). in_order_by None (xs ++ rest)) (sym (other_more sub r old now more other))
          ]
      | inr elsewhere ↦
          let as_before : now ≡ old = m ∙ (ap (λ b. old ++ cond b (r ∷ []) []) elsewhere ∙ append-nil old) in
          are seat sub rest placed ∙ ap (λ (xs : List Receipt). in_order_by None (own sub xs ++ rest)) (sym as_before)
    ]

and_true : (b : Bool) → b && true ≡ b
and_true true = refl
and_true false = refl

-- a receipt that isn't after the greatest place
pub is_before : SameAreEqual → OrdersAgree → (tops : Tops) (seats : List ℕ) (receipts : List Receipt) (seat : ℕ) (r : Receipt) → is_placed r ≡ true
    → AreTops tops seats receipts → follows (top_in tops seat r.sub) r ≡ false → in_order [] (own r.sub (of_seat seat seats receipts ++ r ∷ [])) ≡ false
is_before same agree tops seats receipts seat r placed are is =
    let old = of_seat seat seats receipts in
    let mine : same_sub r.sub r.sub ≡ true = (same r.sub r.sub).1 refl in
    let o : own r.sub (old ++ r ∷ []) ≡ own r.sub old ++ r ∷ [] = own_both r.sub old (r ∷ []) ∙ ap (λ (xs : List Receipt). own r.sub old ++ xs) (own_mine r.sub r mine) in
    sym (agree (own r.sub (old ++ r ∷ [])))
    ∙ (ap (λ (xs : List Receipt). in_order_by None xs) o
    ∙ (sym (are seat r.sub (r ∷ []) (rw placed refl))
    ∙ (and_true (follows (top_in tops seat r.sub) r) ∙ is)))

-- the receipts that a seat had are in order
pub had_in_order : OrdersAgree → (tops : Tops) (seats : List ℕ) (receipts : List Receipt) → AreTops tops seats receipts
    → (seat : ℕ) (sub : Sub) → in_order [] (own sub (of_seat seat seats receipts)) ≡ true
had_in_order agree tops seats receipts are seat sub =
    let had = own sub (of_seat seat seats receipts) in
    sym (agree had) ∙ (ap (λ (xs : List Receipt). in_order_by None xs) (sym (append-nil had)) ∙ sym (are seat sub [] refl))

-- more receipts of a seat are in order behind these just where they are behind the greatest places
pub continued : OrdersAgree → (tops : Tops) (seats : List ℕ) (receipts : List Receipt) → AreTops tops seats receipts → (seat : ℕ) (more : List Receipt) (sub : Sub)
    → are_placed more ≡ true → in_order_by (top_in tops seat sub) (own sub more) ≡ in_order [] (own sub (of_seat seat seats receipts ++ more))
continued agree tops seats receipts are seat more sub placed =
    are seat sub (own sub more) (own_placed sub more placed) ∙ (ap (λ (xs : List Receipt). in_order_by None xs) (sym (own_both sub (of_seat seat seats receipts) more))
    ∙ agree (own sub (of_seat seat seats receipts ++ more)))

-- the same of any receipt, once there was room for the greatest place
pub tops_kept : SameAreEqual → (tops room new : Tops) (seats : List ℕ) (receipts : List Receipt) (one : ℕ) (r : Receipt) (top : Option ℕ)
    → length seats ≡ length receipts → is_placed r ≡ true → AreTops tops seats receipts → top ≡ top_in tops one r.sub → follows top r ≡ true
    → ((seat : ℕ) (other : Sub) → top_in room seat other ≡ top_in tops seat other)
    → ((seat : ℕ) (other : Sub) → top_in new seat other ≡ cond (nat_lt 0 r.place && ((one == seat) && same_sub r.sub other)) (Some (top_after top r)) (top_in room seat other))
    → AreTops new (seats ++ one ∷ []) (receipts ++ r ∷ [])
tops_kept same tops room new seats receipts one r top as_many placed are top_is is unchanged updates =
    let follows_is = ap (λ t. follows t r) (sym top_is) ∙ is in
    elim (cases_Bool (nat_lt 0 r.place)) [
      | inl some ↦
          tops_more same tops new seats receipts one r as_many placed are follows_is
          (λ seat other. updates seat other ∙ (ap (λ b. cond (b && ((one == seat) && same_sub r.sub other)) (Some (top_after top r)) (top_in room seat other)) some
          ∙ ap₂ (λ t u. cond ((one == seat) && same_sub r.sub other) (Some (top_after t r)) u) top_is (unchanged seat other)))
      | inr none ↦
          let at : r.place ≡ 0 = grind (arith, common_steps) in
          tops_same same tops new seats receipts one r as_many placed at are follows_is
          (λ seat other. updates seat other ∙ (ap (λ b. cond (b && ((one == seat) && same_sub r.sub other)) (Some (top_after top r)) (top_in room seat other)) none ∙ unchanged seat other))
    ]

pub numbers_more : (old now : List (Snapshot ℕ)) (s : Snapshot ℕ) (seat : ℕ) → now ≡ old ++ s ∷ [] → s.value ≡ seat → numbers now ≡ numbers old ++ seat ∷ []
numbers_more old now s seat is value =
    ap numbers is ∙ (map-append (λ (t : Snapshot ℕ). t.value) old (s ∷ []) ∙ ap (λ (n : ℕ). numbers old ++ n ∷ []) value)

pub as_many : (seats : List ℕ) (receipts : List Receipt) (one : ℕ) (r : Receipt) → length seats ≡ length receipts → length (seats ++ one ∷ []) ≡ length (receipts ++ r ∷ [])
as_many seats receipts one r same = omega (arith, same, length-append seats (one ∷ []), length-append receipts (r ∷ []))

placed_by : (fresh : Bool) (place opened : ℕ) (there : Bool) → (if place == 0 then not fresh && (opened == 0) else there) ≡ true → not fresh || nat_lt 0 place ≡ true
placed_by fresh place opened there are =
    elim (cases_Bool (place == 0)) [
      | inl none ↦
          let stale = both_of (not fresh) (opened == 0) (rw none at are) in rw stale.0 refl
      | inr some ↦ grind (arith, common_steps)
    ]

-- a receipt that agrees with acts has a place if it is fresh
pub placed_if : (opened : ℕ) (all : List Act) (r : Receipt) → agrees opened all r ≡ true → is_placed r ≡ true
placed_if opened all r are = placed_by r.fresh r.place opened (is_there (slice_get all (r.place - 1)) r && (not r.fresh || nat_lt opened r.place)) are

each_placed : (identity : Identity) (terms : TermsView) (opening h : Held) (receipts : List Receipt) → list_all (is_true identity terms opening h) receipts ≡ true
    → are_placed receipts ≡ true
each_placed identity terms opening h [] are = refl
each_placed identity terms opening h (r ∷ rest) are =
    let both = both_of (is_true identity terms opening h r) (list_all (is_true identity terms opening h) rest) are in
    let here = both_of (agrees (length (opening r.sub)) (h r.sub) r) (is_answered identity terms (h r.sub) r) both.0 in
    rw (placed_if (length (opening r.sub)) (h r.sub) r here.0, each_placed identity terms opening h rest both.1) refl

all_placed : (identity : Identity) (terms : TermsView) (opening h : Held) (seats : List (List Receipt)) → are_true identity terms opening h seats ≡ true
    → list_all are_placed seats ≡ true
all_placed identity terms opening h [] are = refl
all_placed identity terms opening h (seat ∷ seats) are =
    let both = both_of (list_all (is_true identity terms opening h) seat) (are_true identity terms opening h seats) are in
    rw (each_placed identity terms opening h seat both.0, all_placed identity terms opening h seats both.1) refl

-- the receipts of seats that are true
pub seats_placed : {R : Type 0} (opening : Held) (books : BooksView R) (seats : List (List Receipt)) → AreTrue opening books seats → list_all are_placed seats ≡ true
seats_placed opening books seats are =
    let h = book books.parts in
    let p = λ (receipts : List Receipt). list_all (is_true books.identity books.terms opening h) receipts in
    let parts = list_all-append p (told_in books.sides) seats in
    all_placed books.identity books.terms opening h seats (both_of (list_all p (told_in books.sides)) (list_all p seats) (sym parts ∙ are.true_all)).1

-- What the end of a lane shows.
use Rattle.std.proofs.Common.{◌≡◌, ℕ, zero, suc, ◌<◌, ◌⊎◌, inl, inr, cond, nat_eq, List, [], ◌∷◌, ◌++◌, Some, map, length, get_or, slice_get, sym, refl, ap, ◌∙◌, subst, append_assoc, arith, eq-eqb, length-append, true, false}
use Rattle.std.specs.List.{All, remove}
use Rattle.std.proofs.lemmas.List.{append-nil, nil_from_length}
use Rattle.std.proofs.lemmas.List.Elements.{All-nil, All-cons}
use mathlib.Core.List.{IsPrefix}
use Rattle.dcc_lane.specs.declared.rule.Tagged.{Tagged}
use Rattle.dcc_lane.specs.declared.sender.Sender.{Sender}
use Rattle.dcc_lane.specs.declared.rule.Known.{Known}
use Rattle.dcc_lane.specs.declared.receiver.Receiver.{Receiver}
use Rattle.dcc_lane.specs.declared.receiver.Count.{Count}
use Rattle.dcc_lane.specs.Rule.{of, receiver, AreBegun, IsIn}
use Rattle.dcc_lane.specs.Ends.{number_of, put_of, taken_of, senders_of, left_by, AreCounts, AreHeard, IsBegun, IsPutBy}

pub each_snoc : {A : Type 0} (P : ℕ → A → Type 0) (xs : List A) (x : A) → ((k : ℕ) (c : A) → slice_get xs k ≡ Some c → P k c) → P (length xs) x → (k : ℕ) (c : A) → slice_get (xs ++ x ∷ []) k ≡ Some c → P k c
each_snoc P [] x h p zero c e = let q : x ≡ c = cc in subst (P 0) q p
each_snoc P [] x h p (suc k) c e = absurd (cc)
each_snoc P (y ∷ ys) x h p zero c e = h zero c e
each_snoc P (y ∷ ys) x h p (suc k) c e = each_snoc (λ j d. P (suc j) d) ys x (λ j d q. h (suc j) d q) p k c e

-- the first of a list, taken off
pub first_off : {A B : Type 0} (f : A → B) (xs : List A) (x : A) → 0 < length xs → x ≡ get_or xs 0 x → map f xs ≡ f x ∷ map f (remove xs 0)
first_off f [] x h e = absurd (omega arith)
first_off f (y ∷ ys) x h e = ap (λ z. f z ∷ map f ys) (sym e)

pub all_begun : {T : Type 0} (taken : List (Tagged T)) (ss : List (Sender T)) → AreBegun taken (map left_by ss) → All (λ s. IsPrefix (of (number_of s) taken) (put_of s)) ss
all_begun taken [] h = All-nil _
all_begun {T} taken (s ∷ ss) h = All-cons (λ (t : Sender T). IsPrefix (of (number_of t) taken) (put_of t)) s ss h.0 (all_begun taken ss h.1)

pub joined_view : {T : Type 0} (w v : Known T) (made : ℕ) (taken : List (Tagged T)) (more : List (ℕ × List T)) → w ≡ receiver v.made v.taken more → v ≡ receiver made taken v.ended → w ≡ receiver made taken w.ended
joined_view w v made taken more a b =
    a ∙ (ap (λ n. receiver n v.taken more) (ap (λ u. u.made) b) ∙ (ap (λ t. receiver made t more) (ap (λ u. u.taken) b) ∙ ap (λ l. receiver made taken l) (sym (ap (λ u. u.ended) a))))

pub moved : {T : Type 0} (ended : List (ℕ × List T)) (e : ℕ × List T) (rest now : List (ℕ × List T)) (n : ℕ) → now ≡ ended ++ (n, e.1) ∷ [] → n ≡ e.0 → ended ++ e ∷ rest ≡ now ++ rest
moved ended e rest now n is number =
    sym (append_assoc ended (e ∷ []) rest) ∙ sym (ap (λ l. l ++ rest) (is ∙ ap (λ (m : ℕ). ended ++ (m, e.1) ∷ []) number))

pub in_push : {X : Type 0} (x : X) (ys : List X) (y : X) → IsIn x (ys ++ y ∷ []) → IsIn x ys ⊎ (y ≡ x)
in_push x [] y (inl e) = inr e
in_push x [] y (inr n) = absurd n
in_push x (z ∷ ys) y (inl e) = inl (inl e)
in_push x (z ∷ ys) y (inr i) = elim (in_push x ys y i) [ inl j ↦ inl (inr j) | inr e ↦ inr e ]

in_front : {X : Type 0} (x : X) (xs ys : List X) → IsIn x xs → IsIn x (xs ++ ys)
in_front x [] ys n = absurd n
in_front x (z ∷ xs) ys (inl e) = inl e
in_front x (z ∷ xs) ys (inr i) = inr (in_front x xs ys i)

in_at : {X : Type 0} (x : X) (xs : List X) (i : ℕ) → slice_get xs i ≡ Some x → IsIn x xs
in_at x [] i e = absurd (cc)
in_at x (z ∷ xs) zero e = let is : z ≡ x = cc in inl is
in_at x (z ∷ xs) (suc i) e = inr (in_at x xs i e)

all_at : {X : Type 0} (P : X → Type 0) (xs : List X) (x : X) → All P xs → IsIn x xs → P x
all_at P [] x h n = absurd n
all_at P (z ∷ xs) x h (inl e) = subst P e (h 0 x (omega arith))
all_at P (z ∷ xs) x h (inr i) = all_at P xs x (λ k d l. h (suc k) d (omega arith)) i

some_at : {X : Type 0} (xs : List X) (i : ℕ) → i < length xs → (x : X) × (slice_get xs i ≡ Some x)
some_at [] i l = absurd (omega arith)
some_at (x ∷ xs) zero l = (x, refl)
some_at (x ∷ xs) (suc i) l = some_at xs i (omega arith)

own_item : {T : Type 0} (t : Tagged T) (k : ℕ) (item : T) (rest : List T) → k ≡ t.from → t.item ≡ item → IsIn item (cond (nat_eq t.from k) (t.item ∷ rest) rest)
own_item t k item rest is same = let yes = eq-eqb t.from k (sym is) in rw yes (inl same)

other_item : {T : Type 0} (t : Tagged T) (k : ℕ) (item : T) (rest : List T) → IsIn item rest → IsIn item (cond (nat_eq t.from k) (t.item ∷ rest) rest)
other_item t k item rest i = elim (nat_eq t.from k) as (λ b. IsIn item (cond b (t.item ∷ rest) rest)) [ true ↦ inr i | false ↦ i ]

in_own : {T : Type 0} (t : Tagged T) (ts : List (Tagged T)) → IsIn t ts → IsIn t.item (of t.from ts)
in_own t [] n = absurd n
in_own t (u ∷ ts) (inl e) = own_item u t.from t.item (of t.from ts) (sym (ap (λ v. v.from) e)) (ap (λ v. v.item) e)
in_own t (u ∷ ts) (inr i) = other_item u t.from t.item (of t.from ts) (in_own t ts i)

pub all_heard : {T : Type 0} (r : Receiver T) (ss : List (Sender T)) (cs : List Count) → ((t : Tagged T) → IsIn t (taken_of r) → t.from < senders_of r) → length cs ≡ senders_of r
    → AreCounts r ss cs → All (IsBegun r) ss → AreHeard r ss
all_heard r ss cs numbered len counts begun t i =
    let c = some_at cs t.from (omega (arith, numbered t i)) in
    let put : IsPutBy ss t.from c.0.put = (counts t.from c.0 c.1).0 in
    let s = put.0 in
    let stands : IsIn s ss = in_at s ss put.1.0 put.1.1 in
    let b : IsBegun r s = all_at (IsBegun r) ss s begun stands in
    let own : IsIn t.item (of (number_of s) (taken_of r)) = subst (λ k. IsIn t.item (of k (taken_of r))) (sym put.2) (in_own t (taken_of r) i) in
    (s, stands, put.2, subst (IsIn t.item) b.1 (in_front t.item (of (number_of s) (taken_of r)) b.0 own))

-- a beginning that is as long as the whole
pub whole_of : {X : Type 0} (xs ys : List X) → IsPrefix xs ys → length xs ≡ length ys → xs ≡ ys
whole_of xs ys p same =
    let none : p.0 ≡ [] = nil_from_length p.0 (omega (arith, length-append xs p.0, ap length p.1)) in
    sym (append-nil xs) ∙ sym (ap (λ l. xs ++ l) none) ∙ p.1

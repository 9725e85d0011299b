-- What went out of items, one item later.
use Rattle.std.proofs.Common.{◌≡◌, ℕ, zero, suc, ◌+◌, ◌-◌, ◌≤◌, ◌<◌, nat_le, nat_lt, Bool, true, false, List, [], ◌∷◌, ◌++◌, length, take, drop, take-append-drop, refl, sym, ap, ◌∙◌, subst, append_assoc, None, Some, Option, ◌⊎◌, inl, inr, arith, length-append, length-take, zero-add}
use Rattle.std.specs.Io.KnownBytes.{Appends}
use Rattle.std.proofs.KnownBytes.{Appends-nil, Appends-trans}
use Rattle.std.proofs.lemmas.Bool.{cases_Bool}
use Rattle.std.proofs.lemmas.Bool.Decides.{nat_tests}
use Rattle.std.proofs.lemmas.List.{append-nil, take-append-le, take_all}
use Rattle.std.proofs.Math.Seq.{take-append-add}
use mathlib.Core.List.{IsPrefix}
use Rattle.dcc_lane.specs.declared.rule.Tagged.{Tagged}
use Rattle.dcc_connect.specs.declared.writing.Item.{Item}
use Rattle.dcc_connect.specs.declared.writing.Item.TheVariants.{Octets, End}
use Rattle.dcc_connect.specs.declared.writing.Progress.{Progress}
use Rattle.dcc_connect.specs.declared.writing.WriteEnd.{WriteEnd}
use Rattle.dcc_connect.specs.declared.fault.ConnectFault.{ConnectFault}
use Rattle.dcc_connect.specs.declared.fault.ConnectFault.TheVariants.{Read, Write, TooManyTurns, Header, Memory}
use Rattle.dcc_connect.specs.Writing.{items_of, octets_in, but_last, ends_in, whole_in, GoesOut, EndsWithSenders, TakesAndWrites}
use Rattle.dcc_connect.specs.inner.Sends.{Counts}
use Rattle.dcc_connect.specs.inner.Items.{FirstFault, answers_with, WritesOctets, WritesItem, HasSent, HasWritten, HasTaken, last_fault}

pub cases_le : (m n : ℕ) → (m ≤ n) ⊎ (n < m)
cases_le m n = elim (cases_Bool (nat_le m n)) [ inl t ↦ inl (grind (arith, nat_tests)) | inr f ↦ inr (grind (arith, nat_tests)) ]

pub octets_end : (items : List Item) → octets_in (items ++ End ∷ []) ≡ octets_in items
octets_end [] = refl
octets_end (Octets o ∷ items) = ap (λ x. o ++ x) (octets_end items)
octets_end (End ∷ items) = octets_end items

pub octets_more : (items : List Item) (octets : List ℕ) → octets_in (items ++ Octets octets ∷ []) ≡ octets_in items ++ octets
octets_more [] octets = append-nil octets
octets_more (Octets o ∷ items) octets = ap (λ x. o ++ x) (octets_more items octets) ∙ sym (append_assoc o (octets_in items) octets)
octets_more (End ∷ items) octets = octets_more items octets

pub ends_end : (items : List Item) → ends_in (items ++ End ∷ []) ≡ ends_in items + 1
ends_end [] = refl
ends_end (Octets o ∷ items) = ends_end items
ends_end (End ∷ items) = ap (λ n. n + 1) (ends_end items)

pub ends_more : (items : List Item) (octets : List ℕ) → ends_in (items ++ Octets octets ∷ []) ≡ ends_in items
ends_more [] octets = refl
ends_more (Octets o ∷ items) octets = ends_more items octets
ends_more (End ∷ items) octets = ap (λ n. n + 1) (ends_more items octets)

pub whole_end : (n : ℕ) (items : List Item) → whole_in n (items ++ End ∷ []) ≡ whole_in n items
whole_end n [] = refl
whole_end n (Octets o ∷ items) = rw (whole_end (n - length o) items) refl
whole_end n (End ∷ items) = whole_end n items

-- what is cut short stays so
pub whole_cut : (n : ℕ) (items later : List Item) → n < length (octets_in items) → whole_in n (items ++ later) ≡ whole_in n items
whole_cut n [] later h = absurd (omega arith)
whole_cut n (Octets o ∷ items) later h =
    let long = length-append o (octets_in items) in
    elim (cases_le (length o) n) [
      | inl k ↦ (let t : nat_le (length o) n ≡ true = grind (arith, nat_tests) in rw t (ap (λ c. c + 1) (whole_cut (n - length o) items later (omega arith))))
      | inr k ↦ (let f : nat_le (length o) n ≡ false = grind (arith, nat_tests) in rw f refl)
    ]
whole_cut n (End ∷ items) later h = whole_cut n items later h

-- behind what is whole the others are counted
pub whole_through : (n : ℕ) (items later : List Item) → whole_in (length (octets_in items) + n) (items ++ later) ≡ whole_in (length (octets_in items)) items + whole_in n later
whole_through n [] later = ap (λ k. whole_in k later) (zero-add n) ∙ sym (zero-add (whole_in n later))
whole_through n (Octets o ∷ items) later =
    let long = length-append o (octets_in items) in
    let all = length (octets_in items) in
    let a : nat_le (length o) (length (o ++ octets_in items) + n) ≡ true = grind (arith, nat_tests) in
    let b : nat_le (length o) (length (o ++ octets_in items)) ≡ true = grind (arith, nat_tests) in
    let p : length (o ++ octets_in items) + n - length o ≡ all + n = omega arith in
    let q : length (o ++ octets_in items) - length o ≡ all = omega arith in
    let on = whole_through n items later in
    rw (a, b, p, q) (omega arith)
whole_through n (End ∷ items) later = whole_through n items later

pub one_whole : (o : List ℕ) (n : ℕ) → n ≡ length o → whole_in n (Octets o ∷ []) ≡ 1
one_whole o n e = let t : nat_le (length o) n ≡ true = grind (arith, nat_tests) in rw t refl

pub one_cut : (o : List ℕ) (n : ℕ) → n < length o → whole_in n (Octets o ∷ []) ≡ 0
one_cut o n h = let f : nat_le (length o) n ≡ false = grind (arith, nat_tests) in rw f refl

-- ---- one item later

taken_length : (n : ℕ) (xs : List ℕ) → n < length xs → length (take n xs) ≡ n
taken_length n xs h = let size = length-take n xs in omega arith

-- a sender that ends sends nothing
end_sent : (f : Option ConnectFault) (senders turns : ℕ) (items : List Item) (sent : List ℕ) (cs es : Counts) → HasSent f senders turns items sent cs
    → cs.left ≡ es.left + 1 → HasSent f senders turns (items ++ End ∷ []) sent es
end_sent None senders turns items sent cs es h l =
    let long = length-append items (End ∷ []) in
    let turned = h.1 in
    (h.0 ∙ sym (octets_end items), omega arith)
end_sent (Some (Write w)) senders turns items sent cs es h l =
    let long = length-append items (End ∷ []) in
    let turned = h.2 in
    (subst (λ o. w < length o) (sym (octets_end items)) h.0, h.1 ∙ ap (take w) (sym (octets_end items)), omega arith)
end_sent (Some TooManyTurns) senders turns items sent cs es h l = let none = h.3 in absurd (omega arith)
end_sent (Some Read) senders turns items sent cs es h l = absurd h
end_sent (Some (Header f)) senders turns items sent cs es h l = absurd h
end_sent (Some Memory) senders turns items sent cs es h l = absurd h

-- nor does an item that is dropped
drop_sent : (f : ConnectFault) (senders turns : ℕ) (items : List Item) (octets sent : List ℕ) (cs es : Counts) → HasSent (Some f) senders turns items sent cs
    → cs.left ≡ es.left + 1 → HasSent (Some f) senders turns (items ++ Octets octets ∷ []) sent es
drop_sent (Write w) senders turns items octets sent cs es h l =
    let long = length-append items (Octets octets ∷ []) in
    let more = length-append (octets_in items) octets in
    let turned = h.2 in
    let cut = h.0 in
    let less : w < length (octets_in items ++ octets) = omega arith in
    let within : w ≤ length (octets_in items) = omega arith in (
      subst (λ o. w < length o) (sym (octets_more items octets)) less,
      h.1 ∙ sym (take-append-le w (octets_in items) octets within) ∙ ap (take w) (sym (octets_more items octets)),
      omega arith,
    )
drop_sent TooManyTurns senders turns items octets sent cs es h l = let none = h.3 in absurd (omega arith)
drop_sent Read senders turns items octets sent cs es h l = absurd h
drop_sent (Header f) senders turns items octets sent cs es h l = absurd h
drop_sent Memory senders turns items octets sent cs es h l = absurd h

drop_whole : (f : ConnectFault) (senders turns : ℕ) (items : List Item) (octets sent : List ℕ) (cs es : Counts) → HasSent (Some f) senders turns items sent cs
    → cs.left ≡ es.left + 1 → whole_in (length sent) (items ++ Octets octets ∷ []) ≡ whole_in (length sent) items
drop_whole (Write w) senders turns items octets sent cs es h l =
    let cut = h.0 in
    let size : length sent ≡ w = ap length h.1 ∙ taken_length w (octets_in items) cut in
    whole_cut (length sent) items (Octets octets ∷ []) (omega arith)
drop_whole TooManyTurns senders turns items octets sent cs es h l = let none = h.3 in absurd (omega arith)
drop_whole Read senders turns items octets sent cs es h l = absurd h
drop_whole (Header f) senders turns items octets sent cs es h l = absurd h
drop_whole Memory senders turns items octets sent cs es h l = absurd h

all_but_last : (items : List Item) (octets : List ℕ) → but_last (items ++ Octets octets ∷ []) ≡ items
all_but_last items octets =
    let long = length-append items (Octets octets ∷ []) in
    let size : length (items ++ Octets octets ∷ []) - 1 ≡ length items = omega arith in
    ap (λ n. take n (items ++ Octets octets ∷ [])) size ∙ take-append-le (length items) items (Octets octets ∷ []) (omega arith) ∙ take_all (length items) items (omega arith)

-- octets go out behind all before, whole or not
go_out : (f : Option ConnectFault) (senders turns count : ℕ) (items : List Item) (octets sent : List ℕ) (cs ds es : Counts) → HasSent None senders turns items sent cs
    → cs.left ≡ ds.left + 1 → ds.written ≡ length sent → es.written ≡ ds.written + count → count ≤ length octets → ends_in items < senders → FirstFault f count (length octets) ds es
    → HasSent f senders turns (items ++ Octets octets ∷ []) (sent ++ take count octets) es
go_out None senders turns count items octets sent cs ds es h l w v within fewer k =
    let long = length-append items (Octets octets ∷ []) in
    let more = length-append sent (take count octets) in
    let some = length-take count octets in
    let turned = h.1 in
    let all = k.0 in
    let left = k.1 in
    let same : take count octets ≡ octets = take_all count octets (omega arith) in
    (ap (λ s. s ++ take count octets) h.0 ∙ ap (λ o. octets_in items ++ o) same ∙ sym (octets_more items octets), omega arith)
go_out (Some (Write written)) senders turns count items octets sent cs ds es h l w v within fewer k =
    let long = length-append items (Octets octets ∷ []) in
    let more = length-append sent (take count octets) in
    let whole = length-append (octets_in items) octets in
    let some = length-take count octets in
    let turned = h.1 in
    let cut = k.0 in
    let told = k.1 in
    let left = k.2 in
    let size : length sent ≡ length (octets_in items) = ap length h.0 in
    let at : written ≡ length (octets_in items) + count = omega arith in (
      subst (λ o. written < length o) (sym (octets_more items octets)) (omega arith),
      ap (λ s. s ++ take count octets) h.0 ∙ sym (take-append-add (octets_in items) octets count) ∙ ap (λ n. take n (octets_in items ++ octets)) (sym at) ∙ ap (take written) (sym (octets_more items octets)),
      omega arith,
    )
go_out (Some TooManyTurns) senders turns count items octets sent cs ds es h l w v within fewer k =
    let long = length-append items (Octets octets ∷ []) in
    let more = length-append sent (take count octets) in
    let whole = length-append (octets_in items) octets in
    let some = length-take count octets in
    let turned = h.1 in
    let cut = k.0 in
    let none = k.1 in
    let left = k.2 in
    let ends = ends_more items octets in
    let size : length sent ≡ length (octets_in items) = ap length h.0 in
    let at : length (sent ++ take count octets) ≡ length (octets_in items) + count = omega arith in (
      omega arith,
      subst (λ o. length (sent ++ take count octets) < length o) (sym (octets_more items octets)) (omega arith),
      ap (λ s. s ++ take count octets) h.0 ∙ sym (take-append-add (octets_in items) octets count) ∙ ap (λ n. take n (octets_in items ++ octets)) (sym at) ∙ ap (take (length (sent ++ take count octets))) (sym (octets_more items octets)),
      none,
      omega arith,
      rw (all_but_last items octets) (omega arith),
    )
go_out (Some Read) senders turns count items octets sent cs ds es h l w v within fewer k = absurd k
go_out (Some (Header f)) senders turns count items octets sent cs ds es h l w v within fewer k = absurd k
go_out (Some Memory) senders turns count items octets sent cs ds es h l w v within fewer k = absurd k

added : (f : Option ConnectFault) (count whole answers : ℕ) (octets : List ℕ) (ds es : Counts) → FirstFault f count (length octets) ds es → answers ≡ whole
    → answers_with f answers ≡ whole + whole_in count (Octets octets ∷ [])
added None count whole answers octets ds es k e = let one = one_whole octets count k.0 in omega arith
added (Some (Write w)) count whole answers octets ds es k e = let none = one_cut octets count k.0 in omega arith
added (Some TooManyTurns) count whole answers octets ds es k e = let none = one_cut octets count k.0 in omega arith
added (Some Read) count whole answers octets ds es k e = absurd k
added (Some (Header f)) count whole answers octets ds es k e = absurd k
added (Some Memory) count whole answers octets ds es k e = absurd k

go_whole : (f : Option ConnectFault) (count answers : ℕ) (items : List Item) (octets sent : List ℕ) (ds es : Counts) → sent ≡ octets_in items → count ≤ length octets
    → answers ≡ whole_in (length sent) items → FirstFault f count (length octets) ds es
    → answers_with f answers ≡ whole_in (length (sent ++ take count octets)) (items ++ Octets octets ∷ [])
go_whole f count answers items octets sent ds es e within is k =
    let more = length-append sent (take count octets) in
    let some = length-take count octets in
    let size : length sent ≡ length (octets_in items) = ap length e in
    let at : length (sent ++ take count octets) ≡ length (octets_in items) + count = omega arith in
    let all = ap (λ n. whole_in n (items ++ Octets octets ∷ [])) at ∙ whole_through count items (Octets octets ∷ []) in
    let before : answers ≡ whole_in (length (octets_in items)) items = is ∙ ap (λ n. whole_in n items) size in
    added f count (whole_in (length (octets_in items)) items) answers octets ds es k before ∙ sym all

at_most_one : (f : Option ConnectFault) (answers : ℕ) → answers_with f answers ≤ answers + 1
at_most_one None answers = omega arith
at_most_one (Some f) answers = omega arith

octets_item : (senders turns : ℕ) (items : List Item) (octets : List ℕ) (f : Option ConnectFault) (p q : Progress) (sent : List ℕ) (a b c : Option (List ℕ)) (cs ds es : Counts)
    → p.fault ≡ f → HasWritten senders turns items p sent cs → p.ended < senders → cs.left ≡ ds.left + 1 → ds.written ≡ cs.written → Appends a b sent
    → WritesOctets p.fault octets p q b c ds es
    → (now : List ℕ) × Appends a c now × HasWritten senders turns (items ++ Octets octets ∷ []) q now es
octets_item senders turns items octets (Some f) p q sent a b c cs ds es e h fewer l w out k =
    let dropped : WritesOctets (Some f) octets p q b c ds es = subst (λ g. WritesOctets g octets p q b c ds es) e k in
    let went : HasSent (Some f) senders turns items sent cs = subst (λ g. HasSent g senders turns items sent cs) e h.went in
    let is = dropped.0 in
    let gone = dropped.1.1 in
    let left = dropped.1.2 in
    let was = h.written in
    let long = length-append items (Octets octets ∷ []) in
    let ends = ends_more items octets in
    let count = h.ended in
    let few = h.few in
    let spent = h.spent in (
      sent,
      subst (Appends a c) (append-nil sent) (Appends-trans a b c sent [] out dropped.1.0),
      subst (λ q. HasWritten senders turns (items ++ Octets octets ∷ []) q sent es) (sym is) (record {
        went = subst (λ g. HasSent g senders turns (items ++ Octets octets ∷ []) sent es) (sym e) (drop_sent f senders turns items octets sent cs es went (omega arith));
        written = omega arith;
        answers = h.answers ∙ sym (drop_whole f senders turns items octets sent cs es went (omega arith));
        few = omega arith;
        ended = omega arith;
        spent = omega arith;
      }),
    )
octets_item senders turns items octets None p q sent a b c cs ds es e h fewer l w out k =
    let gone : WritesOctets None octets p q b c ds es = subst (λ g. WritesOctets g octets p q b c ds es) e k in
    let went : HasSent None senders turns items sent cs = subst (λ g. HasSent g senders turns items sent cs) e h.went in
    let count = gone.0 in
    let within = gone.1 in
    let written = gone.3 in
    let left = gone.4 in
    let ended = gone.5 in
    let answers = gone.6 in
    let was = h.written in
    let long = length-append items (Octets octets ∷ []) in
    let ends = ends_more items octets in
    let counted = h.ended in
    let few = h.few in
    let spent = h.spent in
    let one = at_most_one q.fault p.answers in
    let more = length-append sent (take count octets) in
    let some = length-take count octets in (
      sent ++ take count octets,
      Appends-trans a b c sent (take count octets) out gone.2,
      record {
        went = go_out q.fault senders turns count items octets sent cs ds es went l (w ∙ was) written within (omega arith) gone.7;
        written = omega arith;
        answers = answers ∙ go_whole q.fault count p.answers items octets sent ds es went.0 within h.answers gone.7;
        few = omega arith;
        ended = omega arith;
        spent = omega arith;
      },
    )

-- what is known of the items then
next_item : (senders turns : ℕ) (items : List Item) (item : Item) (p q : Progress) (sent : List ℕ) (a b c : Option (List ℕ)) (cs ds es : Counts)
    → HasWritten senders turns items p sent cs → p.ended < senders → cs.left ≡ ds.left + 1 → ds.written ≡ cs.written → Appends a b sent → WritesItem item p q b c ds es
    → (now : List ℕ) × Appends a c now × HasWritten senders turns (items ++ item ∷ []) q now es
next_item senders turns items End p q sent a b c cs ds es h fewer l w out k =
    let is = k.0 in
    let left = k.1.2 in
    let gone = k.1.1 in
    let was = h.written in
    let long = length-append items (End ∷ []) in
    let ends = ends_end items in
    let count = h.ended in
    let few = h.few in
    let spent = h.spent in (
      sent,
      subst (Appends a c) (append-nil sent) (Appends-trans a b c sent [] out k.1.0),
      subst (λ q. HasWritten senders turns (items ++ End ∷ []) q sent es) (sym is) (record {
        went = end_sent p.fault senders turns items sent cs es h.went (omega arith);
        written = omega arith;
        answers = h.answers ∙ sym (whole_end (length sent) items);
        few = omega arith;
        ended = omega arith;
        spent = omega arith;
      }),
    )
next_item senders turns items (Octets octets) p q sent a b c cs ds es h fewer l w out k =
    octets_item senders turns items octets p.fault p q sent a b c cs ds es refl h fewer l w out k

pub items_snoc : (more : List (Tagged Item)) (t : Tagged Item) → items_of (more ++ t ∷ []) ≡ items_of more ++ t.item ∷ []
items_snoc [] t = refl
items_snoc (u ∷ more) t = ap (λ x. u.item ∷ x) (items_snoc more t)

pub begun : (senders turns : ℕ) (a : Option (List ℕ)) (old : List (Tagged Item)) (p : Progress) (cs : Counts) → p ≡ record { ended = 0; answers = 0; fault = None }
    → cs.left ≡ turns → cs.written ≡ 0 → HasTaken senders turns a a old old p cs
begun senders turns a old p cs e l w = record {
  more = [];
  sent = [];
  taken = sym (append-nil old);
  out = Appends-nil a;
  so = subst (λ p. HasWritten senders turns [] p [] cs) (sym e) (record { went = (refl, omega arith); written = w; answers = refl; few = omega arith; ended = refl; spent = omega arith });
}

-- one more was taken
pub goes_on : (senders turns : ℕ) (a b c : Option (List ℕ)) (old mid new : List (Tagged Item)) (t : Tagged Item) (p q : Progress) (cs ds es : Counts)
    → HasTaken senders turns a b old mid p cs → p.ended < senders → cs.left ≡ ds.left + 1 → ds.written ≡ cs.written → new ≡ mid ++ t ∷ [] → WritesItem t.item p q b c ds es
    → HasTaken senders turns a c old new q es
goes_on senders turns a b c old mid new t p q cs ds es h fewer l w e k =
    let on = next_item senders turns (items_of h.more) t.item p q h.sent a b c cs ds es h.so fewer l w h.out k in
    record {
      more = h.more ++ t ∷ [];
      sent = on.0;
      taken = e ∙ ap (λ x. x ++ t ∷ []) h.taken ∙ append_assoc old h.more (t ∷ []);
      out = on.1;
      so = subst (λ x. HasWritten senders turns x q on.0 es) (sym (items_snoc h.more t)) on.2;
    }

octets_fewer : (n : ℕ) (items : List Item) → length (octets_in (take n items)) ≤ length (octets_in items)
octets_fewer zero items = omega arith
octets_fewer (suc n) [] = omega arith
octets_fewer (suc n) (Octets o ∷ items) =
    let on = octets_fewer n items in
    let some = length-append o (octets_in (take n items)) in
    let all = length-append o (octets_in items) in
    omega arith
octets_fewer (suc n) (End ∷ items) = octets_fewer n items

last_out : (f : Option ConnectFault) (missing : Bool) (senders turns : ℕ) (items : List Item) (sent : List ℕ) (cs : Counts) → HasSent f senders turns items sent cs
    → GoesOut (last_fault f missing) items sent
last_out None true senders turns items sent cs h =
    let size = ap length h.0 in
    let fewer = octets_fewer (length items - 1) items in
    (([], append-nil sent ∙ h.0), omega arith)
last_out None false senders turns items sent cs h = h.0
last_out (Some (Write w)) missing senders turns items sent cs h = (h.0, h.1)
last_out (Some TooManyTurns) missing senders turns items sent cs h = (subst (λ s. IsPrefix s (octets_in items)) (sym h.2) (drop (length sent) (octets_in items), take-append-drop (length sent) (octets_in items)), h.5)
last_out (Some Read) missing senders turns items sent cs h = absurd h
last_out (Some (Header f)) missing senders turns items sent cs h = absurd h
last_out (Some Memory) missing senders turns items sent cs h = absurd h

last_ends : (f : Option ConnectFault) (missing : Bool) (senders turns : ℕ) (items : List Item) (sent : List ℕ) (cs : Counts) → HasSent f senders turns items sent cs
    → ends_in items ≤ senders → (missing ≡ true → (ends_in items < senders) × (cs.left ≡ 0)) → (missing ≡ false → senders ≤ ends_in items)
    → EndsWithSenders (last_fault f missing) senders turns items sent
last_ends None true senders turns items sent cs h few m n =
    let turned = h.1 in
    let left = (m refl).1 in
    ((m refl).0, omega arith)
last_ends None false senders turns items sent cs h few m n = let all = n refl in omega arith
last_ends (Some (Write w)) true senders turns items sent cs h few m n =
    let turned = h.2 in
    let left = (m refl).1 in
    inr (omega arith)
last_ends (Some (Write w)) false senders turns items sent cs h few m n = let all = n refl in inl (omega arith)
last_ends (Some TooManyTurns) missing senders turns items sent cs h few m n = (h.0, h.4)
last_ends (Some Read) missing senders turns items sent cs h few m n = absurd h
last_ends (Some (Header f)) missing senders turns items sent cs h few m n = absurd h
last_ends (Some Memory) missing senders turns items sent cs h few m n = absurd h

-- no more is taken: every sender has ended, or no turn is left
pub stops : (senders turns : ℕ) (a b : Option (List ℕ)) (old new : List (Tagged Item)) (p : Progress) (end : WriteEnd) (cs : Counts)
    → HasTaken senders turns a b old new p cs → p.ended ≤ senders → (senders ≤ p.ended) ⊎ (cs.left ≡ 0)
    → end.fault ≡ last_fault p.fault (nat_lt p.ended senders) → end.answers ≡ p.answers → end.ended ≡ p.ended → TakesAndWrites end senders turns a b old new
stops senders turns a b old new p end cs h few why fault answers counted =
    let ended = h.so.ended in
    let spent = h.so.spent in
    let missing : nat_lt p.ended senders ≡ true → (ends_in (items_of h.more) < senders) × (cs.left ≡ 0) =
    λ t. (let less : p.ended < senders = grind (arith, nat_tests) in elim why [ inl k ↦ absurd (omega arith) | inr k ↦ (omega arith, k) ]) in
    let all : nat_lt p.ended senders ≡ false → senders ≤ ends_in (items_of h.more) =
    λ f. (let most : senders ≤ p.ended = grind (arith, nat_tests) in omega arith) in (
      h.more,
      h.sent,
      h.taken,
      h.out,
      record {
        sent = subst (λ g. GoesOut g (items_of h.more) h.sent) (sym fault) (last_out p.fault (nat_lt p.ended senders) senders turns (items_of h.more) h.sent cs h.so.went);
        ended = subst (λ g. EndsWithSenders g senders turns (items_of h.more) h.sent) (sym fault)
            (last_ends p.fault (nat_lt p.ended senders) senders turns (items_of h.more) h.sent cs h.so.went (omega arith) missing all);
        answers = answers ∙ h.so.answers;
        turned = omega arith;
        few = omega arith;
        counted = counted ∙ sym ended;
      },
    )

octets_left : (f : Option ConnectFault) (octets : List ℕ) (p q : Progress) (b c : Option (List ℕ)) (ds es : Counts) → WritesOctets f octets p q b c ds es → es.left ≤ ds.left
octets_left (Some f) octets p q b c ds es k = let e = k.1.2 in omega arith
octets_left None octets p q b c ds es k = k.4

-- turns only go
pub left_by : (item : Item) (p q : Progress) (b c : Option (List ℕ)) (ds es : Counts) → WritesItem item p q b c ds es → es.left ≤ ds.left
left_by End p q b c ds es k = let e = k.1.2 in omega arith
left_by (Octets octets) p q b c ds es k = octets_left p.fault octets p q b c ds es k

-- What was gathered of a lane: one item later, and once it went out.
use Rattle.std.proofs.Common.{◌≡◌, ℕ, ◌+◌, ◌-◌, ◌≤◌, ◌<◌, ◌⊎◌, inl, inr, nat_le, nat_lt, true, false, List, [], ◌∷◌, ◌++◌, length, take, Option, None, Some, refl, sym, ap, subst, ◌∙◌, append_assoc, arith, length-append, length-take}
use Rattle.std.specs.Io.KnownBytes.{Appends}
use Rattle.std.proofs.KnownBytes.{Appends-nil, Appends-trans}
use Rattle.std.proofs.lemmas.Bool.Decides.{nat_tests}
use Rattle.std.proofs.lemmas.List.{append-nil, take_all}
use Rattle.std.proofs.lemmas.List.Sums.{count_by-le-length, sum_by-append}
use Rattle.std.proofs.Math.Seq.{take-append-add}
use Rattle.dcc_lane.specs.declared.rule.Tagged.{Tagged}
use Rattle.dcc_connect.specs.declared.gathering.Gathered.{Gathered}
use Rattle.dcc_connect.specs.declared.writing.Item.{Item}
use Rattle.dcc_connect.specs.declared.writing.Item.TheVariants.{Octets, End}
use Rattle.dcc_connect.specs.declared.writing.Progress.{Progress}
use Rattle.dcc_connect.specs.declared.writing.WriteEnd.{WriteEnd}
use Rattle.dcc_connect.specs.declared.fault.ConnectFault.{ConnectFault}
use Rattle.dcc_connect.specs.declared.fault.ConnectFault.TheVariants.{Read, Write, TooManyTurns, Header, Memory}
use Rattle.dcc_connect.specs.Writing.{items_of, octets_in, ends_in, whole_in, TakesAndWrites}
use Rattle.dcc_connect.specs.inner.Sends.{Counts}
use Rattle.dcc_connect.specs.inner.Items.{Stays, WritesOctets, WritesItem, HasSent, HasTaken, last_fault}
use Rattle.dcc_connect.specs.inner.Gathers.{within, Flushes, MayFlush, GathersOctets, Gathers, HasGathered, HasCome}
use Rattle.dcc_connect.proofs.Items.{cases_le, octets_end, octets_more, ends_end, ends_more, whole_end, whole_cut, whole_through, one_whole, one_cut, items_snoc, begun, goes_on, stops, left_by}

pub within_few : (count : ℕ) (ends : List ℕ) → within count ends ≤ length ends
within_few count ends = count_by-le-length (λ end. nat_le end count) ends

one_within : (end count : ℕ) → end ≤ count → within count (end ∷ []) ≡ 1
one_within end count h = let t : nat_le end count ≡ true = grind (arith, nat_tests) in rw t refl

one_beyond : (end count : ℕ) → count < end → within count (end ∷ []) ≡ 0
one_beyond end count h = let f : nat_le end count ≡ false = grind (arith, nat_tests) in rw f refl

within_more : (count : ℕ) (ends : List ℕ) (end : ℕ) → within count (ends ++ end ∷ []) ≡ within count ends + within count (end ∷ [])
within_more count ends end = sum_by-append _ ends (end ∷ [])

none_within : (answers : ℕ) → answers ≡ answers + 0
none_within answers = omega arith

-- ---- from octets that are gathered to none, and back

pub to_taken : (f : Option ConnectFault) (senders turns : ℕ) (a b : Option (List ℕ)) (old new : List (Tagged Item)) (p : Progress) (cs : Counts)
    → p.fault ≡ f → HasCome f senders turns a b old new p cs [] [] → HasTaken senders turns a b old new p cs
to_taken None senders turns a b old new p cs e h = record {
  more = h.more;
  sent = h.sent;
  taken = h.taken;
  out = h.out;
  so = let few = h.few in let first = h.answers 0 (omega arith) in record {
    went = subst (λ f. HasSent f senders turns (items_of h.more) h.sent cs) (sym e) (sym (append-nil h.sent) ∙ h.joined, h.turned);
    written = h.written;
    answers = none_within p.answers ∙ sym first ∙ ap (λ n. whole_in n (items_of h.more)) (sym (none_within (length h.sent)));
    few = omega arith;
    ended = h.ended;
    spent = h.spent;
  };
}
to_taken (Some f) senders turns a b old new p cs e h = h.2

pub to_come : (f : Option ConnectFault) (senders turns : ℕ) (a b : Option (List ℕ)) (old new : List (Tagged Item)) (p : Progress) (cs : Counts)
    → p.fault ≡ f → HasTaken senders turns a b old new p cs → HasCome f senders turns a b old new p cs [] []
to_come None senders turns a b old new p cs e h =
    let went : HasSent None senders turns (items_of h.more) h.sent cs = subst (λ f. HasSent f senders turns (items_of h.more) h.sent cs) e h.so.went in
    let few = h.so.few in
    record {
      more = h.more;
      sent = h.sent;
      taken = h.taken;
      out = h.out;
      fault = e;
      joined = append-nil h.sent ∙ went.0;
      turned = went.1;
      written = h.so.written;
      answers = λ count fits. (let none : length h.sent + count ≡ length h.sent = omega arith in ap (λ n. whole_in n (items_of h.more)) none ∙ sym h.so.answers ∙ none_within p.answers);
      bound = λ count fits. refl;
      few = omega arith;
      ended = h.so.ended;
      spent = h.so.spent;
    }
to_come (Some f) senders turns a b old new p cs e h = (refl, refl, h)

pub come_begun : (f : Option ConnectFault) (senders turns : ℕ) (a : Option (List ℕ)) (old : List (Tagged Item)) (p : Progress) (cs : Counts)
    → p.fault ≡ f → p ≡ record { ended = 0; answers = 0; fault = None } → cs.left ≡ turns → cs.written ≡ 0 → HasCome f senders turns a a old old p cs [] []
come_begun f senders turns a old p cs e is l w = to_come f senders turns a a old old p cs e (begun senders turns a old p cs is l w)

-- ---- what was gathered goes out

left_same : (f : Option ConnectFault) (senders turns : ℕ) (items : List Item) (sent : List ℕ) (cs es : Counts) → cs.left ≡ es.left
    → HasSent f senders turns items sent cs → HasSent f senders turns items sent es
left_same None senders turns items sent cs es e h = let turned = h.1 in (h.0, omega arith)
left_same (Some (Write w)) senders turns items sent cs es e h = let turned = h.2 in (h.0, h.1, omega arith)
left_same (Some TooManyTurns) senders turns items sent cs es e h = (h.0, h.1, h.2, sym e ∙ h.3, h.4, h.5)
left_same (Some Read) senders turns items sent cs es e h = absurd h
left_same (Some (Header f)) senders turns items sent cs es e h = absurd h
left_same (Some Memory) senders turns items sent cs es e h = absurd h

-- a step that takes as much of the turns and writes as much, where more turns were left before and after
pub come_flushed : (f : Option ConnectFault) (senders turns k : ℕ) (a b c : Option (List ℕ)) (old new : List (Tagged Item)) (p q : Progress) (cs ds es fs : Counts) (octets ends : List ℕ)
    → p.fault ≡ f → HasCome f senders turns a b old new p cs octets ends → cs.left ≡ ds.left + k → cs.written ≡ ds.written → fs.left ≡ es.left + k → fs.written ≡ es.written
    → Flushes octets ends p q b c ds es → HasCome q.fault senders turns a c old new q fs [] []
come_flushed None senders turns k a b c old new p q cs ds es fs octets ends e h l w m v gone =
    let count = gone.0 in
    let fits = gone.1 in
    let written = gone.3 in
    let left = gone.4 in
    let ended = gone.5 in
    let answers = gone.6 in
    let few = within_few count ends in
    let at = h.answers count fits in
    let some = length-take count octets in
    let long = length-append h.sent (take count octets) in
    let all = length-append h.sent octets in
    let whole = ap length h.joined in
    let turned = h.turned in
    let was = h.written in
    let fewer = h.few in
    let ends_are = h.ended in
    let spent = h.spent in
    let size : length (h.sent ++ take count octets) ≡ length h.sent + count = omega arith in
    let out = Appends-trans a b c h.sent (take count octets) h.out gone.2 in
    elim gone.7 [
      | inl done ↦ (
          let full = done.1 in
          let turns_are = done.2 in
          let same : take count octets ≡ octets = take_all count octets (omega arith) in
          to_come q.fault senders turns a c old new q fs refl (record {
            more = h.more;
            sent = h.sent ++ take count octets;
            taken = h.taken;
            out = out;
            so = record {
              went = subst (λ f. HasSent f senders turns (items_of h.more) (h.sent ++ take count octets) fs) (sym (done.0 ∙ e)) (ap (λ o. h.sent ++ o) same ∙ h.joined, omega arith);
              written = omega arith;
              answers = answers ∙ sym at ∙ ap (λ n. whole_in n (items_of h.more)) (sym size);
              few = omega arith;
              ended = omega arith;
              spent = omega arith;
            };
          }))
      | inr cut ↦ (
          let short = cut.1 in
          let turns_are = cut.2 in
          let told : es.written ≡ length h.sent + count = omega arith in
          to_come q.fault senders turns a c old new q fs refl (record {
            more = h.more;
            sent = h.sent ++ take count octets;
            taken = h.taken;
            out = out;
            so = record {
              went = subst (λ f. HasSent f senders turns (items_of h.more) (h.sent ++ take count octets) fs) (sym cut.0) (
                omega arith,
                sym (take-append-add h.sent octets count) ∙ ap (λ n. take n (h.sent ++ octets)) (sym told) ∙ ap (take es.written) h.joined,
                omega arith,
              );
              written = omega arith;
              answers = answers ∙ sym at ∙ ap (λ n. whole_in n (items_of h.more)) (sym size);
              few = omega arith;
              ended = omega arith;
              spent = omega arith;
            };
          }))
    ]
come_flushed (Some f) senders turns k a b c old new p q cs ds es fs octets ends e h l w m v gone =
    let taken = h.2 in
    let count = gone.0 in
    let fits = gone.1 in
    let written = gone.3 in
    let left = gone.4 in
    let ended = gone.5 in
    let answers = gone.6 in
    let none : length octets ≡ 0 = ap length h.0 in
    let empty : within count ends ≡ 0 = ap (within count) h.1 in
    let nothing : take count octets ≡ [] = ap (take count) h.0 ∙ take_all count [] (omega arith) in
    let out : Appends b c [] = subst (Appends b c) nothing gone.2 in
    let was = taken.so.written in
    let few = taken.so.few in
    let spent = taken.so.spent in
    let counted = taken.so.ended in
    elim gone.7 [
      | inl done ↦ (
          let turns_are = done.2 in
          let same : q.answers ≡ p.answers = omega arith in
          to_come q.fault senders turns a c old new q fs refl (record {
            more = taken.more;
            sent = taken.sent;
            taken = taken.taken;
            out = subst (Appends a c) (append-nil taken.sent) (Appends-trans a b c taken.sent [] taken.out out);
            so = record {
              went = subst (λ f. HasSent f senders turns (items_of taken.more) taken.sent fs) (sym done.0) (left_same p.fault senders turns (items_of taken.more) taken.sent cs fs (omega arith) taken.so.went);
              written = omega arith;
              answers = same ∙ taken.so.answers;
              few = omega arith;
              ended = omega arith;
              spent = omega arith;
            };
          }))
      | inr cut ↦ (let short = cut.1 in absurd (omega arith))
    ]

come_same : (f : Option ConnectFault) (senders turns : ℕ) (a b c : Option (List ℕ)) (old new : List (Tagged Item)) (p : Progress) (cs fs : Counts) (octets ends : List ℕ)
    → HasCome f senders turns a b old new p cs octets ends → Appends b c [] → cs.left ≡ fs.left → cs.written ≡ fs.written → HasCome f senders turns a c old new p fs octets ends
come_same None senders turns a b c old new p cs fs octets ends h out l w =
    let turned = h.turned in
    let spent = h.spent in
    record {
      more = h.more;
      sent = h.sent;
      taken = h.taken;
      out = subst (Appends a c) (append-nil h.sent) (Appends-trans a b c h.sent [] h.out out);
      fault = h.fault;
      joined = h.joined;
      turned = omega arith;
      written = sym w ∙ h.written;
      answers = h.answers;
      bound = h.bound;
      few = h.few;
      ended = h.ended;
      spent = omega arith;
    }
come_same (Some f) senders turns a b c old new p cs fs octets ends h out l w =
    let taken = h.2 in
    let spent = taken.so.spent in (
      h.0,
      h.1,
      record {
        more = taken.more;
        sent = taken.sent;
        taken = taken.taken;
        out = subst (Appends a c) (append-nil taken.sent) (Appends-trans a b c taken.sent [] taken.out out);
        so = record {
          went = left_same p.fault senders turns (items_of taken.more) taken.sent cs fs l taken.so.went;
          written = sym w ∙ taken.so.written;
          answers = taken.so.answers;
          few = taken.so.few;
          ended = taken.so.ended;
          spent = omega arith;
        };
      },
    )

-- or stays
pub come_may : (senders turns k : ℕ) (a b c : Option (List ℕ)) (old new : List (Tagged Item)) (p q : Progress) (cs ds es fs : Counts) (g h : Gathered)
    → HasCome p.fault senders turns a b old new p cs g.octets.items g.ends.items → cs.left ≡ ds.left + k → cs.written ≡ ds.written → fs.left ≡ es.left + k → fs.written ≡ es.written
    → MayFlush g h p q b c ds es → HasCome q.fault senders turns a c old new q fs h.octets.items h.ends.items
come_may senders turns k a b c old new p q cs ds es fs g h was l w m v may = elim may [
  | inl stays ↦ (
      let gone = stays.3 in
      let written = gone.1 in
      let left = gone.2 in
      let same : HasCome p.fault senders turns a c old new p fs g.octets.items g.ends.items = come_same p.fault senders turns a b c old new p cs fs g.octets.items g.ends.items was gone.0 (omega arith) (omega arith) in
      subst (λ ends. HasCome q.fault senders turns a c old new q fs h.octets.items ends) (sym stays.1)
      (subst (λ octets. HasCome q.fault senders turns a c old new q fs octets g.ends.items) (sym stays.0) (subst (λ (r : Progress). HasCome r.fault senders turns a c old new r fs g.octets.items g.ends.items) (sym stays.2) same)))
  | inr goes ↦ (
      let none = come_flushed p.fault senders turns k a b c old new p q cs ds es fs g.octets.items g.ends.items refl was l w m v goes.2 in
      subst (λ ends. HasCome q.fault senders turns a c old new q fs h.octets.items ends) (sym goes.1) (subst (λ octets. HasCome q.fault senders turns a c old new q fs octets []) (sym goes.0) none))
]

-- ---- one item later

come_end : (f : Option ConnectFault) (senders turns : ℕ) (a b c : Option (List ℕ)) (old mid new : List (Tagged Item)) (t : Tagged Item) (p q : Progress) (cs ds es : Counts) (octets ends : List ℕ)
    → p.fault ≡ f → HasCome f senders turns a b old mid p cs octets ends → p.ended < senders → cs.left ≡ ds.left + 1 → ds.written ≡ cs.written → new ≡ mid ++ t ∷ [] → t.item ≡ End
    → WritesItem End p q b c ds es → HasCome f senders turns a c old new q es octets ends
come_end None senders turns a b c old mid new t p q cs ds es octets ends e h fewer l w is at k =
    let left = k.1.2 in
    let written = k.1.1 in
    let items : items_of (h.more ++ t ∷ []) ≡ items_of h.more ++ End ∷ [] = items_snoc h.more t ∙ ap (λ i. items_of h.more ++ i ∷ []) at in
    let long = length-append (items_of h.more) (End ∷ []) in
    let longer = ap length items in
    let counted = ends_end (items_of h.more) in
    let counts = ap ends_in items in
    let turned = h.turned in
    let was = h.written in
    let few = h.few in
    let ended = h.ended in
    let spent = h.spent in
    let answers : q.answers ≡ p.answers = ap (λ (r : Progress). r.answers) k.0 in
    let one : q.ended ≡ p.ended + 1 = ap (λ (r : Progress). r.ended) k.0 in
    record {
      more = h.more ++ t ∷ [];
      sent = h.sent;
      taken = is ∙ ap (λ x. x ++ t ∷ []) h.taken ∙ append_assoc old h.more (t ∷ []);
      out = subst (Appends a c) (append-nil h.sent) (Appends-trans a b c h.sent [] h.out k.1.0);
      fault = ap (λ (r : Progress). r.fault) k.0 ∙ e;
      joined = h.joined ∙ sym (octets_end (items_of h.more)) ∙ ap octets_in (sym items);
      turned = omega arith;
      written = omega arith;
      answers = λ count fits. (
          let before = h.answers count fits in
          ap (whole_in (length h.sent + count)) items ∙ whole_end (length h.sent + count) (items_of h.more) ∙ before ∙ ap (λ n. n + within count ends) (sym answers));
      bound = h.bound;
      few = omega arith;
      ended = omega arith;
      spent = omega arith;
    }
come_end (Some f) senders turns a b c old mid new t p q cs ds es octets ends e h fewer l w is at k =
    (h.0, h.1, goes_on senders turns a b c old mid new t p q cs ds es h.2 fewer l w is (subst (λ item. WritesItem item p q b c ds es) (sym at) k))

-- of the octets that are gathered now the first so many hold so many whole items
joined_whole : (count more : ℕ) (sent octets o ends : List ℕ) (items : List Item) → sent ++ octets ≡ octets_in items → count ≤ length (octets ++ o)
    → ((n : ℕ) → n ≤ length octets → whole_in (length sent + n) items ≡ more + within n ends) → ((n : ℕ) → length octets ≤ n → within n ends ≡ within (length octets) ends)
    → whole_in (length sent + count) (items ++ Octets o ∷ []) ≡ more + within count (ends ++ length (octets ++ o) ∷ [])
joined_whole count more sent octets o ends items e fits answers bound =
    let both = length-append octets o in
    let all = length-append sent octets in
    let whole = ap length e in
    let snoc = within_more count ends (length (octets ++ o)) in
    elim (cases_le (length octets) count) [
      | inl far ↦ (
          let k = count - length octets in
          let at : length sent + count ≡ length (octets_in items) + (count - length octets) = omega arith in
          let through = ap (λ n. whole_in n (items ++ Octets o ∷ [])) at ∙ whole_through (count - length octets) items (Octets o ∷ []) in
          let before = answers (length octets) (omega arith) in
          let size : length (octets_in items) ≡ length sent + length octets = omega arith in
          let whole_before = ap (λ n. whole_in n items) size in
          let within_before = bound count far in
          elim (cases_le (length o) (count - length octets)) [
            | inl k ↦ (
                let one = one_whole o (count - length octets) (omega arith) in
                let last = one_within (length (octets ++ o)) count (omega arith) in
                omega arith)
            | inr k ↦ (
                let none = one_cut o (count - length octets) k in
                let last = one_beyond (length (octets ++ o)) count (omega arith) in
                omega arith)
          ])
      | inr near ↦ (
          let cut = whole_cut (length sent + count) items (Octets o ∷ []) (omega arith) in
          let before = answers count (omega arith) in
          let last = one_beyond (length (octets ++ o)) count (omega arith) in
          omega arith)
    ]

come_joined : (senders turns : ℕ) (a b c : Option (List ℕ)) (old mid new : List (Tagged Item)) (t : Tagged Item) (p : Progress) (cs ds es : Counts) (octets ends o : List ℕ)
    → HasGathered turns a b old mid p cs octets ends → cs.left ≡ ds.left + 1 → ds.written ≡ cs.written → new ≡ mid ++ t ∷ [] → t.item ≡ Octets o → Stays b c ds es
    → HasGathered turns a c old new p es (octets ++ o) (ends ++ length (octets ++ o) ∷ [])
come_joined senders turns a b c old mid new t p cs ds es octets ends o h l w is at k =
    let left = k.2 in
    let written = k.1 in
    let items : items_of (h.more ++ t ∷ []) ≡ items_of h.more ++ Octets o ∷ [] = items_snoc h.more t ∙ ap (λ i. items_of h.more ++ i ∷ []) at in
    let long = length-append (items_of h.more) (Octets o ∷ []) in
    let longer = ap length items in
    let counted = ends_more (items_of h.more) o in
    let counts = ap ends_in items in
    let one = length-append ends (length (octets ++ o) ∷ []) in
    let both = length-append octets o in
    let turned = h.turned in
    let was = h.written in
    let few = h.few in
    let ended = h.ended in
    let spent = h.spent in
    record {
      more = h.more ++ t ∷ [];
      sent = h.sent;
      taken = is ∙ ap (λ x. x ++ t ∷ []) h.taken ∙ append_assoc old h.more (t ∷ []);
      out = subst (Appends a c) (append-nil h.sent) (Appends-trans a b c h.sent [] h.out k.0);
      fault = h.fault;
      joined = sym (append_assoc h.sent octets o) ∙ ap (λ x. x ++ o) h.joined ∙ sym (octets_more (items_of h.more) o) ∙ ap octets_in (sym items);
      turned = omega arith;
      written = omega arith;
      answers = λ count fits. ap (whole_in (length h.sent + count)) items ∙ joined_whole count p.answers h.sent octets o ends (items_of h.more) h.joined fits h.answers h.bound;
      bound = λ count far. (
          let snoc = within_more count ends (length (octets ++ o)) in
          let last = within_more (length (octets ++ o)) ends (length (octets ++ o)) in
          let here = one_within (length (octets ++ o)) count far in
          let there = one_within (length (octets ++ o)) (length (octets ++ o)) (omega arith) in
          let before = h.bound count (omega arith) in
          let after = h.bound (length (octets ++ o)) (omega arith) in
          omega arith);
      few = omega arith;
      ended = omega arith;
      spent = omega arith;
    }

come_octets : (senders turns : ℕ) (a b c : Option (List ℕ)) (old mid new : List (Tagged Item)) (t : Tagged Item) (o : List ℕ) (p q : Progress) (cs ds es : Counts) (g h : Gathered)
    → HasCome p.fault senders turns a b old mid p cs g.octets.items g.ends.items → p.ended < senders → cs.left ≡ ds.left + 1 → ds.written ≡ cs.written → new ≡ mid ++ t ∷ [] → t.item ≡ Octets o
    → GathersOctets o g h p q b c ds es → HasCome q.fault senders turns a c old new q es h.octets.items h.ends.items
come_octets senders turns a b c old mid new t o p q cs ds es g h was fewer l w is at k = elim k [
  | inl joins ↦ (
      let now : HasGathered turns a b old mid p cs g.octets.items g.ends.items = subst (λ f. HasCome f senders turns a b old mid p cs g.octets.items g.ends.items) joins.0 was in
      let more = come_joined senders turns a b c old mid new t p cs ds es g.octets.items g.ends.items o now l w is at joins.3 in
      let none : HasCome p.fault senders turns a c old new p es (g.octets.items ++ o) (g.ends.items ++ length (g.octets.items ++ o) ∷ []) =
      subst (λ f. HasCome f senders turns a c old new p es (g.octets.items ++ o) (g.ends.items ++ length (g.octets.items ++ o) ∷ [])) (sym joins.0) more in
      subst (λ (r : Progress). HasCome r.fault senders turns a c old new r es h.octets.items h.ends.items) (sym joins.2)
      (subst (λ ends. HasCome p.fault senders turns a c old new p es h.octets.items ends) (sym joins.1.1)
      (subst (λ octets. HasCome p.fault senders turns a c old new p es octets (g.ends.items ++ length (g.octets.items ++ o) ∷ [])) (sym joins.1.0) none)))
  | inr goes ↦ (
      let r = goes.0 in
      let mid_out = goes.1 in
      let counts = goes.2 in
      let fs : Counts = record { left = counts.left + 1; written = counts.written } in
      let flushed = come_flushed p.fault senders turns 1 a b mid_out old mid p r cs ds counts fs g.octets.items g.ends.items refl was l (sym w) refl refl goes.5 in
      let taken = to_taken r.fault senders turns a mid_out old mid r fs refl flushed in
      let ended = goes.5.5 in
      let writes : WritesItem t.item r q mid_out c counts es = subst (λ item. WritesItem item r q mid_out c counts es) (sym at) goes.6 in
      let on = goes_on senders turns a mid_out c old mid new t r q fs counts es taken (omega arith) refl refl is writes in
      let none = to_come q.fault senders turns a c old new q es refl on in
      subst (λ ends. HasCome q.fault senders turns a c old new q es h.octets.items ends) (sym goes.4) (subst (λ octets. HasCome q.fault senders turns a c old new q es octets []) (sym goes.3) none))
]

come_this : (item : Item) (senders turns : ℕ) (a b c : Option (List ℕ)) (old mid new : List (Tagged Item)) (t : Tagged Item) (p q : Progress) (cs ds es : Counts) (g h : Gathered)
    → HasCome p.fault senders turns a b old mid p cs g.octets.items g.ends.items → p.ended < senders → cs.left ≡ ds.left + 1 → ds.written ≡ cs.written → new ≡ mid ++ t ∷ [] → t.item ≡ item
    → Gathers item g h p q b c ds es → HasCome q.fault senders turns a c old new q es h.octets.items h.ends.items
come_this End senders turns a b c old mid new t p q cs ds es g h was fewer l w is at k =
    let on = come_end p.fault senders turns a b c old mid new t p q cs ds es g.octets.items g.ends.items refl was fewer l w is at k.2 in
    let fault : q.fault ≡ p.fault = ap (λ (r : Progress). r.fault) k.2.0 in
    subst (λ f. HasCome f senders turns a c old new q es h.octets.items h.ends.items) (sym fault)
    (subst (λ ends. HasCome p.fault senders turns a c old new q es h.octets.items ends) (sym k.1) (subst (λ octets. HasCome p.fault senders turns a c old new q es octets g.ends.items) (sym k.0) on))
come_this (Octets o) senders turns a b c old mid new t p q cs ds es g h was fewer l w is at k = come_octets senders turns a b c old mid new t o p q cs ds es g h was fewer l w is at k

-- one more was taken
pub come_item : (senders turns : ℕ) (a b c : Option (List ℕ)) (old mid new : List (Tagged Item)) (t : Tagged Item) (p q : Progress) (cs ds es : Counts) (g h : Gathered)
    → HasCome p.fault senders turns a b old mid p cs g.octets.items g.ends.items → p.ended < senders → cs.left ≡ ds.left + 1 → ds.written ≡ cs.written → new ≡ mid ++ t ∷ []
    → Gathers t.item g h p q b c ds es → HasCome q.fault senders turns a c old new q es h.octets.items h.ends.items
come_item senders turns a b c old mid new t p q cs ds es g h was fewer l w is k = come_this t.item senders turns a b c old mid new t p q cs ds es g h was fewer l w is refl k

-- ---- what the calls ask for

come_count : (f : Option ConnectFault) (senders turns : ℕ) (a b : Option (List ℕ)) (old new : List (Tagged Item)) (p : Progress) (cs : Counts) (octets ends : List ℕ)
    → HasCome f senders turns a b old new p cs octets ends → p.answers + length ends + cs.left ≤ turns
come_count None senders turns a b old new p cs octets ends h = let few = h.few in let spent = h.spent in omega arith
come_count (Some f) senders turns a b old new p cs octets ends h =
    let none : length ends ≡ 0 = ap length h.1 in
    let few = h.2.so.few in
    let spent = h.2.so.spent in
    omega arith

-- the answers are no more than the turns
pub come_few : (senders turns : ℕ) (a b : Option (List ℕ)) (old new : List (Tagged Item)) (p : Progress) (cs : Counts) (octets ends : List ℕ)
    → HasCome p.fault senders turns a b old new p cs octets ends → p.answers + length ends + cs.left ≤ turns
come_few senders turns a b old new p cs octets ends h = come_count p.fault senders turns a b old new p cs octets ends h

-- no sender has ended by it, and turns only go
pub may_ended : (b c : Option (List ℕ)) (p q : Progress) (ds es : Counts) (g h : Gathered) → MayFlush g h p q b c ds es → (q.ended ≡ p.ended) × (es.left ≤ ds.left)
may_ended b c p q ds es g h may = elim may [
  | inl stays ↦ (let left = stays.3.2 in (ap (λ (r : Progress). r.ended) stays.2, omega arith))
  | inr goes ↦ (goes.2.5, goes.2.4)
]

octets_kept : (f : Option ConnectFault) (o : List ℕ) (p q : Progress) (b c : Option (List ℕ)) (ds es : Counts) → WritesOctets f o p q b c ds es → q.ended ≡ p.ended
octets_kept (Some f) o p q b c ds es k = ap (λ (r : Progress). r.ended) k.0
octets_kept None o p q b c ds es k = k.5

octets_room : (o : List ℕ) (b c : Option (List ℕ)) (p q : Progress) (ds es : Counts) (g h : Gathered) → GathersOctets o g h p q b c ds es
    → (length h.octets.items ≤ es.left) × (q.ended ≡ p.ended) × (es.left ≤ ds.left)
octets_room o b c p q ds es g h k = elim k [
  | inl joins ↦ (
      let left = joins.3.2 in
      let most = joins.1.2 in
      let size = ap length joins.1.0 in (omega arith, ap (λ (r : Progress). r.ended) joins.2, omega arith))
  | inr goes ↦ (
      let size : length h.octets.items ≡ 0 = ap length goes.3 in
      let first = goes.5.5 in
      let then = octets_kept goes.0.fault o goes.0 q goes.1 c goes.2 es goes.6 in
      let left = left_by (Octets o) goes.0 q goes.1 c goes.2 es goes.6 in
      let less = goes.5.4 in (omega arith, then ∙ first, omega arith))
]

-- there is a turn for each octet that is gathered, and one sender more has ended at most
pub gathers_room : (item : Item) (b c : Option (List ℕ)) (p q : Progress) (ds es : Counts) (g h : Gathered) → length g.octets.items ≤ ds.left → Gathers item g h p q b c ds es
    → (length h.octets.items ≤ es.left) × (q.ended ≤ p.ended + 1) × (es.left ≤ ds.left)
gathers_room End b c p q ds es g h room k =
    let size = ap length k.0 in
    let left = k.2.1.2 in
    let one = ap (λ (r : Progress). r.ended) k.2.0 in
    (omega arith, omega arith, omega arith)
gathers_room (Octets o) b c p q ds es g h room k =
    let all = octets_room o b c p q ds es g h k in
    let same = all.1 in
    (all.0, omega arith, all.2)

-- ---- a turn

pub come_new : (senders turns : ℕ) (a : Option (List ℕ)) (old : List (Tagged Item)) (p : Progress) (cs : Counts) (g : Gathered) → g.octets.items ≡ [] → g.ends.items ≡ []
    → p ≡ record { ended = 0; answers = 0; fault = None } → cs.left ≡ turns → cs.written ≡ 0 → HasCome p.fault senders turns a a old old p cs g.octets.items g.ends.items
come_new senders turns a old p cs g octets ends is l w =
    subst (λ ends. HasCome p.fault senders turns a a old old p cs g.octets.items ends) (sym ends)
    (subst (λ octets. HasCome p.fault senders turns a a old old p cs octets []) (sym octets) (come_begun p.fault senders turns a old p cs refl is l w))

-- what was gathered may go out before the turn is spent, and before the item is taken
pub come_turn : (senders turns : ℕ) (a b c d e : Option (List ℕ)) (old mid new : List (Tagged Item)) (t : Tagged Item) (p q r s : Progress) (cs ds es fs gs : Counts) (g h i j : Gathered)
    → HasCome p.fault senders turns a b old mid p cs g.octets.items g.ends.items → p.ended < senders → MayFlush g h p q b c cs ds → ds.left ≡ es.left + 1 → es.written ≡ ds.written
    → MayFlush h i q r c d es fs → new ≡ mid ++ t ∷ [] → Gathers t.item i j r s d e fs gs → HasCome s.fault senders turns a e old new s gs j.octets.items j.ends.items
come_turn senders turns a b c d e old mid new t p q r s cs ds es fs gs g h i j was fewer first l w then is item =
    let before = may_ended b c p q cs ds g h first in
    let after = may_ended c d q r es fs h i then in
    let same = before.0 in
    let still = after.0 in
    let left = come_may senders turns 0 a b c old mid p q cs cs ds ds g h was (omega arith) refl (omega arith) refl first in
    let ks : Counts = record { left = fs.left + 1; written = fs.written } in
    let taken = come_may senders turns 1 a c d old mid q r ds es fs ks h i left l (sym w) refl refl then in
    come_item senders turns a d e old mid new t r s ks fs gs i j taken (omega arith) refl refl is item

-- no turn was left to be spent
pub come_spent : (senders turns : ℕ) (a b c : Option (List ℕ)) (old mid : List (Tagged Item)) (p q : Progress) (cs ds es : Counts) (g h : Gathered)
    → HasCome p.fault senders turns a b old mid p cs g.octets.items g.ends.items → MayFlush g h p q b c cs ds → ds.left ≡ 0 → es.left ≡ 0 → es.written ≡ ds.written
    → HasCome q.fault senders turns a c old mid q es h.octets.items h.ends.items
come_spent senders turns a b c old mid p q cs ds es g h was first z y w = come_may senders turns 0 a b c old mid p q cs cs ds es g h was (omega arith) refl (omega arith) w first

-- what was gathered goes out at last
pub come_last : (senders turns : ℕ) (a b c : Option (List ℕ)) (old new : List (Tagged Item)) (p q : Progress) (cs ds : Counts) (octets ends : List ℕ) (end : WriteEnd)
    → HasCome p.fault senders turns a b old new p cs octets ends → p.ended ≤ senders → (senders ≤ p.ended) ⊎ (cs.left ≡ 0) → Flushes octets ends p q b c cs ds
    → end.fault ≡ last_fault q.fault (nat_lt q.ended senders) → end.answers ≡ q.answers → end.ended ≡ q.ended → TakesAndWrites end senders turns a c old new
come_last senders turns a b c old new p q cs ds octets ends end was few why gone fault answers counted =
    let out = come_flushed p.fault senders turns 0 a b c old new p q cs cs ds ds octets ends refl was (omega arith) refl (omega arith) refl gone in
    let taken = to_taken q.fault senders turns a c old new q ds refl out in
    let ended = gone.5 in
    let left = gone.4 in
    let done : (senders ≤ q.ended) ⊎ (ds.left ≡ 0) = elim why [ inl k ↦ inl (omega arith) | inr k ↦ inr (omega arith) ] in
    stops senders turns a c old new q end ds taken (omega arith) done fault answers counted

pub may_room : (b c : Option (List ℕ)) (p q : Progress) (ds es : Counts) (g h : Gathered) → length g.octets.items ≤ ds.left → MayFlush g h p q b c ds es → length h.octets.items ≤ es.left
may_room b c p q ds es g h room may = elim may [
  | inl stays ↦ (
      let size = ap length stays.0 in
      let left = stays.3.2 in
      omega arith)
  | inr goes ↦ (let size : length h.octets.items ≡ 0 = ap length goes.0 in omega arith)
]

-- Each move keeps the rule of a lane.
use Rattle.std.proofs.Common.{◌≡◌, ◌≢◌, ℕ, zero, suc, ◌+◌, ◌≤◌, ◌<◌, true, false, true≢false, cond, Option, Some, None, List, [], ◌∷◌, ◌++◌, length, set, sym, refl, ap, ◌∙◌, subst, ⊎_elim, append_assoc, arith, get_or, length-append}
use Rattle.std.specs.Prelude.{nat_eq}
use Rattle.std.specs.List.{AllByRecursion}
use Rattle.std.proofs.lemmas.Bool.{eq-eqb, ne_eqb}
use Rattle.std.proofs.lemmas.Bool.Decides.{eqb_tells}
use Rattle.std.proofs.lemmas.List.{append-nil, get_or-set_other}
use Rattle.std.proofs.lemmas.Grind.{get_or-set_at}
use Rattle.std.proofs.Math.Nat.{lt_of_not-le}
use mathlib.Core.Option.{some, some-injective, some-ne-none}
use mathlib.Core.List.{IsPrefix}
use lib.ListN.{get_elem?}
use Rattle.crossbeam_queue.specs.Fifo.{Pushes, Pops, Forks, Merges, Learns}
use Rattle.crossbeam_queue.proofs.Lists.{at_set, at_snoc}
use Rattle.dcc_lane.specs.declared.rule.Known.{Known}
use Rattle.dcc_lane.specs.declared.rule.Tagged.{Tagged}
use Rattle.dcc_lane.specs.Rule.{sender, receiver, spent, of, FitsSender, FitsReceiver, HasEnded, Delivers, AreBegun}

all_to : {A : Type 0} (P Q : A → Type 0) (xs : List A) → ((x : A) → P x → Q x) → AllByRecursion P xs → AllByRecursion Q xs
all_to P Q [] f h = tt
all_to P Q (x ∷ xs) f h = (f x h.0, all_to P Q xs f h.1)

all_snoc : {A : Type 0} (P : A → Type 0) (xs : List A) (x : A) → AllByRecursion P xs → P x → AllByRecursion P (xs ++ x ∷ [])
all_snoc P [] x h p = (p, tt)
all_snoc P (y ∷ ys) x h p = (h.0, all_snoc P ys x h.1 p)

no_yes : {A : Type 0} → false ≡ true → A
no_yes p = absurd (true≢false (sym p))

some_same : (a b : ℕ) (o : Option ℕ) → o ≡ Some a → o ≡ Some b → a ≡ b
some_same a b o p q = let e : Some a ≡ Some b = sym p ∙ q in cc

none_some : {A : Type 0} (a : ℕ) (o : Option ℕ) → o ≡ None → o ≡ Some a → A
none_some a o p q = let e : None ≡ Some a = sym p ∙ q in absurd (cc)

seat_none : (seat : ℕ → Option ℕ) (n : ℕ) (k : ℕ) → seat k ≡ None → cond (nat_eq k n) None (seat k) ≡ None
seat_none seat n k is = elim (nat_eq k n) as (λ b. cond b None (seat k) ≡ None) [ true ↦ refl | false ↦ is ]

seat_else : (seat : ℕ → Option ℕ) (n k : ℕ) (o : Option ℕ) → k ≢ n → cond (nat_eq k n) o (seat k) ≡ seat k
seat_else seat n k o apart = ap (λ b. cond b o (seat k)) (ne_eqb k n apart)

seat_here : (seat : ℕ → Option ℕ) (n : ℕ) (o : Option ℕ) → cond (nat_eq n n) o (seat n) ≡ o
seat_here seat n o = ap (λ b. cond b o (seat n)) (eq-eqb n n refl)

module _ {T : Type 0} where
  of-append : (k : ℕ) (xs ys : List (Tagged T)) → of k (xs ++ ys) ≡ of k xs ++ of k ys
  of-append k [] ys = refl
  of-append k (x ∷ xs) ys =
      elim (nat_eq x.from k) as (λ b. cond b (x.item ∷ of k (xs ++ ys)) (of k (xs ++ ys)) ≡ cond b (x.item ∷ of k xs) (of k xs) ++ of k ys)
      [ true ↦ ap (λ l. x.item ∷ l) (of-append k xs ys) | false ↦ of-append k xs ys ]

  of_own : (k : ℕ) (x : Tagged T) → x.from ≡ k → of k (x ∷ []) ≡ x.item ∷ []
  of_own k x is = ap (λ b. cond b (x.item ∷ []) []) (eq-eqb x.from k is)

  of_other : (k : ℕ) (x : Tagged T) → x.from ≢ k → of k (x ∷ []) ≡ []
  of_other k x isnt = ap (λ b. cond b (x.item ∷ []) []) (ne_eqb x.from k isnt)

  -- one more item at the end
  of_grown : (k : ℕ) (taken items : List (Tagged T)) (x : Tagged T) → of k (taken ++ (items ++ x ∷ [])) ≡ of k (taken ++ items) ++ of k (x ∷ [])
  of_grown k taken items x = ap (of k) (sym (append_assoc taken items (x ∷ []))) ∙ of-append k (taken ++ items) (x ∷ [])

  of_same : (k : ℕ) (taken items : List (Tagged T)) (x : Tagged T) → x.from ≢ k → of k (taken ++ (items ++ x ∷ [])) ≡ of k (taken ++ items)
  of_same k taken items x isnt = of_grown k taken items x ∙ (ap (λ l. of k (taken ++ items) ++ l) (of_other k x isnt) ∙ append-nil (of k (taken ++ items)))

  at_end : (l : List (Known T)) (a b : Known T) (j : ℕ) → get_elem? l j ≢ some b → get_elem? (l ++ a ∷ []) j ≡ some b → j ≡ length l
  at_end [] a b zero n e = refl
  at_end [] a b (suc j) n e = absurd (some-ne-none b (sym e))
  at_end (x ∷ xs) a b zero n e = absurd (n e)
  at_end (x ∷ xs) a b (suc j) n e = ap suc (at_end xs a b j n e)

  abbrev Each : (ℕ → Known T → Type 0) → List (Known T) → Type 0
  Each F views = (port : ℕ) (v : Known T) → get_elem? views port ≡ some v → F port v

  each_one : (F : ℕ → Known T → Type 0) (w : Known T) → F 0 w → Each F (w ∷ [])
  each_one F w h zero v e = subst (F 0) (some-injective w v e) h
  each_one F w h (suc port) v e = absurd (some-ne-none v (sym e))

  each_set : (F : ℕ → Known T → Type 0) (views : List (Known T)) (port : ℕ) (w : Known T) → F port w → ((j : ℕ) (u : Known T) → j ≢ port → get_elem? views j ≡ some u → F j u) → Each F (set views port w)
  each_set F views port w mine others j u e = ⊎_elim (λ (x : (j ≡ port) × (w ≡ u)). subst (λ (y : ℕ × Known T). F y.0 y.1) (λ i. (sym x.0 i, x.1 i)) mine)
      (λ (x : (j ≢ port) × (get_elem? views j ≡ some u)). others j u x.0 x.1) (at_set views port j w u e)

  abbrev Fits : ℕ → (ℕ → Option ℕ) → List (Tagged T) → List (Tagged T) → ℕ → Known T → Type 0
  Fits reader seat taken all pass v = FitsSender seat all pass v × FitsReceiver reader seat taken all pass v

  -- what was put stands there
  there : (taken : List (Tagged T)) (x : Tagged T) (items : List (Tagged T)) → of x.from (taken ++ x ∷ items) ≡ [] → ⊥
  there [] x items is =
      let e : of x.from (x ∷ items) ≡ x.item ∷ of x.from items = ap (λ b. cond b (x.item ∷ of x.from items) (of x.from items)) (eq-eqb x.from x.from refl) in
      let f : x.item ∷ of x.from items ≡ [] = sym e ∙ is in
      cc
  there (t ∷ ts) x items is =
      let f : cond (nat_eq t.from x.from) (t.item ∷ of x.from (ts ++ x ∷ items)) (of x.from (ts ++ x ∷ items)) ≡ [] → ⊥ =
      elim (nat_eq t.from x.from) as (λ b. cond b (t.item ∷ of x.from (ts ++ x ∷ items)) (of x.from (ts ++ x ∷ items)) ≡ [] → ⊥)
      [ true ↦ (λ (e : t.item ∷ of x.from (ts ++ x ∷ items) ≡ []). cc) | false ↦ (λ e. there ts x items e) ] in
      f is

  pub begins : Delivers {T = T} [] (receiver 0 [] [] ∷ [])
  begins = (0, (λ _. None), [], each_one (Fits 0 (λ _. None) [] []) (receiver 0 [] []) (no_yes, λ _. (refl, refl, (λ k _. (refl, refl)), tt)))

  pub puts : (n port : ℕ) (v : Known T) (x : Tagged T) → v.sends ≡ true → x.from ≡ v.number → Pushes Delivers n port v x (λ w. w ≡ sender v.number (v.put ++ x.item ∷ []))
  puts n port v x may from items views _ h at =
      let w : Known T = sender v.number (v.put ++ x.item ∷ []) in
      let seat = h.1 in
      let taken = h.2 in
      let all' = taken ++ (items ++ x ∷ []) in
      let mine = (h.3 port v at).0 may in
      let apart : (k : ℕ) (o : Option ℕ) → seat k ≡ o → o ≢ Some port → x.from ≢ k = λ k o s n e. n (sym s ∙ (ap seat (sym e ∙ from) ∙ mine.0)) in (
        w,
        (
          h.0,
          seat,
          taken,
          each_set (Fits h.0 seat taken all') views port w (
            (λ _. (mine.0, sym (of_grown v.number taken items x ∙ (ap (λ l. of v.number (taken ++ items) ++ l) (of_own v.number x from) ∙ ap (λ l. l ++ x.item ∷ []) (sym mine.1))))),
            no_yes,
          )
              (λ j u other e.
              let fits = h.3 j u e in (
                (λ p. let s = fits.0 p in (s.0, s.1 ∙ sym (of_same u.number taken items x (apart u.number (Some j) s.0 (λ q. other (some_same j port (Some j) refl q)))))),
                (λ p. let r = fits.1 p in (
                  r.0,
                  r.1,
                  (λ k l. ((r.2 k l).0, of_same k taken items x (apart k None (r.2 k l).0 (λ q. none_some port None refl q)) ∙ (r.2 k l).1)),
                  all_to (HasEnded u.made seat (taken ++ items)) (HasEnded u.made seat all') u.ended
                      (λ e d. (d.0, d.1, d.2 ∙ sym (of_same e.0 taken items x (apart e.0 None d.1 (λ q. none_some port None refl q)))))
                      r.3,
                )),
              )),
        ),
        refl,
      )

  pub takes : (port : ℕ) (v : Known T) → v.receives ≡ true → Pops Delivers port v (λ x w. (x.from < v.made) × (w ≡ receiver v.made (v.taken ++ x ∷ []) v.ended))
  takes port v may x items views h at =
      let w : Known T = receiver v.made (v.taken ++ x ∷ []) v.ended in
      let seat = h.1 in
      let taken = h.2 in
      let taken' = taken ++ x ∷ [] in
      let all = taken ++ x ∷ items in
      let all_is : all ≡ taken' ++ items = sym (append_assoc taken (x ∷ []) items) in
      let mine = (h.3 port v at).1 may in (
        w,
        (
          h.0,
          seat,
          taken',
          subst (λ (l : List (Tagged T)). Each (Fits h.0 seat taken' l) (set views port w)) all_is
              (each_set (Fits h.0 seat taken' all) views port w
              (no_yes, λ _. (mine.0, ap (λ l. l ++ x ∷ []) mine.1, mine.2, mine.3))
              (λ j u other e. ((h.3 j u e).0, λ p. absurd (other (((h.3 j u e).1 p).0 ∙ sym mine.0))))),
        ),
        (lt_of_not-le (λ l. there taken x items (mine.2 x.from l).1), refl),
      )

  pub splits : (port : ℕ) (v : Known T) → v.receives ≡ true → Forks Delivers port v (receiver (v.made + 1) v.taken v.ended) (sender v.made [])
  splits port v may items views h at =
      let left : Known T = receiver (v.made + 1) v.taken v.ended in
      let right : Known T = sender v.made [] in
      let seat = h.1 in
      let taken = h.2 in
      let all = taken ++ items in
      let mine = (h.3 port v at).1 may in
      let vs : List (Known T) = set views port left in
      let seat' : ℕ → Option ℕ = λ k. cond (nat_eq k v.made) (Some (length vs)) (seat k) in
      let new : (k : ℕ) → v.made ≤ k → seat k ≡ None = λ k l. (mine.2 k l).0 in
      let Old : ℕ → Known T → Type 0 = λ j u. Fits h.0 seat' taken all j u × (u.sends ≡ true → u.number ≢ v.made) × (u.receives ≡ true → j ≡ port) in
      let old : Each Old vs =
      each_set Old views port left (
        (
          no_yes,
          λ _. (
            mine.0,
            mine.1,
            (λ k l. (seat_else seat v.made k (Some (length vs)) (omega arith) ∙ new k (omega arith), (mine.2 k (omega arith)).1)),
            all_to (HasEnded v.made seat all) (HasEnded (v.made + 1) seat' all) v.ended
                (λ e d. let l : e.0 < v.made = d.0 in (omega arith, seat_else seat v.made e.0 (Some (length vs)) (omega arith) ∙ d.1, d.2))
                mine.3,
          ),
        ),
        no_yes,
        λ _. refl,
      )
      (λ j u other e.
      let fits = h.3 j u e in
      let apart : u.sends ≡ true → u.number ≢ v.made = λ p q. none_some j (seat u.number) (ap seat q ∙ new v.made (omega arith)) (fits.0 p).0 in
      let alone : u.receives ≡ true → j ≡ port = λ p. (fits.1 p).0 ∙ sym mine.0 in (
        (
          (λ p. (seat_else seat v.made u.number (Some (length vs)) (apart p) ∙ (fits.0 p).0, (fits.0 p).1)),
          (λ p. absurd (other (alone p))),
        ),
        apart,
        alone,
      )) in (
        h.0,
        seat',
        taken,
        λ j u e. ⊎_elim (λ x. (old j u x).0)
            (λ (is : right ≡ u).
            let sends : u.sends ≡ true = ap (λ (y : Known T). y.sends) (sym is) in
            let number : u.number ≡ v.made = ap (λ (y : Known T). y.number) (sym is) in
            let last : j ≡ length vs = at_end vs right u j (λ x. (old j u x).1 sends number) e in
            subst (λ (y : Known T). Fits h.0 seat' taken all j y) is
            ((λ _. (seat_here seat v.made (Some (length vs)) ∙ ap Some (sym last), sym (mine.2 v.made (omega arith)).1)), no_yes))
            (at_snoc vs right u j e),
      )

  pub joins : (port : ℕ) (v : Known T) (other : ℕ) (w : Known T) → v.receives ≡ true → w.sends ≡ true → Merges Delivers port v other w (receiver v.made v.taken (v.ended ++ (w.number, w.put) ∷ [])) spent
  joins port v other w may sends items views h at two at' =
      let both : Known T = receiver v.made v.taken (v.ended ++ (w.number, w.put) ∷ []) in
      let seat = h.1 in
      let taken = h.2 in
      let all = taken ++ items in
      let mine = (h.3 port v at).1 may in
      let vs : List (Known T) = set views port both in
      let was : get_elem? views other ≡ some w = ⊎_elim (λ x. absurd (two x.0)) (λ x. x.1) (at_set views port other both w at') in
      let theirs = (h.3 other w was).0 sends in
      let seat' : ℕ → Option ℕ = λ k. cond (nat_eq k w.number) None (seat k) in
      let below : w.number < v.made = lt_of_not-le (λ l. none_some other (seat w.number) (mine.2 w.number l).0 theirs.0) in
      let Now : ℕ → Known T → Type 0 = λ j u. j ≢ other → Fits h.0 seat' taken all j u in
      let now : Each Now vs =
      each_set Now views port both
      (λ _. (
        no_yes,
        λ _. (
          mine.0,
          mine.1,
          (λ k l. (seat_none seat w.number k (mine.2 k l).0, (mine.2 k l).1)),
          all_snoc (HasEnded v.made seat' all) v.ended (w.number, w.put)
              (all_to (HasEnded v.made seat all) (HasEnded v.made seat' all) v.ended (λ e d. (d.0, seat_none seat w.number e.0 d.1, d.2)) mine.3)
              (below, seat_here seat w.number None, theirs.1),
        ),
      ))
      (λ j u aside e apart.
      let fits = h.3 j u e in (
        (λ p. (seat_else seat w.number u.number None (λ q. apart (some_same j other (seat u.number) (fits.0 p).0 (ap seat q ∙ theirs.0))) ∙ (fits.0 p).0, (fits.0 p).1)),
        (λ p. absurd (aside ((fits.1 p).0 ∙ sym mine.0))),
      )) in (
        h.0,
        seat',
        taken,
        each_set (Fits h.0 seat' taken all) vs other spent (no_yes, no_yes) (λ j u apart e. now j u e apart),
      )

  pub compares : (port : ℕ) (v : Known T) → v.receives ≡ true → Learns Delivers port v (λ items. AreBegun v.taken v.ended)
  compares port v may items views h at =
      let mine = (h.3 port v at).1 may in
      all_to (HasEnded v.made h.1 (h.2 ++ items)) (λ (e : ℕ × List T). IsPrefix (of e.0 v.taken) e.1) v.ended
      (λ e d. (of e.0 items, ap (λ l. of e.0 l ++ of e.0 items) mine.1 ∙ (sym (of-append e.0 h.2 items) ∙ sym d.2)))
      mine.3

  of_taken : (k : ℕ) (taken : List (Tagged T)) (x : Tagged T) → length (of k (taken ++ x ∷ [])) ≡ length (of k taken) + cond (nat_eq x.from k) 1 0
  of_taken k taken x =
      ap length (of-append k taken (x ∷ []))
      ∙ (length-append (of k taken) (of k (x ∷ []))
      ∙ elim (nat_eq x.from k) as (λ b. length (of k taken) + length (cond b (x.item ∷ []) []) ≡ length (of k taken) + cond b 1 0) [ true ↦ refl | false ↦ refl ])

  -- the counts go with what was taken
  pub counted_more : (counts : List ℕ) (n : ℕ) (taken : List (Tagged T)) (x : Tagged T) (more : ℕ) → x.from < length counts → more ≡ get_or counts x.from 0 + 1
      → ((k : ℕ) → k < n → get_or counts k 0 ≡ length (of k taken)) → x.from < n
      → (k : ℕ) → k < n → get_or (set counts x.from more) k 0 ≡ length (of k (taken ++ x ∷ []))
  counted_more counts n taken x more inside is old below k l = ⊎_elim
      (λ t.
      let here : k ≡ x.from = sym t.1 in
      let a : get_or (set counts x.from more) k 0 ≡ more = get_or-set_at counts x.from k more 0 here inside in
      let b : length (of k (taken ++ x ∷ [])) ≡ length (of k taken) + 1 = of_taken k taken x ∙ ap (λ c. length (of k taken) + cond c 1 0) t.0 in
      let c : get_or counts x.from 0 ≡ length (of x.from taken) = old x.from below in
      let d : length (of x.from taken) ≡ length (of k taken) = ap (λ j. length (of j taken)) (sym here) in
      omega arith)
      (λ t.
      let a : get_or (set counts x.from more) k 0 ≡ get_or counts k 0 = get_or-set_other counts x.from k more 0 (λ e. t.1 (sym e)) in
      let b : length (of k (taken ++ x ∷ [])) ≡ length (of k taken) + 0 = of_taken k taken x ∙ ap (λ c. length (of k taken) + cond c 1 0) t.0 in
      let c : get_or counts k 0 ≡ length (of k taken) = old k l in
      omega arith)
      (eqb_tells x.from k)

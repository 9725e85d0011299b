-- How what a worker has done goes on.
use Rattle.std.proofs.Common.{◌≡◌, ℕ, ◌+◌, List, [], ◌∷◌, ◌++◌, Option, Some, None, length, refl, sym, ap, subst, ◌∙◌, append_assoc, append-nil, arith}
use Rattle.std.proofs.lemmas.Grind.{common_steps}
use Rattle.std.proofs.lemmas.List.{drop_all, length-drop}
use Rattle.std.specs.List.{FoldsTo}
use Rattle.std.specs.Prelude.{count_by}
use Rattle.dcc_connect.specs.Writing.{items_of}
use Rattle.dcc_lane.specs.Ends.{IsSameReceiver, taken_of, TakesOne}
use Rattle.dcc_lane.specs.declared.receiver.Receiver.{Receiver}
use Rattle.dcc_lane.specs.declared.rule.Tagged.{Tagged}
use Rattle.dcc_store.specs.Books.{Held}
use Rattle.dcc_rounds.specs.Lanes.{lanes_of}
use Rattle.dcc_rounds.specs.Working.{CountsFor, Does, DoesCounted, Goes, IsCounted, doing_of, is_over, left_of, works_in}
use Rattle.dcc_rounds.specs.declared.counter.CallCounter.{CallCounter}
use Rattle.dcc_rounds.specs.declared.rest.Rest.{Rest}
use Rattle.dcc_rounds.specs.declared.work.Work.{Work}
use Rattle.dcc_rounds.specs.declared.worker.Worker.{Worker}

pub one_item : {T : Type 0} (taken : List (Tagged T)) (k : ℕ) (item : T) → items_of (taken ++ record { from = k; item = item } ∷ []) ≡ items_of taken ++ item ∷ []
one_item [] k item = refl
one_item (t ∷ taken) k item = ap (λ items. t.item ∷ items) (one_item taken k item)

pub taken_one : {T : Type 0} (old new : Receiver T) (it item : T) → TakesOne old it new → it ≡ item → items_of (taken_of new) ≡ items_of (taken_of old) ++ item ∷ []
taken_one old new it item t is = ap items_of t.2 ∙ one_item (taken_of old) t.0 it ∙ ap (λ one. items_of (taken_of old) ++ one ∷ []) is

-- the counter has the number of those that are left
pub left_counted : (counter : CallCounter) (rest : Rest) → IsCounted counter rest → counter.left ≡ length (left_of rest)
left_counted counter rest is = let many = length-drop rest.asked rest.subs.items in omega (arith, is, many)

-- none is left of an empty list
pub none_listed : (rest : Rest) → rest.subs.items ≡ [] → left_of rest ≡ []
none_listed rest is = let none = ap (λ subs. length subs) is in drop_all rest.asked rest.subs.items (omega (arith, none))

pub no_step : (opening : Held) (w v : Worker) (rest : Rest) → v ≡ w → Goes opening w v rest rest 0
no_step opening w v rest is = subst (λ (u : Worker). Goes opening w u rest rest 0) (sym is)
    (record { steps = []; taken = sym (append-nil (items_of (taken_of w.from))); done = refl; ended_are = refl; same = (refl, refl); lanes = refl; shard = refl })

pub one_step : (opening : Held) (w v : Worker) (first last : Rest) (step : Option Work) (n : ℕ) → items_of (taken_of v.from) ≡ items_of (taken_of w.from) ++ works_in (step ∷ [])
    → Does opening (doing_of w first) step (doing_of v last) → CountsFor w.shard w.counter step v.counter → IsCounted v.counter last → count_by is_over (works_in (step ∷ [])) ≡ n
    → IsSameReceiver w.from v.from → lanes_of v.writers.items ≡ lanes_of w.writers.items → v.shard ≡ w.shard → Goes opening w v first last n
one_step opening w v first last step n taken does counts left overs same lanes shard = record {
  steps = step ∷ [];
  taken = taken;
  done = (doing_of v last, (does, counts, left_counted v.counter last left), refl);
  ended_are = overs;
  same = same;
  lanes = lanes;
  shard = shard;
}

pub folds_both : {P A : Type 0} (R : P → A → P → Type 0) (p : P) (xs : List A) (q : P) (ys : List A) (r : P) → FoldsTo R p xs q → FoldsTo R q ys r → FoldsTo R p (xs ++ ys) r
folds_both R p [] q ys r h k = subst (λ s. FoldsTo R s ys r) (sym h) k
folds_both R p (x ∷ xs) q ys r h k = (h.0, h.1, folds_both R h.0 xs q ys r h.2 k)

pub works_both : (a b : List (Option Work)) → works_in (a ++ b) ≡ works_in a ++ works_in b
works_both [] b = refl
works_both (None ∷ a) b = works_both a b
works_both (Some one ∷ a) b = ap (λ works. one ∷ works) (works_both a b)

overs_both : (a b : List Work) → count_by is_over (a ++ b) ≡ count_by is_over a + count_by is_over b
overs_both a b = grind (arith, common_steps)

-- steps behind steps
pub goes_on : (opening : Held) (a b c : Worker) (first mid last : Rest) (n m : ℕ) → Goes opening a b first mid n → Goes opening b c mid last m
    → Goes opening a c first last (n + m)
goes_on opening a b c first mid last n m h k = record {
  steps = h.steps ++ k.steps;
  taken = k.taken ∙ ap (λ items. items ++ works_in k.steps) h.taken ∙ append_assoc (items_of (taken_of a.from)) (works_in h.steps) (works_in k.steps)
      ∙ ap (λ works. items_of (taken_of a.from) ++ works) (sym (works_both h.steps k.steps));
  done = folds_both (DoesCounted opening a.shard) (doing_of a first) h.steps (doing_of b mid) k.steps (doing_of c last) h.done
      (subst (λ (shard : ℕ). FoldsTo (DoesCounted opening shard) (doing_of b mid) k.steps (doing_of c last)) h.shard k.done);
  ended_are = ap (λ works. count_by is_over works) (works_both h.steps k.steps) ∙ overs_both (works_in h.steps) (works_in k.steps)
      ∙ ap (λ i. i + count_by is_over (works_in k.steps)) h.ended_are ∙ ap (λ i. n + i) k.ended_are;
  same = (k.same.0 ∙ h.same.0, k.same.1 ∙ h.same.1);
  lanes = k.lanes ∙ h.lanes;
  shard = k.shard ∙ h.shard;
}

pub same_end : (opening : Held) (a b c : Worker) (first mid last : Rest) (n m : ℕ) → c ≡ b → last ≡ mid → m ≡ n → Goes opening a b first mid n → Goes opening a c first last m
same_end opening a b c first mid last n m self rest ended h =
    subst (λ (v : Worker). Goes opening a v first last m) (sym self) (subst (λ (r : Rest). Goes opening a b first r m) (sym rest) (subst (λ k. Goes opening a b first mid k) (sym ended) h))

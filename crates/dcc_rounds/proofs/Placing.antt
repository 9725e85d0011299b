-- How the gateways of a place come one after another.
use Rattle.std.proofs.Common.{◌≡◌, ℕ, Bool, true, false, List, [], ◌∷◌, ◌++◌, map, Option, Some, None, IfSome, refl, sym, ap, ◌∙◌, subst, append-nil}
use Rattle.std.proofs.lemmas.Fn.{FoldsTo-push}
use Rattle.std.proofs.lemmas.List.{map-append}
use Rattle.std.specs.List.{FoldsTo, cons_option}
use Rattle.dcc_connect.specs.declared.writing.Item.{Item}
use Rattle.dcc_dispatch.specs.Settings.{Setting}
use Rattle.dcc_lane.specs.declared.receiver.Receiver.{Receiver}
use Rattle.dcc_rounds.specs.Visiting.{IsVisit, Leaves, Serves, Visit}
use Rattle.dcc_rounds.specs.declared.face.Connection.{Connection}
use Rattle.dcc_rounds.specs.declared.place.Place.{Place}
use Rattle.dcc_rounds.specs.declared.reader.Reader.{Reader}

module _ {A : Type 0} where
  more_behind : (first : Option A) (later : List A) (c : A) → cons_option first later ++ c ∷ [] ≡ cons_option first (later ++ c ∷ [])
  more_behind None later c = refl
  more_behind (Some x) later c = refl

  -- one gateway came first, or behind the others if others may come
  came_more : (first next : Option A) (xs later : List A) (c : A) (stays : Bool) → xs ++ cons_option next [] ≡ cons_option first later → (stays ≡ false → later ≡ [])
      → IfSome next (λ f. Some c ≡ Some f) → (next ≡ None → stays ≡ false → Some c ≡ None)
      → (all : List A) × ((xs ++ c ∷ []) ++ [] ≡ cons_option first all) × (stays ≡ false → all ≡ [])
  came_more first (Some f) xs later c stays was none is once =
      let same : c ≡ f = cc in
      (later, append-nil (xs ++ c ∷ []) ∙ ap (λ x. xs ++ x ∷ []) same ∙ was, none)
  came_more first None xs later c stays was none is once =
      let all : xs ≡ cons_option first later = sym (append-nil xs) ∙ was in
      (later ++ c ∷ [], append-nil (xs ++ c ∷ []) ∙ ap (λ l. l ++ c ∷ []) all ∙ more_behind first later c, λ out. absurd (let e = once refl out in cc))

  pub is_none : (o : Option A) → IfSome o (λ f. None ≡ Some f) → o ≡ None
  is_none None h = refl
  is_none (Some f) h = absurd (cc)

module _ {I O C : Type 0} (remaining : I → Option (List ℕ)) (contents : O → Option (List ℕ)) (tells : C → ℕ → C → Type 0) (closed : Type 0) (clock : C) (setting : Setting)
    (count : ℕ) where
  abbrev VisitOf : Place I O → Visit I O → Place I O → Type 0
  VisitOf old visit new = IsVisit remaining contents tells closed clock setting count old visit new

  abbrev came_of : Visit I O → Connection I O
  came_of visit = visit.came

  -- a place, behind so many gateways
  pub record SoFar (old : Place I O) (visits : List (Visit I O)) (new : Place I O) : Type 0 where
    pub visited : FoldsTo VisitOf old visits new
    pub stays : new.stays ≡ old.stays
    pub later : List (Connection I O)
    pub came : map came_of visits ++ cons_option new.first [] ≡ cons_option old.first later
    pub none : old.stays ≡ false → later ≡ []

  pub so_far_none : (p : Place I O) → SoFar p [] p
  so_far_none p = record { visited = refl; stays = refl; later = []; came = refl; none = λ out. refl }

  -- a visit rests on the ends of lanes of its place alone
  visit_from : (a b : Place I O) (v : Visit I O) (c : Place I O) → b.reader ≡ a.reader → b.from ≡ a.from → b.answers ≡ a.answers → VisitOf b v c → VisitOf a v c
  visit_from a b v c reader from answers h =
      let one : VisitOf (record b { reader = a.reader }) v c =
      subst (λ (r : Reader). VisitOf (record b { reader = r }) v c) reader (record { reads = h.reads; writes = h.writes; answered = h.answered }) in
      let two : VisitOf (record b { reader = a.reader; from = a.from }) v c =
      subst (λ (f : Receiver Item). VisitOf (record b { reader = a.reader; from = f }) v c) from (record { reads = one.reads; writes = one.writes; answered = one.answered }) in
      let all : VisitOf (record b { reader = a.reader; from = a.from; answers = a.answers }) v c =
      subst (λ (n : ℕ). VisitOf (record b { reader = a.reader; from = a.from; answers = n }) v c) answers (record { reads = two.reads; writes = two.writes; answered = two.answered }) in
      record { reads = all.reads; writes = all.writes; answered = all.answered }

  -- one gateway more was served
  pub visit_more : (old : Place I O) (visits : List (Visit I O)) (before mid : Place I O) (c : Connection I O) (v : Visit I O) (after : Place I O) → SoFar old visits before
      → mid.reader ≡ before.reader → mid.from ≡ before.from → mid.answers ≡ before.answers → mid.stays ≡ before.stays → mid.first ≡ None
      → IfSome before.first (λ first. Some c ≡ Some first) → (before.first ≡ None → before.stays ≡ false → Some c ≡ None)
      → v.came ≡ c → VisitOf mid v after → after.first ≡ mid.first → after.stays ≡ mid.stays → SoFar old (visits ++ v ∷ []) after
  visit_more old visits before mid c v after was reader from answers stays taken first once is one same_first same_stays =
      let on = came_more old.first before.first (map came_of visits) was.later c old.stays was.came was.none first (λ none out. once none (was.stays ∙ out)) in
      record {
        visited = FoldsTo-push VisitOf old visits before v after was.visited (visit_from before mid v after reader from answers one);
        stays = same_stays ∙ stays ∙ was.stays;
        later = on.0;
        came = ap (λ (o : Option (Connection I O)). map came_of (visits ++ v ∷ []) ++ cons_option o []) (same_first ∙ taken)
            ∙ ap (λ (l : List (Connection I O)). l ++ []) (map-append came_of visits (v ∷ []) ∙ ap (λ (x : Connection I O). map came_of visits ++ x ∷ []) is) ∙ on.1;
        none = on.2;
      }

  -- no gateway came any more
  pub serves_all : (old : Place I O) (visits : List (Visit I O)) (before mid new : Place I O) → SoFar old visits before
      → mid.reader ≡ before.reader → mid.from ≡ before.from → mid.answers ≡ before.answers
      → IfSome before.first (λ first. None ≡ Some first) → (before.first ≡ None → before.stays ≡ true → closed)
      → Leaves mid.reader new.reader → new.from ≡ mid.from → new.answers ≡ mid.answers
      → Serves remaining contents tells closed clock setting count old new
  serves_all old visits before mid new was reader from answers first shut leaves same_from same_answers =
      let none = is_none before.first first in (
        visits,
        record {
          last = before;
          came = (
            was.later,
            sym (append-nil (map came_of visits)) ∙ ap (λ (o : Option (Connection I O)). map came_of visits ++ cons_option o []) (sym none) ∙ was.came,
            was.none,
          );
          visited = was.visited;
          left = subst (λ (r : Reader). Leaves r new.reader) reader leaves;
          from = same_from ∙ from;
          answers = same_answers ∙ answers;
          ended = λ on. shut none (was.stays ∙ on);
        },
      )

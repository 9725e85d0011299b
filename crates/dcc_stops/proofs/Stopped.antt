-- What a shard holds that stands on what a stop left of another.
use Rattle.std.proofs.Common.{◌≡◌, inl, inr, Bool, true, false, List, ◌∷◌, ◌++◌, length, take, drop, take-append-drop, append_assoc, sym, ap, subst, ◌∙◌, Option, Some, None, IfSome}
use Rattle.std.proofs.Math.Logic.{∥∥₁_elim, ∥∥₁_map}
use Rattle.std.proofs.Props.{props}
use Rattle.dcc_tariff.specs.Terms.{TermsView}
use Rattle.dcc_act.specs.declared.act.Act.{Act}
use Rattle.dcc_act.specs.declared.sub.Sub.{Sub}
use Rattle.dcc_model.specs.Keys.{same_key}
use Rattle.dcc_model.specs.Laws.{RepeatsAreFirsts, RepeatsAreOld}
use Rattle.dcc_model.specs.Outcomes.{after, is_new}
use Rattle.dcc_store.specs.Books.{Held}
use Rattle.dcc_store.specs.Contents.{Content, Kept, IsContentOf}
use Rattle.dcc_store.specs.Stops.{LeavesOnly}
use Rattle.dcc_shard.specs.Shards.{held}
use Rattle.dcc_shard.specs.Stored.{StoredView, IsLeft, GoesOnFrom, LeavesHeld, LeavesBatch, held_then_all}
use Rattle.dcc_stops.specs.Stops.{AreAlike, HoldsAgain}

-- it holds what was held, and at most one act more of each subscriber
pub goes_on : (terms : TermsView) (one other : Held) (leaves again : Content → Type 0) → LeavesHeld one leaves → IsLeft terms other again
    → ((found : Content) → again found → ∥ leaves found ∥₁) → (sub : Sub) → GoesOnFrom (one sub) (other sub)
goes_on terms one other leaves again held there back sub =
    ∥∥₁_elim there (hlevel props) (λ found. ∥∥₁_elim (back found.0 found.2) (hlevel props) (λ left.
    let acts_are : (found.0 sub).acts ≡ other sub = ap (λ (kept : Kept). kept.acts) (found.1 sub) in
    subst (GoesOnFrom (one sub)) acts_are (held found.0 sub left)))

-- so what is repeated comes to what it came to first, and isn't made again
pub first_again : RepeatsAreFirsts → RepeatsAreOld → (terms : TermsView) (one other before later : List Act) (act repeat : Act) → one ≡ before ++ act ∷ later
    → take (length one) other ≡ one → is_new terms before act ≡ true → same_key repeat.kind act.kind ≡ true
    → (after terms other repeat ≡ after terms before act) × (is_new terms other repeat ≡ false)
first_again firsts olds terms one other before later act repeat is begins made alike =
    let more = drop (length one) other in
    let whole : other ≡ before ++ act ∷ (later ++ more) =
    sym (take-append-drop (length one) other) ∙ ap (λ (xs : List Act). xs ++ more) (begins ∙ is) ∙ append_assoc before (act ∷ later) more in
    let P : List Act → Type 0 = λ all. (after terms all repeat ≡ after terms before act) × (is_new terms all repeat ≡ false) in
    let then : P (before ++ act ∷ (later ++ more)) = (firsts terms before (later ++ more) act repeat made alike, olds terms before (later ++ more) act repeat made alike) in
    subst P (sym whole) then

-- books of one content are alike
alike : (terms : TermsView) (one other : Held) (found : Content) → IsContentOf terms one found → IsContentOf terms other found → AreAlike one other
alike terms one other found a b sub = sym (ap (λ (kept : Kept). kept.acts) (a sub)) ∙ ap (λ (kept : Kept). kept.acts) (b sub)

pub holds_again : (terms now : TermsView) (one other : Held) (leaves again : Content → Type 0) (was_stopped : Bool) → RepeatsAreFirsts → RepeatsAreOld → now ≡ terms
    → (was_stopped ≡ false → LeavesOnly terms one leaves) → (was_stopped ≡ true → LeavesBatch terms one leaves) → LeavesHeld one leaves → IsLeft now other again
    → ((found : Content) → again found → ∥ leaves found ∥₁) → HoldsAgain was_stopped terms one other
holds_again terms now one other leaves again was_stopped firsts olds same only more held there back =
    let left : IsLeft terms other again = subst (λ (t : TermsView). IsLeft t other again) same there in
    record {
      going = λ is sub. ∥∥₁_elim left (hlevel props) (λ found. ∥∥₁_elim (back found.0 found.2) (hlevel props) (λ was. alike terms one other found.0 (only is found.0 was) found.1 sub));
      beyond = λ is. ∥∥₁_elim left (hlevel props) (λ found. ∥∥₁_elim (back found.0 found.2) (hlevel props) (λ was. ∥∥₁_map (more is) (λ it. (
        it.0,
        it.1,
        elim (it.2 found.0 was) [
          | inl before ↦ inl (alike terms one other found.0 before found.1)
          | inr grown ↦ inr (alike terms (held_then_all terms it.0 one) other found.0 grown found.1)
        ],
      ))));
      each = goes_on terms one other leaves again held left back;
      repeats = λ sub earlier later act repeat is made like.
          first_again firsts olds terms (one sub) (other sub) earlier later act repeat is (goes_on terms one other leaves again held left back sub).0 made like;
    }

-- so does a shard over what was opened again, if it is made
pub held_again : {R : Type 0} (may_leave : R → Content → Type 0) (is_stopped : R → Bool) (clean honest : R → Type 0) (terms opened : TermsView) (one : Held)
    (leaves found : Content → Type 0) (was_stopped went : Bool) (again : Option (StoredView R)) → RepeatsAreFirsts → RepeatsAreOld
    → (was_stopped ≡ false → LeavesOnly terms one leaves) → (was_stopped ≡ true → LeavesBatch terms one leaves) → LeavesHeld one leaves
    → opened ≡ terms → went ≡ false → ((r : R) → clean r → is_stopped r ≡ false → honest r) → ((content : Content) → found content → ∥ leaves content ∥₁)
    → IfSome again (λ s. s.shard.terms ≡ opened) → IfSome again (λ s. is_stopped s.records ≡ went)
    → IfSome again (λ s. honest s.records → IsLeft s.shard.terms (held s.shard) (may_leave s.records))
    → IfSome again (λ s. (content : Content) → may_leave s.records content → found content)
    → IfSome again (λ s. clean s.records → HoldsAgain was_stopped terms one (held s.shard))
held_again may_leave is_stopped clean honest terms opened one leaves found was_stopped went None firsts olds only more kept same going whole back terms_are stopped_is there left = tt
held_again may_leave is_stopped clean honest terms opened one leaves found was_stopped went (Some s) firsts olds only more kept same going whole back terms_are stopped_is there left = λ is.
    holds_again terms s.shard.terms one (held s.shard) leaves (may_leave s.records) was_stopped firsts olds (terms_are ∙ same) only more kept
    (there (whole s.records is (stopped_is ∙ going))) (λ content it. back content (left content it))

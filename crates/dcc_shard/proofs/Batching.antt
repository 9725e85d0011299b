-- The held acts after the acts of different subscribers.
use Rattle.std.specs.Prelude.{if◌then◌else◌}
use Rattle.std.proofs.Common.{◌≡◌, ◌⊎◌, Bool, true, false, not, ◌&&◌, ◌||◌, List, [], ◌∷◌, ◌++◌, map, refl, sym, ap, ◌∙◌, inl, inr}
use Rattle.std.proofs.lemmas.Bool.{cases_Bool, false_from_ne_true}
use Rattle.dcc_tariff.specs.Terms.{TermsView}
use Rattle.dcc_act.specs.declared.act.Act.{Act}
use Rattle.dcc_act.specs.declared.sub.Sub.{Sub}
use Rattle.dcc_act.specs.Subs.{same_sub, SameAreEqual}
use Rattle.dcc_model.specs.Outcomes.{acts, is_new}
use Rattle.dcc_model.specs.Laws.{OneMoreAct}
use Rattle.dcc_store.specs.Books.{Held}
use Rattle.dcc_shard.specs.Shards.{held_then, is_among, are_apart}
use Rattle.dcc_shard.specs.Stored.{held_then_all}

pub neither : (a b : Bool) → (a || b) ≡ false → (a ≡ false) × (b ≡ false)
neither true b h = absurd cc
neither false b h = (refl, h)

-- the first of different subscribers is not among the others, which are different
pub first_apart : (a b : Bool) → (not a && b) ≡ true → (a ≡ false) × (b ≡ true)
first_apart true b h = absurd cc
first_apart false b h = (refl, h)

-- two subscribers that are not one are not one in the other order either
pub turned : SameAreEqual → (a b : Sub) → same_sub a b ≡ false → same_sub b a ≡ false
turned same a b apart = false_from_ne_true (same_sub b a) (λ is. (let there : same_sub a b ≡ true = (same a b).1 (sym ((same b a).0 is)) in absurd cc))

-- what is held of a subscriber with one act more, of it or of another
pub then_is : OneMoreAct → (terms : TermsView) (held : Held) (one : Sub) (act : Act) (sub : Sub) → acts terms (held sub) ≡ held sub
    → (held_then terms one act held sub ≡ held sub ++ act ∷ []) ⊎ (held_then terms one act held sub ≡ held sub)
then_is more terms held one act sub own = elim (cases_Bool (same_sub one sub)) [
  | inr apart ↦ inr (rw apart refl)
  | inl same ↦
      let then_sub : held_then terms one act held sub ≡ acts terms (held sub ++ act ∷ []) = rw same refl in
      elim (cases_Bool (is_new terms (held sub) act)) [
        | inl made ↦
            let grown : acts terms (held sub ++ act ∷ []) ≡ acts terms (held sub) ++ act ∷ [] = more terms (held sub) act ∙ rw made refl in
            inl (then_sub ∙ grown ∙ ap (λ (xs : List Act). xs ++ act ∷ []) own)
        | inr old ↦
            let stays : acts terms (held sub ++ act ∷ []) ≡ acts terms (held sub) = more terms (held sub) act ∙ rw old refl in
            inr (then_sub ∙ stays ∙ own)
      ]
]

-- the acts of other subscribers change nothing of one
pub untouched : (terms : TermsView) (batch : List (Sub × Act)) (held : Held) (sub : Sub) → is_among sub (map (λ (one : Sub × Act). one.0) batch) ≡ false → held_then_all terms batch held sub ≡ held sub
untouched terms [] held sub apart = refl
untouched terms (one ∷ batch) held sub apart =
    let both = neither (same_sub one.0 sub) (is_among sub (map (λ (one : Sub × Act). one.0) batch)) apart in
    let there : same_sub one.0 sub ≡ false = both.0 in
    untouched terms batch (held_then terms one.0 one.1 held) sub both.1 ∙ rw there refl

-- so of each subscriber there is at most one act more
pub one_more_of_each : SameAreEqual → OneMoreAct → (terms : TermsView) (batch : List (Sub × Act)) (held : Held) (sub : Sub) → are_apart (map (λ (one : Sub × Act). one.0) batch) ≡ true
    → acts terms (held sub) ≡ held sub
    → ((act : Act) × (held_then_all terms batch held sub ≡ held sub ++ act ∷ [])) ⊎ (held_then_all terms batch held sub ≡ held sub)
one_more_of_each same more terms [] held sub apart own = inr refl
one_more_of_each same more terms (one ∷ batch) held sub apart own =
    let rest : List Sub = map (λ (one : Sub × Act). one.0) batch in
    let both = first_apart (is_among one.0 rest) (are_apart rest) apart in
    let next : Held = held_then terms one.0 one.1 held in
    elim (cases_Bool (same_sub one.0 sub)) [
      | inl t ↦
          let e : one.0 ≡ sub = (same one.0 sub).0 t in
          let alone : is_among sub rest ≡ false = ap (λ (s : Sub). is_among s rest) (sym e) ∙ both.0 in
          let stays : held_then_all terms batch next sub ≡ next sub = untouched terms batch next sub alone in
          elim (then_is more terms held one.0 one.1 sub own) [
            | inl grown ↦ inl (one.1, stays ∙ grown)
            | inr kept ↦ inr (stays ∙ kept)
          ]
      | inr f ↦
          let there : next sub ≡ held sub = rw f refl in
          let next_own : acts terms (next sub) ≡ next sub = ap (acts terms) there ∙ own ∙ sym there in
          elim (one_more_of_each same more terms batch next sub both.1 next_own) [
            | inl grown ↦ inl (grown.0, grown.1 ∙ ap (λ (xs : List Act). xs ++ grown.0 ∷ []) there)
            | inr kept ↦ inr (kept ∙ there)
          ]
    ]

-- what is held of a subscriber after some acts follows from what was held of it
pub local_then : (terms : TermsView) (batch : List (Sub × Act)) (one other : Held) (sub : Sub) → one sub ≡ other sub → held_then_all terms batch one sub ≡ held_then_all terms batch other sub
local_then terms [] one other sub same = same
local_then terms (next ∷ batch) one other sub same =
    local_then terms batch (held_then terms next.0 next.1 one) (held_then terms next.0 next.1 other) sub
    (ap (λ (xs : List Act). if same_sub next.0 sub then acts terms (xs ++ next.1 ∷ []) else xs) same)

-- of its own subscriber the first act of different subscribers leads to what it leads to alone, and of others it changes nothing
pub then_first : SameAreEqual → (terms : TermsView) (one : Sub × Act) (batch : List (Sub × Act)) (held : Held) (sub : Sub) → are_apart (map (λ (each : Sub × Act). each.0) (one ∷ batch)) ≡ true
    → held_then_all terms (one ∷ batch) held sub ≡ (if same_sub one.0 sub then acts terms (held sub ++ one.1 ∷ []) else held_then_all terms batch held sub)
then_first same terms one batch held sub apart =
    let rest : List Sub = map (λ (each : Sub × Act). each.0) batch in
    let both = first_apart (is_among one.0 rest) (are_apart rest) apart in
    let next : Held = held_then terms one.0 one.1 held in
    elim (cases_Bool (same_sub one.0 sub)) [
      | inl t ↦
          let e : one.0 ≡ sub = (same one.0 sub).0 t in
          let alone : is_among sub rest ≡ false = ap (λ (s : Sub). is_among s rest) (sym e) ∙ both.0 in
          let there : next sub ≡ acts terms (held sub ++ one.1 ∷ []) = rw t refl in
          let whole : held_then_all terms batch next sub ≡ acts terms (held sub ++ one.1 ∷ []) = untouched terms batch next sub alone ∙ there in
          rw t whole
      | inr f ↦
          let there : next sub ≡ held sub = rw f refl in
          let whole : held_then_all terms batch next sub ≡ held_then_all terms batch held sub = local_then terms batch next held sub there in
          rw f whole
    ]

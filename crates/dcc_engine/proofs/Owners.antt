-- The one that all who pass are.
use Rattle.std.proofs.Common.{◌≡◌, ◌≢◌, ◌↔◌, Bool, true, false, List, [], ◌∷◌, filter, Option, Some, None, refl, sym, ap, subst, ◌∙◌, inl, inr}
use Rattle.std.specs.List.{list_all}
use Rattle.std.proofs.lemmas.Bool.{cases_Bool, and_parts, and_from}
use Rattle.dcc_act.specs.declared.sub.Sub.{Sub}
use Rattle.dcc_act.specs.Subs.{same_sub, SameAreEqual}
use Rattle.dcc_openers.specs.declared.found.Found.{Found}
use Rattle.dcc_openers.specs.declared.found.Found.TheVariants as founds
use Rattle.dcc_openers.specs.Found.{one_of}
use Rattle.dcc_shard.specs.Openers.{IsFound}
use Rattle.dcc_shard.specs.Shards.{is_among}
use Rattle.dcc_engine.specs.Openers.{the_one}

-- nothing is true and false
pub never : {X : Type 0} → false ≡ true → X
never h = absurd cc

among_head : SameAreEqual → (x : Sub) (subs : List Sub) → is_among x (x ∷ subs) ≡ true
among_head law x subs = rw ((law x x).1 refl) refl

pub among_more : (x : Sub) (subs : List Sub) (sub : Sub) → is_among sub subs ≡ true → is_among sub (x ∷ subs) ≡ true
among_more x subs sub h = elim (cases_Bool (same_sub x sub)) [
  | inl t ↦ rw t refl
  | inr f ↦ rw f h
]

-- who is among some and passes is among those that pass, and who is among these passes
among_filter : SameAreEqual → (p : Sub → Bool) (subs : List Sub) (sub : Sub) → is_among sub subs ≡ true → p sub ≡ true → is_among sub (filter p subs) ≡ true
among_filter law p [] sub h good = never h
among_filter law p (x ∷ subs) sub h good = elim (cases_Bool (same_sub x sub)) [
  | inl t ↦ (let here : p x ≡ true = ap p ((law x sub).0 t) ∙ good in rw (here, t) refl)
  | inr f ↦ (let later : is_among sub subs ≡ true = rw f at h in
      let rest = among_filter law p subs sub later good in
      elim (cases_Bool (p x)) [
        | inl k ↦ rw (k, f) rest
        | inr n ↦ rw n rest
      ])
]

among_passes : SameAreEqual → (p : Sub → Bool) (subs : List Sub) (sub : Sub) → is_among sub (filter p subs) ≡ true → p sub ≡ true
among_passes law p [] sub h = never h
among_passes law p (x ∷ subs) sub h = elim (cases_Bool (p x)) [
  | inl k ↦ (let there : is_among sub (x ∷ filter p subs) ≡ true = rw k at h in
      elim (cases_Bool (same_sub x sub)) [
        | inl t ↦ ap p (sym ((law x sub).0 t)) ∙ k
        | inr f ↦ (let later : is_among sub (filter p subs) ≡ true = rw f at there in among_passes law p subs sub later)
      ])
  | inr n ↦ (let later : is_among sub (filter p subs) ≡ true = rw n at h in among_passes law p subs sub later)
]

all_same : SameAreEqual → (x : Sub) (others : List Sub) → list_all (same_sub x) others ≡ true → (sub : Sub) → is_among sub others ≡ true → sub ≡ x
all_same law x [] all sub h = never h
all_same law x (y ∷ others) all sub h =
    let parts = and_parts (same_sub x y) (list_all (same_sub x) others) all in
    elim (cases_Bool (same_sub y sub)) [
      | inl t ↦ sym ((law x y).0 parts.0 ∙ (law y sub).0 t)
      | inr f ↦ (let later : is_among sub others ≡ true = rw f at h in all_same law x others parts.1 sub later)
    ]

all_equal : SameAreEqual → (x : Sub) (others : List Sub) → ((sub : Sub) → is_among sub others ≡ true → sub ≡ x) → list_all (same_sub x) others ≡ true
all_equal law x [] only = refl
all_equal law x (y ∷ others) only =
    and_from (same_sub x y) (list_all (same_sub x) others) ((law x y).1 (sym (only y (among_head law y others)))) (all_equal law x others (λ sub h. only sub (among_more y others sub h)))

the_one_by : SameAreEqual → (found : List Sub) (sub : Sub) → the_one found ≡ Some sub → (is_among sub found ≡ true) × ((other : Sub) → is_among other found ≡ true → other ≡ sub)
the_one_by law [] sub h = absurd cc
the_one_by law (x ∷ others) sub h = elim (cases_Bool (list_all (same_sub x) others)) [
  | inl t ↦ (let e : Some x ≡ Some sub = rw t at h in
      let is : x ≡ sub = cc in (
        subst (λ (s : Sub). is_among s (x ∷ others) ≡ true) is (among_head law x others),
        λ other m. elim (cases_Bool (same_sub x other)) [
          | inl s ↦ sym ((law x other).0 s) ∙ is
          | inr f ↦ (let later : is_among other others ≡ true = rw f at m in all_same law x others t other later ∙ is)
        ],
      ))
  | inr f ↦ absurd (let e = rw f at h in cc)
]

the_one_if : SameAreEqual → (found : List Sub) (sub : Sub) → is_among sub found ≡ true → ((other : Sub) → is_among other found ≡ true → other ≡ sub) → the_one found ≡ Some sub
the_one_if law [] sub h only = never h
the_one_if law (x ∷ others) sub h only =
    let is : x ≡ sub = only x (among_head law x others) in
    let all : list_all (same_sub x) others ≡ true = all_equal law x others (λ s m. only s (among_more x others s m) ∙ sym is) in
    rw all (ap (λ (s : Sub). Some s) is)

-- of those that pass, all of whom are listed, the one is the only one
pub the_one_is : SameAreEqual → (p : Sub → Bool) (subs : List Sub) → ((s : Sub) → p s ≡ true → is_among s subs ≡ true) → (sub : Sub)
    → (the_one (filter p subs) ≡ Some sub) ↔ ((p sub ≡ true) × ((other : Sub) → p other ≡ true → other ≡ sub))
the_one_is law p subs covers sub = (
  λ h. let b = the_one_by law (filter p subs) sub h in (among_passes law p subs sub b.0, λ other good. b.1 other (among_filter law p subs other (covers other good) good)),
  λ h. the_one_if law (filter p subs) sub (among_filter law p subs sub (covers sub h.0) h.0) (λ other m. h.1 other (among_passes law p subs other m)),
)

not_some : (o : Option Sub) → ((s : Sub) → o ≡ Some s → ⊥) → o ≡ None
not_some None h = refl
not_some (Some s) h = absurd (h s refl)

pub found_is : SameAreEqual → (p : Sub → Bool) (subs : List Sub) → ((s : Sub) → p s ≡ true → is_among s subs ≡ true) → (found : Found) → IsFound p found → the_one (filter p subs) ≡ one_of found
found_is law p subs covers founds.None none =
    not_some (the_one (filter p subs)) (λ s e. let b = (the_one_is law p subs covers s).0 e in never (sym (none s) ∙ b.0))
found_is law p subs covers (founds.One sub) is = (the_one_is law p subs covers sub).1 is
found_is law p subs covers founds.Several many =
    not_some (the_one (filter p subs)) (λ s e. let b = (the_one_is law p subs covers s).0 e in many.2 (b.1 many.0 many.3 ∙ sym (b.1 many.1 many.4)))

same_option : (o p : Option Sub) → ((s : Sub) → o ≡ Some s → p ≡ Some s) → ((s : Sub) → p ≡ Some s → o ≡ Some s) → o ≡ p
same_option None None forth back = refl
same_option None (Some s) forth back = back s refl
same_option (Some s) p forth back = sym (forth s refl)

-- two lists in which the same pass, and are listed, have the same one
pub one_alike : SameAreEqual → (p q : Sub → Bool) (xs ys : List Sub) → ((s : Sub) → p s ≡ true → is_among s xs ≡ true) → ((s : Sub) → q s ≡ true → is_among s ys ≡ true)
    → ((s : Sub) → p s ≡ q s) → the_one (filter p xs) ≡ the_one (filter q ys)
one_alike law p q xs ys first second alike =
    let a = the_one_is law p xs first in
    let b = the_one_is law q ys second in
    same_option (the_one (filter p xs)) (the_one (filter q ys))
    (λ s e. let h = (a s).0 e in (b s).1 (sym (alike s) ∙ h.0, λ other good. h.1 other (alike other ∙ good)))
    (λ s e. let h = (b s).0 e in (a s).1 (alike s ∙ h.0, λ other good. h.1 other (sym (alike other) ∙ good)))

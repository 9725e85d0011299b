-- Numbers of the acts that shards hold, one subscriber after another and one shard after another.
use Rattle.std.proofs.Common.{◌≡◌, ◌≢◌, ℕ, ◌+◌, Bool, true, false, cond, ◌||◌, nat_lt, if◌then◌else◌, List, [], ◌∷◌, length, Option, Some, refl, sym, ap, ◌∙◌, inl, inr, arith}
use Rattle.std.specs.Map.{lookup}
use Rattle.std.specs.Option.{option_map_or}
use Rattle.std.proofs.lemmas.Bool.{cases_Bool}
use Rattle.std.proofs.lemmas.Grind.{common_steps}
use Rattle.dcc_act.specs.declared.act.Act.{Act}
use Rattle.dcc_act.specs.declared.sub.Sub.{Sub}
use Rattle.dcc_act.specs.Subs.{same_sub}
use Rattle.dcc_running.specs.inner.Numbers.{Numbers, number_of, or_before}

abbrev number_or_none : Option ℕ → ℕ
number_or_none found = option_map_or (λ (number : ℕ). number) found 0

or_true : (b : Bool) → b || true ≡ true
or_true true = refl
or_true false = refl

or_false : (b : Bool) → b || false ≡ b
or_false true = refl
or_false false = refl

pub counted_more : (entries new : Numbers) (item sub : Sub) (number : ℕ) (h : List Act) (old : ℕ) (among more : Bool)
    → lookup (same_sub sub) new ≡ cond (same_sub item sub) (Some number) (lookup (same_sub sub) entries)
    → (same_sub item sub ≡ true → number ≡ length h) → more ≡ among || same_sub item sub
    → number_of entries sub ≡ (if among then length h else old) → number_of new sub ≡ (if more then length h else old)
counted_more entries new item sub number h old among more updates is more_is before =
    elim (cases_Bool (same_sub item sub)) [
      | inl same ↦
          let m : more ≡ true = more_is ∙ (ap (λ b. among || b) same ∙ or_true among) in
          ap number_or_none updates ∙ rw (same, m) (is same)
      | inr other ↦
          let m : more ≡ among = more_is ∙ (ap (λ b. among || b) other ∙ or_false among) in
          ap number_or_none updates ∙ rw (other, m) before
    ]

cons_not_nil : (a : Act) (h : List Act) → a ∷ h ≢ []
cons_not_nil a h e = grind (arith, common_steps)

pub number_by : (h : List Act) (old : ℕ) (among : Bool) → (among ≡ true → h ≢ []) → (among ≡ false → h ≡ []) → (if among then length h else old) ≡ or_before h old
number_by [] old true some none = absurd (some refl refl)
number_by [] old false some none = refl
number_by (a ∷ h) old true some none = refl
number_by (a ∷ h) old false some none = absurd (cons_not_nil a h (none refl))

pub next_part : (r i : ℕ) (b h : List Act) (now : ℕ) → now ≡ (if nat_lt r i then length b else 0) → (h ≢ [] → r ≡ i) → (r ≡ i → b ≡ h)
    → or_before h now ≡ (if nat_lt r (i + 1) then length b else 0)
next_part r i b [] now before placed own =
    elim (cases_Bool (nat_lt r i)) [
      | inl lower ↦ let m : nat_lt r (i + 1) ≡ true = grind (arith, common_steps) in before ∙ rw (lower, m) refl
      | inr not_lower ↦ elim (cases_Bool (nat_lt r (i + 1))) [
        | inl here ↦
            let e : r ≡ i = grind (arith, common_steps) in
            before ∙ rw (not_lower, here) (sym (ap (λ (l : List Act). length l) (own e)))
        | inr higher ↦ before ∙ rw (not_lower, higher) refl
      ]
    ]
next_part r i b (a ∷ h) now before placed own =
    let e : r ≡ i = placed (cons_not_nil a h) in
    let here : nat_lt r (i + 1) ≡ true = grind (arith, common_steps) in
    rw here (sym (ap (λ (l : List Act). length l) (own e)))

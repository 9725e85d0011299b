-- How messages go out, step by step.
use Rattle.std.proofs.Common.{◌≡◌, ℕ, zero, suc, ◌-◌, ◌≤◌, ◌<◌, ◌≢◌, ◌⊎◌, inl, inr, ◌∙◌, List, [], ◌∷◌, ◌++◌, length, drop, max, min, nat_eq, nat_le, nat_lt, false, refl, sym, ap, subst, arith}
use Rattle.std.proofs.lemmas.Bool.Decides.{nat_tests}
use Rattle.std.proofs.lemmas.Grind.{common_steps}
use Rattle.std.proofs.lemmas.List.{drop_at, drop-append-le, length-drop, nil_from_length}
use Rattle.std.specs.List.{AllByRecursion, concat}
use Rattle.dcc_sockets.specs.Messages.{Continue, IsMessage, ends, ends_behind, left_behind, left_in, stated}

stated_front : (m k : List ℕ) → IsMessage m → stated (m ++ k) ≡ length m
stated_front [] k is = absurd (omega (arith, is.0))
stated_front (a ∷ []) k is = absurd (omega (arith, is.0))
stated_front (a ∷ b ∷ []) k is = absurd (omega (arith, is.0))
stated_front (a ∷ b ∷ c ∷ []) k is = absurd (omega (arith, is.0))
stated_front (a ∷ b ∷ c ∷ d ∷ m) k is =
    let long : nat_lt (length ((a ∷ b ∷ c ∷ d ∷ m) ++ k)) 4 ≡ false = grind (arith, nat_tests) in
    let size = is.0 in
    let top : max (length (a ∷ b ∷ c ∷ d ∷ m)) 1 ≡ length (a ∷ b ∷ c ∷ d ∷ m) = grind (arith, size) in
    rw long (ap (λ n. max n 1) is.1 ∙ top)

-- at a message's first octet
pub at_start : (octets : List ℕ) (later : List (List ℕ)) (more : ℕ) → Continue 0 later octets → more ≤ length octets → 0 < more
    → (rest : List (List ℕ)) × (0 < stated octets) × Continue (stated octets) rest octets × (ends_behind (stated octets) more rest ≡ ends more later)
    × (left_behind (stated octets) more rest ≡ left_in more later)
at_start octets later zero h few some = absurd (omega (arith, some))
at_start octets [] (suc more) h few some =
    let none : h.0 ≡ [] = nil_from_length h.0 h.1 in
    let empty : length octets ≡ 0 = ap (λ l. length l) (h.2 ∙ ap (λ l. l ++ []) none) in
    absurd (omega (arith, few, empty))
at_start octets (m ∷ ms) (suc more) h few some =
    let none : h.0 ≡ [] = nil_from_length h.0 h.1 in
    let is : octets ≡ m ++ concat ms = h.2 ∙ ap (λ l. l ++ concat (m ∷ ms)) none in
    let size : stated octets ≡ length m = ap stated is ∙ stated_front m (concat ms) h.3.0 in
    let large = h.3.0.0 in (
      ms,
      omega (arith, size, large),
      (m, sym size, is, h.3.1),
      grind (arith, common_steps, size, large),
      grind (arith, common_steps, size, large),
    )

-- to a message's end
pub to_end : (left more : ℕ) (octets : List ℕ) (later : List (List ℕ)) → Continue left later octets → more ≤ length octets → 0 < left → left ≤ more
    → Continue 0 later (drop left octets) × (more - left ≤ length (drop left octets)) × (suc (ends (more - left) later) ≡ ends_behind left more later)
    × (left_in (more - left) later ≡ left_behind left more later)
to_end left more octets later h few some all =
    let size = h.1 in
    let is : drop left octets ≡ concat later = ap (drop left) h.2 ∙ drop_at h.0 (concat later) left size in
    let long = length-drop left octets in (
      ([], refl, is, h.3),
      omega (arith, few, all, long),
      grind (arith, common_steps, some, all),
      grind (arith, common_steps, some, all),
    )

-- within a message
pub within : (left more : ℕ) (octets : List ℕ) (later : List (List ℕ)) → Continue left later octets → more < left
    → Continue (left - more) later (drop more octets) × (ends_behind left more later ≡ 0) × (left_behind left more later ≡ left - more)
within left more octets later h part =
    let size = h.1 in
    let is : drop more octets ≡ drop more h.0 ++ concat later = ap (drop more) h.2 ∙ drop-append-le more h.0 (concat later) (omega (arith, size, part)) in
    let long = length-drop more h.0 in (
      (drop more h.0, omega (arith, size, long), is, h.3),
      grind (arith, common_steps, part),
      grind (arith, common_steps, part),
    )

-- before a step: of the message that has begun, or of the next, so many octets are left
pub begun : (left start more : ℕ) (octets : List ℕ) (later : List (List ℕ)) → ((left ≡ 0) × (start ≡ stated octets)) ⊎ ((left ≢ 0) × (start ≡ left)) → 0 < more
    → Continue left later octets → more ≤ length octets
    → (rest : List (List ℕ)) × (0 < start) × Continue start rest octets × (ends_behind start more rest ≡ ends_behind left more later)
    × (left_behind start more rest ≡ left_behind left more later)
begun left start more octets later (inl none) some h few =
    let was : Continue 0 later octets = subst (λ n. Continue n later octets) none.0 h in
    let at = at_start octets later more was few some in
    let same : stated octets ≡ start = sym none.1 in (
      at.0,
      subst (λ n. 0 < n) same at.1,
      subst (λ n. Continue n at.0 octets) same at.2,
      subst (λ n. ends_behind n more at.0 ≡ ends_behind left more later) same (at.3 ∙ ap (λ n. ends_behind n more later) (sym none.0)),
      subst (λ n. left_behind n more at.0 ≡ left_behind left more later) same (at.4 ∙ ap (λ n. left_behind n more later) (sym none.0)),
    )
begun left start more octets later (inr some_left) some h few =
    let same : left ≡ start = sym some_left.1 in
    let not = some_left.0 in
    let positive : 0 < left = grind (arith, not) in (
      later,
      subst (λ n. 0 < n) same positive,
      subst (λ n. Continue n later octets) same h,
      ap (λ n. ends_behind n more later) some_left.1,
      ap (λ n. left_behind n more later) some_left.1,
    )

-- a step to the end of the message
pub ended_on : (start more step : ℕ) (octets : List ℕ) (later : List (List ℕ)) → step ≡ min start more → start - step ≡ 0 → 0 < start → Continue start later octets
    → more ≤ length octets
    → Continue (start - step) later (drop step octets) × (more - step ≤ length (drop step octets))
    × (suc (ends_behind (start - step) (more - step) later) ≡ ends_behind start more later) × (left_behind (start - step) (more - step) later ≡ left_behind start more later)
ended_on start more step octets later is none some h few =
    let all : start ≤ more = omega (arith, is, none) in
    let same : start ≡ step = omega (arith, is, none) in
    let end = to_end start more octets later h few some all in
    let zero : 0 ≡ start - step = sym none in
    let by : Continue 0 later (drop step octets) × (more - step ≤ length (drop step octets)) × (suc (ends (more - step) later) ≡ ends_behind start more later)
    × (left_in (more - step) later ≡ left_behind start more later) =
    subst (λ n. Continue 0 later (drop n octets) × (more - n ≤ length (drop n octets)) × (suc (ends (more - n) later) ≡ ends_behind start more later)
    × (left_in (more - n) later ≡ left_behind start more later)) same end in (
      subst (λ n. Continue n later (drop step octets)) zero by.0,
      by.1,
      subst (λ n. suc (ends_behind n (more - step) later) ≡ ends_behind start more later) zero by.2,
      subst (λ n. left_behind n (more - step) later ≡ left_behind start more later) zero by.3,
    )

-- a step within the message
pub went_on : (start more step : ℕ) (octets : List ℕ) (later : List (List ℕ)) → step ≡ min start more → start - step ≢ 0 → Continue start later octets → more ≤ length octets
    → Continue (start - step) later (drop step octets) × (more - step ≤ length (drop step octets))
    × (ends_behind (start - step) (more - step) later ≡ ends_behind start more later) × (left_behind (start - step) (more - step) later ≡ left_behind start more later)
went_on start more step octets later is some h few =
    let same : more ≡ step = grind (arith, is, some) in
    let part : more < start = grind (arith, is, some) in
    let in_it = within start more octets later h part in
    let on : Continue (start - step) later (drop step octets) = subst (λ n. Continue (start - n) later (drop n octets)) same in_it.0 in
    let none : more - step ≡ 0 = omega (arith, same) in (
      on,
      omega (arith, none),
      grind (arith, common_steps, none, some) ∙ sym in_it.1,
      grind (arith, common_steps, none, some, same) ∙ sym in_it.2,
    )

-- nothing ends in no octets
ends_none : (messages : List (List ℕ)) → AllByRecursion IsMessage messages → ends 0 messages ≡ 0
ends_none [] all = refl
ends_none (m ∷ ms) all =
    let large = all.0.0 in
    let t : nat_le (length m) 0 ≡ false = grind (arith, nat_tests, large) in
    rw t refl

left_none : (messages : List (List ℕ)) → left_in 0 messages ≡ 0
left_none [] = refl
left_none (m ∷ ms) = refl

pub none_more : (left more : ℕ) (later : List (List ℕ)) → more ≡ 0 → AllByRecursion IsMessage later → (ends_behind left more later ≡ 0) × (left_behind left more later ≡ left)
none_more zero more later none all = (ap (λ n. ends n later) none ∙ ends_none later all, ap (λ n. left_in n later) none ∙ left_none later)
none_more (suc left) more later none all =
    let s : nat_eq (suc left) 0 ≡ false = grind (arith, nat_tests) in
    let t : nat_le (suc left) more ≡ false = grind (arith, nat_tests, none) in
    (rw s (rw t refl), rw s (rw t (omega (arith, none))))

stated_some : (octets : List ℕ) → 0 < stated octets
stated_some octets = grind (arith, common_steps)

pub taken_on : (left start more step : ℕ) (octets : List ℕ) → ((left ≡ 0) × (start ≡ stated octets)) ⊎ ((left ≢ 0) × (start ≡ left)) → step ≡ min start more → 0 < more
    → 0 < step
taken_on left start more step octets (inl none) is some = let large = stated_some octets in let same = none.1 in omega (arith, is, some, large, same)
taken_on left start more step octets (inr begun) is some = let not = begun.0 in let same = begun.1 in grind (arith, is, some, not, same)

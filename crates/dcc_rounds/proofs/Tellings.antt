-- How the lines of rounds go on.
use Rattle.std.proofs.Common.{◌≡◌, ◌≢◌, true≢false, ℕ, ◌+◌, ◌<◌, false, List, [], ◌∷◌, ◌++◌, length, take, Option, refl, sym, ap, ◌∙◌, subst, append_assoc, append-nil, arith}
use Rattle.std.proofs.Math.Seq.{take-length}
use Rattle.std.proofs.KnownBytes.{Appends-nil, Appends-trans, Appends-kept}
use Rattle.std.proofs.lemmas.Fn.{FoldsTo-push}
use Rattle.std.specs.Io.KnownBytes.{Appends, Keeps}
use Rattle.dcc_rounds.specs.Lines.{round_line, round_lines, AreTold, EndsWith, is_numbered}
use Rattle.dcc_rounds.specs.Served.{AreServed}
use Rattle.dcc_rounds.specs.declared.fault.ServeFault.{ServeFault}
use Rattle.dcc_rounds.specs.declared.fault.ServeFault.TheVariants.{Memory, Io, Close, Store}
use Rattle.dcc_rounds.specs.declared.line.Counts.{Counts}

length_one : (ended : List Counts) (one : Counts) → length (ended ++ one ∷ []) ≡ length ended + 1
length_one [] one = refl
length_one (x ∷ ended) one = omega (arith, length_one ended one)

lines_one : (first : ℕ) (ended : List Counts) (one : Counts) → round_lines first (ended ++ one ∷ []) ≡ round_lines first ended ++ round_line (first + length ended) one
lines_one first [] one =
    let same : first ≡ first + 0 = omega arith in
    append-nil (round_line first one) ∙ ap (λ k. round_line k one) same
lines_one first (x ∷ ended) one =
    let same : first + 1 + length ended ≡ first + length (x ∷ ended) = omega arith in
    ap (λ l. round_line first x ++ l) (lines_one (first + 1) ended one ∙ ap (λ k. round_lines (first + 1) ended ++ round_line k one) same)
    ∙ sym (append_assoc (round_line first x) (round_lines (first + 1) ended) (round_line (first + length (x ∷ ended)) one))

pub none_told : (a : Option (List ℕ)) → AreTold 0 a a
none_told a = ([], refl, Appends-nil a)

-- one more round has ended
pub one_told : (a b c : Option (List ℕ)) (rounds number : ℕ) (one : Counts) → AreTold rounds a b → number ≡ rounds + 1 → Appends b c (round_line number one) → AreTold (rounds + 1) a c
one_told a b c rounds number one told is more =
    let same : number ≡ 1 + length told.0 = omega (arith, is, told.1) in
    let line : Appends b c (round_line (1 + length told.0) one) = subst (λ k. Appends b c (round_line k one)) same more in (
      told.0 ++ one ∷ [],
      length_one told.0 one ∙ ap (λ k. k + 1) told.1,
      subst (Appends a c) (sym (lines_one 1 told.0 one)) (Appends-trans a b c (round_lines 1 told.0) (round_line (1 + length told.0) one) told.2 line),
    )

kept_told : (a b c : Option (List ℕ)) (ended : ℕ) → AreTold ended a b → Keeps b c → AreTold ended a c
kept_told a b c ended told kept = (told.0, told.1, Appends-kept a b c (round_lines 1 told.0) told.2 kept)

-- a fault came before a line, and none of records does
pub ends_before : (Ends : ServeFault → Type 0) → ((number : ℕ) → Ends (Store number) → ⊥) → (fault : ServeFault) (a b : Option (List ℕ)) (ended rounds : ℕ)
    → Ends fault → ended < rounds → AreTold ended a b → EndsWith fault rounds a b
ends_before Ends none Memory a b ended rounds is few told = (ended, few, told)
ends_before Ends none (Close number) a b ended rounds is few told = (ended, few, told)
ends_before Ends none (Store number) a b ended rounds is few told = absurd (none number is)
ends_before Ends none Io a b ended rounds is few told =
    let next : Counts = record { requests = 0; answers = 0; acts = 0 } in
    (told.0, next, 0, omega (arith, few, told.1), subst (Appends a b) (sym (append-nil (round_lines 1 told.0))) told.2)

-- a fault came with a line
pub ends_in_line : (fault : ServeFault) (a b c : Option (List ℕ)) (ended rounds number : ℕ) (one : Counts) → is_numbered fault ≡ false
    → (fault ≢ Io → Keeps b c) → (fault ≡ Io → (n : ℕ) × Appends b c (take n (round_line number one)))
    → number ≡ ended + 1 → ended < rounds → AreTold ended a b → EndsWith fault rounds a c
ends_in_line Memory a b c ended rounds number one is silent part next few told =
    let other : Memory ≢ Io = grind arith in
    (ended, few, kept_told a b c ended told (silent other))
ends_in_line (Close fault) a b c ended rounds number one is silent part next few told = absurd (true≢false is)
ends_in_line (Store fault) a b c ended rounds number one is silent part next few told = absurd (true≢false is)
ends_in_line Io a b c ended rounds number one is silent part next few told =
    let begun = part refl in
    let same : number ≡ length told.0 + 1 = omega (arith, next, told.1) in
    let line : Appends b c (take begun.0 (round_line (length told.0 + 1) one)) = subst (λ k. Appends b c (take begun.0 (round_line k one))) same begun.1 in (
      told.0,
      one,
      begun.0,
      omega (arith, few, told.1),
      Appends-trans a b c (round_lines 1 told.0) (take begun.0 (round_line (length told.0 + 1) one)) told.2 line,
    )

-- the listener failed in a round that has its whole line
pub ends_behind_line : (a b c : Option (List ℕ)) (ended rounds number : ℕ) (one : Counts) → Appends b c (round_line number one)
    → number ≡ ended + 1 → ended < rounds → AreTold ended a b → EndsWith Io rounds a c
ends_behind_line a b c ended rounds number one whole next few told =
    let line = round_line number one in
    ends_in_line Io a b c ended rounds number one refl (λ other. absurd (other refl))
    (λ same. (length line, subst (Appends b c) (sym (take-length line)) whole)) next few told

pub last_of : {A B C D : Type 0} → A × B × C × D → D
last_of (a, b, c, d) = d

pub none_served : {S : Type 0} (round : S → Counts → S → Type 0) (first : S) (a : Option (List ℕ)) → AreServed round 0 first first a a
none_served round first a = ([], refl, refl, Appends-nil a)

pub told_of : {S : Type 0} (round : S → Counts → S → Type 0) (rounds : ℕ) (first last : S) (a b : Option (List ℕ)) → AreServed round rounds first last a b → AreTold rounds a b
told_of round rounds first last a b served = (served.0, served.1, served.3)

-- one more round was served
pub one_served : {S : Type 0} (round : S → Counts → S → Type 0) (rounds number : ℕ) (first last next : S) (one : Counts) (a b c : Option (List ℕ))
    → AreServed round rounds first last a b → round last one next → number ≡ rounds + 1 → Appends b c (round_line number one) → AreServed round (rounds + 1) first next a c
unfolding one_told
one_served round rounds number first last next one a b c served it is more =
    let told = one_told a b c rounds number one (served.0, served.1, served.3) is more in
    (served.0 ++ one ∷ [], told.1, FoldsTo-push round first served.0 last one next served.2 it, told.2)

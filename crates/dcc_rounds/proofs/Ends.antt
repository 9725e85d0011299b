-- With which faults a round ends, and a server.
use Rattle.std.proofs.Common.{◌≡◌, ℕ, ◌+◌, ◌<◌, true, false, true≢false, Bool, List, Option, Some, None, refl, sym, subst}
use Rattle.std.proofs.lemmas.Bool.{eqb-true}
use Rattle.std.specs.Io.KnownBytes.{Appends}
use Rattle.dcc_rounds.specs.Lines.{is_numbered, is_of_lanes, of_number, round_line}
use Rattle.dcc_rounds.specs.Served.{AreServed, EndsRounds}
use Rattle.dcc_rounds.specs.declared.fault.ServeFault.{ServeFault}
use Rattle.dcc_rounds.specs.declared.fault.ServeFault.TheVariants.{Memory, Io, Close, Store}
use Rattle.dcc_rounds.specs.declared.line.Counts.{Counts}

-- what is said of want of memory and of a listener is said of each fault without a number
pub of_unnumbered : (Said : ServeFault → Type 0) → Said Memory → Said Io → (fault : ServeFault) → is_numbered fault ≡ false → Said fault
of_unnumbered Said memory io Memory is = memory
of_unnumbered Said memory io Io is = io
of_unnumbered Said memory io (Close number) is = absurd (true≢false is)
of_unnumbered Said memory io (Store number) is = absurd (true≢false is)

-- what is said of want of memory and of a missing sender is said of each fault of lanes
pub of_lanes : (Said : ServeFault → Type 0) → Said Memory → Said (Close 80) → (fault : ServeFault) → is_of_lanes fault ≡ true → Said fault
of_lanes Said memory missing Memory is = memory
of_lanes Said memory missing Io is = absurd (true≢false (sym is))
of_lanes Said memory missing (Close number) is = subst (λ n. Said (Close n)) (sym (eqb-true number 80 is)) missing
of_lanes Said memory missing (Store number) is = absurd (true≢false (sym is))

-- a fault of the comparison is want of memory, or has its number
pub of_compared : (Said : ServeFault → Type 0) → Said Memory → (told : Option ℕ) → ((number : ℕ) → told ≡ Some number → Said (Close number)) → Said (of_number told)
of_compared Said memory None numbered = memory
of_compared Said memory (Some number) numbered = numbered number refl

-- a round ended by a fault, behind good ones
pub ends_behind : {S : Type 0} (good round : S → Counts → S → Type 0) (ends : S → ServeFault → Type 0) (stopped : S → Bool)
    → ((last : S) (number : ℕ) → ends last (Store number) → ⊥) → (fault : ServeFault) (ended rounds : ℕ) (first last : S) (a b : Option (List ℕ))
    → ended < rounds → AreServed good ended first last a b → ends last fault → EndsRounds good round ends stopped fault rounds first a b
ends_behind good round ends stopped none Memory ended rounds first last a b few served is = tt
ends_behind good round ends stopped none Io ended rounds first last a b few served is = tt
ends_behind good round ends stopped none (Close number) ended rounds first last a b few served is = (ended, few, last, served, is)
ends_behind good round ends stopped none (Store number) ended rounds first last a b few served is = absurd (none last number is)

-- records had failed behind a round, and its line was written
pub ends_stopped : {S : Type 0} (good round : S → Counts → S → Type 0) (ends : S → ServeFault → Type 0) (stopped : S → Bool) (ended rounds number : ℕ)
    (first last next : S) (one : Counts) (a b c : Option (List ℕ)) → ended < rounds → AreServed good ended first last a b → round last one next → stopped next ≡ true
    → number ≡ ended + 1 → Appends b c (round_line number one) → EndsRounds good round ends stopped (Store 51) rounds first a c
ends_stopped good round ends stopped ended rounds number first last next one a b c few served is failed numbered line =
    (refl, (ended, few, last, next, one, b, served, is, failed, subst (λ n. Appends b c (round_line n one)) numbered line))

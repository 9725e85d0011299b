-- Who opened a session from a host, by several shards.
use Rattle.std.proofs.Common.{◌≡◌, ◌≢◌, ℕ, ◌+◌, ◌<◌, ◌≤◌, ◌==◌, Bool, true, false, ◌&&◌, ◌||◌, List, [], ◌∷◌, length, get_or, true≢false, refl, sym, ap, ◌∙◌, arith, inl, inr}
use Rattle.std.specs.Prelude.{nat_lt}
use Rattle.std.proofs.lemmas.Bool.{cases_Bool, and_parts, false_from_ne_true, eqb-true, eq-eqb, ltb-true, lt-ltb}
use Rattle.std.proofs.lemmas.Bool.Decides.{nat_tests}
use Rattle.dcc_tariff.specs.Terms.{TermsView}
use Rattle.dcc_message.specs.declared.identity.Identity.{Identity}
use Rattle.dcc_act.specs.declared.act.Act.{Act}
use Rattle.dcc_act.specs.declared.sub.Sub.{Sub}
use Rattle.dcc_act.specs.Subs.{SameAreEqual}
use Rattle.dcc_model.specs.Outcomes.{was_opened_from}
use Rattle.dcc_openers.specs.Found.{joined}
use Rattle.dcc_openers.specs.declared.found.Found.{Found}
use Rattle.dcc_openers.specs.declared.found.Found.TheVariants as found
use Rattle.dcc_shard.specs.Openers.{IsFound, opened}
use Rattle.dcc_shard.specs.Routes.{shard_of}
use Rattle.dcc_shard.specs.Shards.{ShardView, held}
use Rattle.dcc_shard.specs.Stored.{StoredView}
use Rattle.dcc_shard.specs.inner.Routed.{as_one, AreShards}
use Rattle.dcc_shard.proofs.Opening.{found_same, nothing_opened, or_true, and_true, and_false}
use Rattle.dcc_shard.proofs.Routing.{at_shard, is_below}

or_false : (b : Bool) → (b || false) ≡ b
or_false true = refl
or_false false = refl

or_right : (a b : Bool) → b ≡ true → (a || b) ≡ true
or_right a b is = ap (λ (x : Bool). a || x) is ∙ or_true a

or_left : (a b : Bool) → a ≡ true → (a || b) ≡ true
or_left a b is = ap (λ (x : Bool). x || b) is

-- who is found by two tests that no subscriber passes both
joins : (p q r : Sub → Bool) (one other : Found) → IsFound p one → IsFound q other → ((sub : Sub) → r sub ≡ (p sub || q sub)) → ((sub : Sub) → p sub ≡ true → q sub ≡ false) → IsFound r (joined one other)
joins p q r found.None other none is both apart = found_same q r other is (λ sub. both sub ∙ ap (λ (b : Bool). b || q sub) (none sub))
joins p q r (found.One a) found.None is none both apart = found_same p r (found.One a) is (λ sub. both sub ∙ ap (λ (b : Bool). p sub || b) (none sub) ∙ or_false (p sub))
joins p q r found.Several found.None is none both apart = found_same p r found.Several is (λ sub. both sub ∙ ap (λ (b : Bool). p sub || b) (none sub) ∙ or_false (p sub))
joins p q r (found.One a) (found.One b) is other both apart =
    let differ : a ≢ b = λ e. (let none : q b ≡ false = ap q (sym e) ∙ apart a is.0 in let some = other.0 in absurd cc) in
    (a, b, differ, both a ∙ or_left (p a) (q a) is.0, both b ∙ or_right (p b) (q b) other.0)
joins p q r (found.One a) found.Several is two both apart =
    (two.0, two.1, two.2, both two.0 ∙ or_right (p two.0) (q two.0) two.3, both two.1 ∙ or_right (p two.1) (q two.1) two.4)
joins p q r found.Several (found.One b) two is both apart =
    (two.0, two.1, two.2, both two.0 ∙ or_left (p two.0) (q two.0) two.3, both two.1 ∙ or_left (p two.1) (q two.1) two.4)
joins p q r found.Several found.Several two is both apart =
    (two.0, two.1, two.2, both two.0 ∙ or_left (p two.0) (q two.0) two.3, both two.1 ∙ or_left (p two.1) (q two.1) two.4)

-- a subscriber of a shard before this one opened the session
abbrev pub opened_before : {R : Type 0} → ShardView → List (StoredView R) → (i : ℕ) → (h s : List ℕ) → Sub → Bool
opened_before whole shards i h s sub = nat_lt (shard_of sub (length shards)) i && opened whole h s sub

-- a list is empty if what it would tell is wrong
empty_unless : (xs : List Act) (P : Type 0) → (xs ≢ [] → P) → (P → ⊥) → xs ≡ []
empty_unless [] P told wrong = refl
empty_unless (x ∷ xs) P told wrong = absurd (wrong (told (λ (e : x ∷ xs ≡ []). cc)))

-- a subscriber opened it by what one shard holds, just where it is that shard's and opened it
opened_there : {R : Type 0} → SameAreEqual → (terms : TermsView) (identity : Identity) (shards : List (StoredView R)) (i : ℕ) (row : StoredView R) → AreShards terms identity shards → i < length shards
    → row ≡ get_or shards i row → (h s : List ℕ) (sub : Sub) → opened row.shard h s sub ≡ ((shard_of sub (length shards) == i) && opened (as_one terms identity shards) h s sub)
opened_there {R} same terms identity shards i row are below is h s sub =
    let n = length shards in
    let terms_are : row.shard.terms ≡ terms = ap (λ (v : StoredView R). v.shard.terms) is ∙ are.terms_are i row below in
    elim (cases_Bool (shard_of sub n == i)) [
      | inl t ↦
          let e = eqb-true (shard_of sub n) i t in
          let there = at_shard same terms identity shards i row sub are (sym e) is in
          rw t (ap (λ (ts : TermsView). was_opened_from ts (held row.shard sub) h s) there.terms_are ∙ ap (λ (xs : List Act). was_opened_from terms xs h s) there.held_is)
      | inr f ↦
          let at : held (get_or shards i row).shard sub ≡ held row.shard sub = ap (λ (v : StoredView R). held v.shard sub) (sym is) in
          let empty : held row.shard sub ≡ [] = empty_unless (held row.shard sub) (shard_of sub n ≡ i) (λ some. are.placed i row sub below (λ none. some (sym at ∙ none)))
          (λ e. true≢false (sym (eq-eqb (shard_of sub n) i e) ∙ f)) in
          rw f (ap (λ (ts : TermsView). was_opened_from ts (held row.shard sub) h s) terms_are ∙ ap (λ (xs : List Act). was_opened_from terms xs h s) empty ∙ nothing_opened terms h s)
    ]

lt_none : (k : ℕ) → nat_lt k 0 ≡ false
lt_none k = grind (arith, nat_tests)

lt_next : (k m : ℕ) → nat_lt k (m + 1) ≡ (nat_lt k m || (k == m))
lt_next k m = grind (arith, nat_tests)

up_to_next : (k m : ℕ) (b : Bool) → (nat_lt k (m + 1) && b) ≡ ((nat_lt k m && b) || ((k == m) && b))
up_to_next k m true = and_true (nat_lt k (m + 1)) ∙ lt_next k m ∙ ap (λ (x : Bool). x || (k == m)) (sym (and_true (nat_lt k m))) ∙ ap (λ (x : Bool). (nat_lt k m && true) || x) (sym (and_true (k == m)))
up_to_next k m false = and_false (nat_lt k (m + 1)) ∙ sym (ap (λ (x : Bool). x || ((k == m) && false)) (and_false (nat_lt k m)) ∙ and_false (k == m))

not_below : (k m : ℕ) (b : Bool) → (nat_lt k m && b) ≡ true → ((k == m) && b) ≡ false
not_below k m b h =
    let parts = and_parts (nat_lt k m) b h in
    let below = ltb-true k m parts.0 in
    let differ : (k == m) ≡ false = false_from_ne_true (k == m) (λ t. (let e = eqb-true k m t in absurd (omega (arith, below, e)))) in
    ap (λ (x : Bool). x && b) differ

-- with one shard more
pub one_shard_more : {R : Type 0} → SameAreEqual → (terms : TermsView) (identity : Identity) (shards : List (StoredView R)) (i : ℕ) (row : StoredView R) (h s : List ℕ) (before there : Found)
    → AreShards terms identity shards → i < length shards → row ≡ get_or shards i row → IsFound (opened_before (as_one terms identity shards) shards i h s) before → IsFound (opened row.shard h s) there
    → IsFound (opened_before (as_one terms identity shards) shards (i + 1) h s) (joined before there)
one_shard_more same terms identity shards i row h s before there are below is found_before found_there =
    let whole = opened (as_one terms identity shards) h s in
    let n = length shards in
    joins (opened_before (as_one terms identity shards) shards i h s) (opened row.shard h s) (opened_before (as_one terms identity shards) shards (i + 1) h s) before there found_before found_there
    (λ sub. up_to_next (shard_of sub n) i (whole sub) ∙ ap (λ (b : Bool). (nat_lt (shard_of sub n) i && whole sub) || b) (sym (opened_there same terms identity shards i row are below is h s sub)))
    (λ sub h1. opened_there same terms identity shards i row are below is h s sub ∙ not_below (shard_of sub n) i (whole sub) h1)

-- of no shard nobody opened it
pub no_shard_yet : {R : Type 0} (terms : TermsView) (identity : Identity) (shards : List (StoredView R)) (h s : List ℕ) → IsFound (opened_before (as_one terms identity shards) shards 0 h s) found.None
no_shard_yet terms identity shards h s sub = ap (λ (b : Bool). b && opened (as_one terms identity shards) h s sub) (lt_none (shard_of sub (length shards)))

-- of all of them just who opened it
pub all_shards : {R : Type 0} (terms : TermsView) (identity : Identity) (shards : List (StoredView R)) (i : ℕ) (h s : List ℕ) (who : Found) → AreShards terms identity shards → length shards ≤ i
    → IsFound (opened_before (as_one terms identity shards) shards i h s) who → IsFound (opened (as_one terms identity shards) h s) who
all_shards terms identity shards i h s who are whole is =
    found_same (opened_before (as_one terms identity shards) shards i h s) (opened (as_one terms identity shards) h s) who is
    (λ sub. let below : nat_lt (shard_of sub (length shards)) i ≡ true = lt-ltb (shard_of sub (length shards)) i (omega (arith, whole, is_below shards are.some sub)) in rw below refl)

-- Phrases and lines, one after another.
use Rattle.std.proofs.Common.{◌≡◌, ℕ, ◌+◌, ◌<◌, ◌≤◌, ◌==◌, not, Bool, true, List, [], ◌∷◌, ◌++◌, length, length-append, drop}
use Rattle.std.proofs.Common.{slice_index_or, add-one, refl, sym, ◌∙◌, append_assoc, arith}
use Rattle.std.proofs.Math.Seq.{drop-cons}
use Rattle.std.proofs.lemmas.Bool.Decides.{nat_tests}
use Rattle.std.proofs.lemmas.List.{drop_all, append-nil}
use Rattle.std.proofs.Common.{map, take, get_or, ap, false, suc, ◌||◌, if◌then◌else◌}
use Rattle.std.proofs.lemmas.List.{take_more, map-append}
use Rattle.dcc_act.specs.declared.sub.Sub.{Sub}
use Rattle.dcc_engine.specs.declared.event.Out.{Out}
use Rattle.dcc_replay.specs.Printed.{refused_of, all_refused, refused, or_dash, numbered, lines_of_out, lines_from, printed}

pub numbered-append : (n : ℕ) (xs ys : List (List ℕ)) → numbered n (xs ++ ys) ≡ numbered n xs ++ numbered n ys
numbered-append n [] ys = refl
numbered-append n (x ∷ xs) ys = rw (numbered-append n xs ys) (sym (append_assoc _ (numbered n xs) (numbered n ys)))

or_dash-some : (phrases : List (List ℕ)) → 0 < length phrases → or_dash phrases ≡ phrases
or_dash-some [] some = absurd (omega arith)
or_dash-some (phrase ∷ phrases) some = refl

-- a test that a list isn't empty
pub some_of : (phrases : List (List ℕ)) (some : Bool) → some ≡ not (length phrases == 0) → some ≡ true → 0 < length phrases
some_of phrases some says holds = grind (arith, nat_tests)

-- three lists of phrases, of which one has a phrase
pub spoken : (n : ℕ) (a b c : List (List ℕ)) (old x y z : List ℕ) → x ≡ old ++ numbered n a → y ≡ x ++ numbered n b → z ≡ y ++ numbered n c
    → 0 < length a + length b + length c → z ≡ old ++ numbered n (or_dash (a ++ b ++ c))
spoken n a b c old x y z first second third some =
    let many : 0 < length (a ++ b ++ c) = simp length-append (omega arith) in
    rw (or_dash-some (a ++ b ++ c) many) (rw (numbered-append n (a ++ b) c)
    (rw (numbered-append n a b) (rw third (rw second (rw first (simp append_assoc))))))

dropped : (outs : List Out) (i : ℕ) (d : Out) → i < length outs → drop i outs ≡ slice_index_or outs i d ∷ drop (i + 1) outs
dropped outs i d within = rw (drop-cons outs i d within) (rw add-one refl)

first_line : (n : ℕ) (out : Out) (outs : List Out) → lines_from n (out ∷ outs) ≡ lines_of_out n out ++ lines_from (n + 1) outs
unfolding lines_from
first_line n out outs = refl

-- the lines of the event at i, and those of the later ones
pub line_step : (outs : List Out) (i : ℕ) (d : Out) (old new all : List ℕ) → old ++ lines_from (i + 1) (drop i outs) ≡ all
    → i < length outs → new ≡ old ++ lines_of_out (i + 1) (slice_index_or outs i d)
    → new ++ lines_from (i + 1 + 1) (drop (i + 1) outs) ≡ all
line_step outs i d old new all so_far within given =
    let later = lines_from (i + 1 + 1) (drop (i + 1) outs) in
    rw given (append_assoc old (lines_of_out (i + 1) (slice_index_or outs i d)) later
    ∙ (rw (← (first_line (i + 1) (slice_index_or outs i d) (drop (i + 1) outs))) (rw (← (dropped outs i d within)) so_far)))

nothing_left : (n : ℕ) → lines_from n [] ≡ []
unfolding lines_from
nothing_left n = refl

pub last_line : (outs : List Out) (i : ℕ) (text : List ℕ) → length outs ≤ i
    → text ++ lines_from (i + 1) (drop i outs) ≡ lines_from 1 outs → text ≡ printed outs
unfolding printed
last_line outs i text past so_far = sym (append-nil text) ∙ rw (nothing_left (i + 1)) at (rw (drop_all i outs past) at so_far)

-- the lines of one more subscriber
pub subs_more : (n : ℕ) (subs : List Sub) (i : ℕ) (sub : Sub) (old now new : List ℕ) → i < length subs → sub ≡ get_or subs i sub
    → now ≡ old ++ numbered n (map refused_of (take i subs)) → new ≡ now ++ numbered n (refused_of sub ∷ []) → new ≡ old ++ numbered n (map refused_of (take (i + 1) subs))
subs_more n subs i sub old now new within is before line =
    let more : map refused_of (take (i + 1) subs) ≡ map refused_of (take i subs) ++ refused_of sub ∷ [] =
    ap (map refused_of) (take_more subs i sub within) ∙ ap (λ (s : Sub). map refused_of (take i subs ++ s ∷ [])) (sym is) ∙ map-append refused_of (take i subs) (sub ∷ []) in
    line ∙ ap (λ (text : List ℕ). text ++ numbered n (refused_of sub ∷ [])) before
    ∙ append_assoc old (numbered n (map refused_of (take i subs))) (numbered n (refused_of sub ∷ []))
    ∙ ap (λ (lines : List ℕ). old ++ lines) (sym (ap (numbered n) more ∙ numbered-append n (map refused_of (take i subs)) (refused_of sub ∷ [])))

-- two lists of phrases, one after the other
pub both_lines : (n : ℕ) (a b : List (List ℕ)) (old x y : List ℕ) → x ≡ old ++ numbered n a → y ≡ x ++ numbered n b → y ≡ old ++ numbered n (a ++ b)
both_lines n a b old x y first second =
    second ∙ ap (λ (text : List ℕ). text ++ numbered n b) first ∙ append_assoc old (numbered n a) (numbered n b)
    ∙ ap (λ (lines : List ℕ). old ++ lines) (sym (numbered-append n a b))

suc_some : (n : ℕ) → not (suc n == 0) ≡ true
suc_some n = grind (arith, nat_tests)

pub some_both : (a b : List (List ℕ)) → not (length (a ++ b) == 0) ≡ (not (length a == 0) || not (length b == 0))
some_both [] b = refl
some_both (phrase ∷ a) b = suc_some (length (a ++ b)) ∙ sym (ap (λ (some : Bool). some || not (length b == 0)) (suc_some (length a)))

some_all : (all : Bool) (phrase : List ℕ) → not (length (if all then phrase ∷ [] else []) == 0) ≡ all
some_all true phrase = refl
some_all false phrase = refl

some_subs : (subs : List Sub) → not (length (map refused_of subs) == 0) ≡ not (length subs == 0)
some_subs [] = refl
some_subs (sub ∷ subs) = suc_some (length (map refused_of subs)) ∙ sym (suc_some (length subs))

-- a sweep refused one, or all
pub some_refused : (out : Out) → not (length (refused out) == 0) ≡ (not (length out.refused == 0) || out.refused_all)
unfolding refused
some_refused out =
    some_both (map refused_of out.refused) (all_refused out)
    ∙ ap (λ (some : Bool). some || not (length (all_refused out) == 0)) (some_subs out.refused)
    ∙ ap (λ (all : Bool). not (length out.refused == 0) || all) (some_all out.refused_all _)
